-- The piece is a message, or it can't be read.
use Rattle.std.proofs.Common.{◌∙◌}
use Rattle.cq_master_process.proofs.Steps.{refuses-memory, refuses-unread, takes-read}
use Rattle.cq_master_process.proofs.process.MasterProcess.take_piece.Goals as goal

pub returns-in-Ok-clause-took : goal.returns-in-Ok-clause-took
returns-in-Ok-clause-took c =
    takes-read c.take_message.result c.args.self.now c.take_message.new.self c.args.from c.args.number c.args.piece.now c.in-Ok.message c.requires.in_turn c.in-Ok.ensures.found c.take_message.ensures.took

pub returns-in-Ok-clause-refused : goal.returns-in-Ok-clause-refused
returns-in-Ok-clause-refused c = refuses-memory c.take_message.result c.args.self.now c.args.from c.args.number c.args.piece.now c.requires.in_turn c.take_message.ensures.refused

pub returns-in-Err-clause-refused : goal.returns-in-Err-clause-refused
returns-in-Err-clause-refused c =
    refuses-unread c.in-Err.fault c.args.self.now c.args.from c.args.number c.args.piece.now c.from.result c.requires.in_turn c.in-Err.ensures.exact (c.from.ensures ∙ c.code.ensures)
