-- Out of turn nothing is read.
use Rattle.std.proofs.Common.{◌∙◌, sym, inl}
use Rattle.cq_master_process.proofs.process.MasterProcess.take.Goals as goal

pub returns-then-not-is_in_turn-clause-refused : goal.returns-then-not-is_in_turn-clause-refused
returns-then-not-is_in_turn-clause-refused c = inl (sym c.is_in_turn.ensures.is ∙ c.if-not-is_in_turn.true, c.from.ensures ∙ c.code.ensures)

pub take_piece-requires-clause-in_turn : goal.take_piece-requires-clause-in_turn
take_piece-requires-clause-in_turn c = sym c.is_in_turn.ensures.is ∙ c.if-not-is_in_turn.false

pub take_piece-requires-clause-room : goal.take_piece-requires-clause-room
take_piece-requires-clause-room c = c.is_in_turn.ensures.room c.if-not-is_in_turn.false
