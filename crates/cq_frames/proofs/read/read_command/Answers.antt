use Rattle.std.proofs.Common.{ap, subst, ◌∙◌, arith}
use Rattle.cq_frames.specs.Layout.{command}
use Rattle.cq_frames.specs.Limits.{IsCommand}
use Rattle.cq_frames.specs.Reading.{command_at}
use Rattle.cq_frames.proofs.CommandLaws.{command_reads, command_is_read}
use Rattle.cq_wire.specs.Reading.{Gives, whole_at}
use Rattle.cq_wire.proofs.Wholes.{is_found, whole_is_read}
use Rattle.cq_frames.proofs.read.read_command.Goals as goal

pub returns-clause-found : goal.returns-clause-found
returns-clause-found c = is_found command command_at IsCommand command_reads c.args.bytes.now c.whole_command.result (λ i. omega (arith, c.type_inv.bytes i)) c.whole_command.ensures

pub returns-clause-only : goal.returns-clause-only
returns-clause-only c = λ x fits e. subst (λ r. Gives (λ y. y) c.whole_command.result r) (ap (whole_at command_at) e ∙ whole_is_read command command_at IsCommand command_is_read x fits) c.whole_command.ensures
