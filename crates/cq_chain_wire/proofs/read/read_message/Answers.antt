use Rattle.std.proofs.Common.{ap, subst, ◌∙◌, arith}
use Rattle.cq_wire.specs.Reading.{Gives, whole_at}
use Rattle.cq_wire.proofs.Wholes.{is_found, whole_is_read}
use Rattle.cq_chain_wire.specs.Layout.{message}
use Rattle.cq_chain_wire.specs.Limits.{IsMessage}
use Rattle.cq_chain_wire.specs.Reading.{message_at}
use Rattle.cq_chain_wire.proofs.MessageLaws.{message_reads, message_is_read}
use Rattle.cq_chain_wire.proofs.read.read_message.Goals as goal

pub returns-clause-found : goal.returns-clause-found
returns-clause-found c = is_found message message_at IsMessage message_reads c.args.bytes.now c.whole_message.result (λ i. omega (arith, c.type_inv.bytes i)) c.whole_message.ensures

pub returns-clause-only : goal.returns-clause-only
returns-clause-only c = λ x fits e. subst (λ r. Gives (λ y. y) c.whole_message.result r) (ap (whole_at message_at) e ∙ whole_is_read message message_at IsMessage message_is_read x fits) c.whole_message.ensures
