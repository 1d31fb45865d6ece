use Rattle.std.proofs.Common.{ap, subst, ◌∙◌, arith}
use Rattle.cq_wire.specs.Layout.{reply}
use Rattle.cq_wire.specs.Limits.{IsReply}
use Rattle.cq_wire.specs.Reading.{Gives, reply_at, whole_at}
use Rattle.cq_wire.proofs.ReplyLaws.{reply_reads, reply_is_read}
use Rattle.cq_wire.proofs.Wholes.{is_found, whole_is_read}
use Rattle.cq_wire.proofs.read.read_reply.Goals as goal

pub returns-clause-found : goal.returns-clause-found
returns-clause-found c = is_found reply reply_at IsReply reply_reads c.args.bytes.now c.whole_reply.result (λ i. omega (arith, c.type_inv.bytes i)) c.whole_reply.ensures

pub returns-clause-only : goal.returns-clause-only
returns-clause-only c = λ x fits e. subst (λ r. Gives (λ y. y) c.whole_reply.result r) (ap (whole_at reply_at) e ∙ whole_is_read reply reply_at IsReply reply_is_read x fits) c.whole_reply.ensures
