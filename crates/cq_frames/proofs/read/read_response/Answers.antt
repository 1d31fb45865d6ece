use Rattle.std.proofs.Common.{ap, subst, ◌∙◌, arith}
use Rattle.cq_frames.specs.Layout.{response}
use Rattle.cq_frames.specs.Limits.{IsResponse}
use Rattle.cq_frames.specs.Reading.{response_at}
use Rattle.cq_frames.proofs.ResponseLaws.{response_reads, response_is_read}
use Rattle.cq_wire.specs.Reading.{Gives, whole_at}
use Rattle.cq_wire.proofs.Wholes.{is_found, whole_is_read}
use Rattle.cq_frames.proofs.read.read_response.Goals as goal

pub returns-clause-found : goal.returns-clause-found
returns-clause-found c = is_found response response_at IsResponse response_reads c.args.bytes.now c.whole_response.result (λ i. omega (arith, c.type_inv.bytes i)) c.whole_response.ensures

pub returns-clause-only : goal.returns-clause-only
returns-clause-only c = λ x fits e. subst (λ r. Gives (λ y. y) c.whole_response.result r) (ap (whole_at response_at) e ∙ whole_is_read response response_at IsResponse response_is_read x fits) c.whole_response.ensures
