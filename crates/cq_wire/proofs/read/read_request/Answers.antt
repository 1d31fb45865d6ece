use Rattle.std.proofs.Common.{ap, subst, ◌∙◌, arith}
use Rattle.cq_wire.specs.Layout.{request}
use Rattle.cq_wire.specs.Limits.{IsRequest}
use Rattle.cq_wire.specs.Reading.{Gives, request_at, whole_at}
use Rattle.cq_wire.proofs.AskLaws.{request_reads, request_is_read}
use Rattle.cq_wire.proofs.Wholes.{is_found, whole_is_read}
use Rattle.cq_wire.proofs.read.read_request.Goals as goal

pub returns-clause-found : goal.returns-clause-found
returns-clause-found c = is_found request request_at IsRequest request_reads c.args.bytes.now c.whole_request.result (λ i. omega (arith, c.type_inv.bytes i)) c.whole_request.ensures

pub returns-clause-only : goal.returns-clause-only
returns-clause-only c = λ x fits e. subst (λ r. Gives (λ y. y) c.whole_request.result r) (ap (whole_at request_at) e ∙ whole_is_read request request_at IsRequest request_is_read x fits) c.whole_request.ensures
