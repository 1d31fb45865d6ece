use Rattle.std.proofs.Common.{ap, subst, ◌∙◌, arith}
use Rattle.cq_wire.specs.Layout.{query}
use Rattle.cq_wire.specs.Limits.{IsQuery}
use Rattle.cq_wire.specs.Reading.{Gives, query_at, whole_at}
use Rattle.cq_wire.proofs.AskLaws.{query_reads, query_is_read}
use Rattle.cq_wire.proofs.Wholes.{is_found, whole_is_read}
use Rattle.cq_wire.proofs.read.read_query.Goals as goal

pub returns-clause-found : goal.returns-clause-found
returns-clause-found c = is_found query query_at IsQuery query_reads c.args.bytes.now c.whole_query.result (λ i. omega (arith, c.type_inv.bytes i)) c.whole_query.ensures

pub returns-clause-only : goal.returns-clause-only
returns-clause-only c = λ x fits e. subst (λ r. Gives (λ y. y) c.whole_query.result r) (ap (whole_at query_at) e ∙ whole_is_read query query_at IsQuery query_is_read x fits) c.whole_query.ensures
