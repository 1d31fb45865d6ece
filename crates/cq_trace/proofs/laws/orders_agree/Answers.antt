-- From the first world on.
use Rattle.cq_trace.proofs.OfLaws.Agreeing.{orders_agree}
use Rattle.cq_trace.proofs.laws.orders_agree.Goals as goal

pub returns : goal.returns
returns c = orders_agree
