-- From the agreement of what parties did with an order of their events.
use Rattle.cq_live.proofs.Living.{audits_order, nodes_live}
use Rattle.cq_live.proofs.laws.nodes_live.Goals as goal

pub returns-clause-audit : goal.returns-clause-audit
returns-clause-audit c = audits_order

pub returns-clause-live : goal.returns-clause-live
returns-clause-live c = nodes_live
