-- Nothing has happened.
use Rattle.cq_trace.proofs.OfAudit.Rounds.{leads-none}
use Rattle.cq_trace.proofs.order.Order.new.Goals as goal

pub returns-clause-leads : goal.returns-clause-leads
returns-clause-leads c = leads-none c.args.size c.new-2.result.items c.in_ok-new.field-0 c.new-2.ensures.items c.in_ok-new.ensures
