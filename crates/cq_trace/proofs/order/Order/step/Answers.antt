-- The event was enabled.
use Rattle.cq_events.specs.Runs.{world_after}
use Rattle.cq_events.specs.Worlds.{first_world}
use Rattle.cq_trace.proofs.OfAudit.Rounds.{leads-more}
use Rattle.cq_trace.proofs.order.Order.step.Goals as goal

pub returns-in_ok-push-in-Ok-clause-leads : goal.returns-in_ok-push-in-Ok-clause-leads
returns-in_ok-push-in-Ok-clause-leads c =
    let old = c.args.self.now in
    let done = c.in-Ok.ensures.ok (world_after (first_world old.size) old.events.items) c.requires.1 in
    leads-more old.size old.events.items c.push.new.self.items c.args.event.now c.in_ok-copy-in-Ok.copy c.step.new.self c.requires.0 done.0 done.2 c.in_ok-copy-in-Ok.ensures c.in_ok-push-in-Ok.ensures.items
