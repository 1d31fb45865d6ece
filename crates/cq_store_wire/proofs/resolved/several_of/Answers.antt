use Rattle.std.proofs.Common.{◌+◌, List, ℕ, drop, sym, ap, ◌∙◌}
use Rattle.cq_base.specs.declared.reply.Delivery.{Delivery}
use Rattle.cq_store_wire.specs.Bodies.{all_resolved, and_bodies, and_body}
use Rattle.cq_store_wire.proofs.Places.{drop-past}
use Rattle.cq_store_wire.proofs.Resolving.{after, bodies-and, ends, fails, goes-on, next-one}
use Rattle.cq_store_wire.proofs.resolved.several_of.Goals as goal

pub returns-in-Err-clause-deliveries : goal.returns-in-Err-clause-deliveries
returns-in-Err-clause-deliveries c =
    fails c.loop-kept.deliveries.items c.loop-kept.bodies (drop c.loop-kept.kept-index c.args.records.now) (drop (c.loop-kept.kept-index + 1) c.args.records.now) c.kept-item.result c.in-Err.fault (all_resolved c.args.bodies.now c.args.records.now)
    (next-one c.args.records.now c.loop-kept.kept-index c.kept-item.result c.loop-kept-test.true c.kept-item.is) c.in-Err.ensures.delivery c.loop-kept.invariant.same

pub loop-kept-preserved : goal.loop-kept-preserved
loop-kept-preserved c = record {
  same = ap (λ (ds : List Delivery). after ds (all_resolved c.delivery_of.new.bodies (drop (c.loop-kept.kept-index + 1) c.args.records.now))) c.in_ok-push.ensures.items
      ∙ goes-on c.loop-kept.deliveries.items c.loop-kept.bodies c.delivery_of.new.bodies (drop c.loop-kept.kept-index c.args.records.now) (drop (c.loop-kept.kept-index + 1) c.args.records.now) c.kept-item.result c.in-Ok.delivery (all_resolved c.args.bodies.now c.args.records.now)
      (next-one c.args.records.now c.loop-kept.kept-index c.kept-item.result c.loop-kept-test.true c.kept-item.is) c.in-Ok.ensures.delivery c.in-Ok.ensures.known c.loop-kept.invariant.same;
  known = c.in-Ok.ensures.known ∙ ap (λ (ks : List (List ℕ)). and_body ks c.in-Ok.delivery.body) c.loop-kept.invariant.known ∙ sym (bodies-and c.args.bodies.now c.loop-kept.deliveries.items c.in-Ok.delivery)
      ∙ ap (λ (ds : List Delivery). and_bodies c.args.bodies.now ds) (sym c.in_ok-push.ensures.items);
}

pub returns-clause-deliveries : goal.returns-clause-deliveries
returns-clause-deliveries c =
    ends c.loop-kept.deliveries.items c.loop-kept.bodies (drop c.loop-kept.kept-index c.args.records.now) (all_resolved c.args.bodies.now c.args.records.now) (drop-past c.args.records.now c.loop-kept.kept-index c.loop-kept-test.false) c.loop-kept.invariant.same
