-- A request arrived, or none.
use Rattle.std.proofs.Common.{arith, ◌∙◌, ◌++◌, ◌∷◌, [], ap, Ok}
use Rattle.cq_nodes.specs.Ends.{back_of}
use Rattle.cq_nodes.proofs.Growing.{crash_kept, crash_more}
use Rattle.cq_nodes.proofs.NodeSteps.{ran_arrived, ran_unasked, refused_came, none_came, room_if}
use Rattle.cq_events.specs.declared.event.Event.TheVariants as events
use Rattle.cq_nodes.proofs.ServerTurns.{up_still}
use Rattle.cq_nodes.proofs.server_node.ServerNode.take_request.Goals as goal

pub invariant_of-self-in_err-request : goal.invariant_of-self-in_err-request
invariant_of-self-in_err-request g c =
    let old = c.self.inside in (
      ran_unasked g.P.PutEnd.list g.T.TakeEnd.list g.I.TakeEnd.list old.size old.id old.core c.arrive_one.new.core old.outs.items old.clients old.ins.items old.inbox old.trace.items c.reserve.new.self.items old.crash_after old.starved c.self.invariant.0 c.arrive_one.new.inbox
          (c.arrive_one.ensures.idle (refused_came c.arrive_one.result _ c.in_err-request.was)) c.arrive_one.ensures.list c.in_ok-reserve.ensures.items,
      room_if old.ended _ _ (omega (arith, c.in_ok-reserve.ensures.ok)),
      crash_kept old.id old.trace.items c.reserve.new.self.items old.starved old.ended c.self.invariant.2 c.in_ok-reserve.ensures.items,
    )

pub invariant_of-self-in-Some : goal.invariant_of-self-in-Some
invariant_of-self-in-Some g c =
    let old = c.self.inside in
    let clock = c.moment_of-clock.result in
    let request = c.in-Some.request in (
      ran_arrived g.P.PutEnd.list g.T.TakeEnd.list g.I.TakeEnd.list old.size old.id old.core c.arrive_one.new.core old.outs.items old.clients old.ins.items old.inbox old.trace.items c.push_reserved.new.self.items old.crash_after old.starved c.self.invariant.0 c.arrive_one.new.inbox clock request
          (c.arrive_one.ensures.arrived (back_of old.outs.items old.clients.kept) request (c.in_ok-request.was ∙ ap Ok c.in-Some.is))
          (c.push_reserved.ensures.items ∙ ap (λ us. us ++ events.Arrive old.id clock request ∷ []) c.in_ok-reserve.ensures.items),
      room_if old.ended _ _ (omega (arith, c.in_ok-reserve.ensures.ok, c.push_reserved.ensures.len, c.push_reserved.ensures.capacity)),
      crash_more old.id old.trace.items c.push_reserved.new.self.items old.starved old.ended c.self.invariant.2 (up_still _ c.args.self.now c.self.view_is c.requires.up) (events.Arrive old.id clock request)
          (c.push_reserved.ensures.items ∙ ap (λ us. us ++ events.Arrive old.id clock request ∷ []) c.in_ok-reserve.ensures.items) (λ same. absurd (cc)),
    )

pub invariant_of-self-in-None : goal.invariant_of-self-in-None
invariant_of-self-in-None g c =
    let old = c.self.inside in (
      ran_unasked g.P.PutEnd.list g.T.TakeEnd.list g.I.TakeEnd.list old.size old.id old.core c.arrive_one.new.core old.outs.items old.clients old.ins.items old.inbox old.trace.items c.reserve.new.self.items old.crash_after old.starved c.self.invariant.0 c.arrive_one.new.inbox
          (c.arrive_one.ensures.idle (none_came c.arrive_one.result (c.in_ok-request.was ∙ ap Ok c.in-None.is))) c.arrive_one.ensures.list c.in_ok-reserve.ensures.items,
      room_if old.ended _ _ (omega (arith, c.in_ok-reserve.ensures.ok)),
      crash_kept old.id old.trace.items c.reserve.new.self.items old.starved old.ended c.self.invariant.2 c.in_ok-reserve.ensures.items,
    )
