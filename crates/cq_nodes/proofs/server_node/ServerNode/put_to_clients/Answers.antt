-- An answer was put, or none.
use Rattle.std.proofs.Common.{arith, ◌∙◌, ◌++◌, ◌∷◌, [], ap}
use Rattle.cq_base.specs.declared.party.Party.TheVariants as parties
use Rattle.cq_nodes.proofs.Growing.{crash_kept, crash_more}
use Rattle.cq_nodes.proofs.NodeSteps.{ran_answered, ran_silent, room_if}
use Rattle.cq_events.specs.declared.event.Event.TheVariants as events
use Rattle.cq_nodes.proofs.ServerTurns.{up_still}
use Rattle.cq_nodes.proofs.server_node.ServerNode.put_to_clients.Goals as goal

pub invariant_of-self-then-put : goal.invariant_of-self-then-put
invariant_of-self-then-put g c =
    let old = c.self.inside in (
      ran_answered g.P.PutEnd.list g.T.TakeEnd.list g.I.TakeEnd.list old.size old.id old.core c.put_to_one-put.new.core old.outs.items old.clients old.ins.items old.inbox old.trace.items c.push_reserved.new.self.items old.crash_after old.starved c.self.invariant.0 c.put_to_one-put.new.clients (c.put_to_one-put.ensures.put old.outs.items c.if-put.true)
          (c.push_reserved.ensures.items ∙ ap (λ us. us ++ events.Put (parties.Server old.id) parties.Clients ∷ []) c.in_ok-reserve.ensures.items),
      room_if old.ended _ _ (omega (arith, c.in_ok-reserve.ensures.ok, c.push_reserved.ensures.len, c.push_reserved.ensures.capacity)),
      crash_more old.id old.trace.items c.push_reserved.new.self.items old.starved old.ended c.self.invariant.2 (up_still _ c.args.self.now c.self.view_is c.requires.up) (events.Put (parties.Server old.id) parties.Clients)
          (c.push_reserved.ensures.items ∙ ap (λ us. us ++ events.Put (parties.Server old.id) parties.Clients ∷ []) c.in_ok-reserve.ensures.items) (λ same. absurd (cc)),
    )

pub invariant_of-self-else-put : goal.invariant_of-self-else-put
invariant_of-self-else-put g c =
    let old = c.self.inside in
    let still = c.put_to_one-put.ensures.lists c.if-put.false in (
      ran_silent g.P.PutEnd.list g.T.TakeEnd.list g.I.TakeEnd.list old.size old.id old.core c.put_to_one-put.new.core old.outs.items old.clients old.ins.items old.inbox old.trace.items c.reserve.new.self.items old.crash_after old.starved c.self.invariant.0 c.put_to_one-put.new.clients
          (c.put_to_one-put.ensures.idle old.outs.items c.if-put.false) still.0 still.1 c.in_ok-reserve.ensures.items,
      room_if old.ended _ _ (omega (arith, c.in_ok-reserve.ensures.ok)),
      crash_kept old.id old.trace.items c.reserve.new.self.items old.starved old.ended c.self.invariant.2 c.in_ok-reserve.ensures.items,
    )
