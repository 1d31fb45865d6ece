-- A message was put, or none.
use Rattle.std.proofs.Common.{arith, ◌∙◌, ◌++◌, ◌∷◌, [], ap}
use Rattle.cq_base.specs.declared.party.Party.TheVariants as parties
use Rattle.cq_nodes.specs.Ends.{party_at}
use Rattle.cq_nodes.proofs.Growing.{crash_kept, crash_more}
use Rattle.cq_nodes.proofs.MasterSteps.{same_count}
use Rattle.cq_nodes.proofs.NodeSteps.{ran_put, ran_idle, room_if}
use Rattle.cq_events.specs.Actions.{put_to}
use Rattle.cq_events.specs.declared.event.Event.TheVariants as events
use Rattle.cq_nodes.proofs.ServerTurns.{up_still}
use Rattle.cq_nodes.proofs.server_node.ServerNode.put_on.Goals as goal

pub invariant_of-self-then-put : goal.invariant_of-self-then-put
invariant_of-self-then-put g c =
    let old = c.self.inside in
    let was = c.self.invariant.0 in
    let own = parties.Server old.id in
    let after = c.put_at-put.new.outs.items in
    let count = same_count (λ out. out.end) g.P.PutEnd.link after old.outs.items c.put_at-put.ensures.links in
    let is = c.push_reserved.ensures.items ∙ ap (λ us. us ++ events.Put own c.party_at.result ∷ []) c.in_ok-reserve.ensures.items ∙ ap (λ to. old.trace.items ++ events.Put own to ∷ []) c.party_at.ensures in (
      ran_put g.P.PutEnd.list g.T.TakeEnd.list g.I.TakeEnd.list old.size old.id old.core c.put_at-put.new.core old.outs.items old.clients old.ins.items old.inbox old.trace.items c.push_reserved.new.self.items old.crash_after old.starved was after c.args.place count
          (c.put_at-put.ensures.put old.clients.kept (λ at. put_to (party_at at) was.actions) was.puts c.if-put.true) is,
      room_if old.ended _ _ (omega (arith, c.in_ok-reserve.ensures.ok, c.push_reserved.ensures.len, c.push_reserved.ensures.capacity)),
      crash_more old.id old.trace.items c.push_reserved.new.self.items old.starved old.ended c.self.invariant.2 (up_still _ c.args.self.now c.self.view_is c.requires.up) (events.Put own (party_at c.args.place)) is (λ same. absurd (cc)),
    )

pub invariant_of-self-else-put : goal.invariant_of-self-else-put
invariant_of-self-else-put g c =
    let old = c.self.inside in
    let after = c.put_at-put.new.outs.items in
    let count = same_count (λ out. out.end) g.P.PutEnd.link after old.outs.items c.put_at-put.ensures.links in (
      ran_idle g.P.PutEnd.list g.T.TakeEnd.list g.I.TakeEnd.list old.size old.id old.core c.put_at-put.new.core old.outs.items old.clients old.ins.items old.inbox old.trace.items c.reserve.new.self.items old.crash_after old.starved c.self.invariant.0 after count
          (c.put_at-put.ensures.idle old.clients.kept c.if-put.false) (λ sent put. c.put_at-put.ensures.lists sent put c.if-put.false) c.in_ok-reserve.ensures.items,
      room_if old.ended _ _ (omega (arith, c.in_ok-reserve.ensures.ok)),
      crash_kept old.id old.trace.items c.reserve.new.self.items old.starved old.ended c.self.invariant.2 c.in_ok-reserve.ensures.items,
    )
