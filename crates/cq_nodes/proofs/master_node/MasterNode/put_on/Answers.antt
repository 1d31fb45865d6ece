-- A message was put, or none.
use Rattle.std.proofs.Common.{◌+◌}
use Rattle.cq_base.specs.declared.party.Party.TheVariants as parties
use Rattle.cq_nodes.proofs.MasterSteps.{noted, same_count, master_put, master_idle}
use Rattle.cq_events.specs.Actions.{put_to}
use Rattle.cq_events.specs.declared.event.Event.TheVariants as events
use Rattle.cq_nodes.proofs.master_node.MasterNode.put_on.Goals as goal

pub invariant_of-self-then-put : goal.invariant_of-self-then-put
invariant_of-self-then-put g c =
    let old = c.self.inside in
    let was = c.self.invariant in
    master_put g.P.PutEnd.list g.T.TakeEnd.list old.size old.joins.items old.core c.put_at-put.new.core old.outs.items old.ins.items old.trace.items c.push_reserved.new.self.items was c.put_at-put.new.outs.items c.args.to (same_count (λ out. out.end) g.P.PutEnd.link c.put_at-put.new.outs.items old.outs.items c.put_at-put.ensures.links)
    (c.put_at-put.ensures.put (λ at. put_to (parties.Server (at + 1)) was.actions) was.puts c.if-put.true)
    (noted old.trace.items c.reserve.new.self.items c.push_reserved.new.self.items (events.Put parties.Master (parties.Server c.args.to)) c.push_reserved.ensures.items c.in_ok-reserve.ensures.items)

pub invariant_of-self-else-put : goal.invariant_of-self-else-put
invariant_of-self-else-put g c =
    let old = c.self.inside in
    master_idle g.P.PutEnd.list g.T.TakeEnd.list old.size old.joins.items old.core c.put_at-put.new.core old.outs.items old.ins.items old.trace.items c.reserve.new.self.items c.self.invariant c.put_at-put.new.outs.items (same_count (λ out. out.end) g.P.PutEnd.link c.put_at-put.new.outs.items old.outs.items c.put_at-put.ensures.links)
    (c.put_at-put.ensures.idle c.if-put.false) (λ sent put. c.put_at-put.ensures.lists sent put c.if-put.false) c.in_ok-reserve.ensures.items
