-- A server joined that was asked for, or the core refused.
use Rattle.std.proofs.Common.{◌∙◌, List, ap, refl, subst, map, Ok}
use Rattle.cq_base.specs.Relations.{Among}
use Rattle.cq_live_plan.specs.declared.joins.Join.{Join}
use Rattle.cq_nodes.specs.MasterMoves.{back_of_servers}
use Rattle.cq_nodes.proofs.MasterSteps.{noted, master_joined, master_waiting}
use Rattle.cq_nodes.proofs.NodeSteps.{not_taken, none_taken}
use Rattle.cq_events.specs.declared.event.Event.TheVariants as events
use Rattle.cq_nodes.proofs.master_node.MasterNode.join.Goals as goal

pub invariant_of-self-in_err-joined-in-Some : goal.invariant_of-self-in_err-joined-in-Some
invariant_of-self-in_err-joined-in-Some g c =
    let old = c.self.inside in
    master_waiting g.P.PutEnd.list g.T.TakeEnd.list old.size old.joins.items old.core c.join_one.new.core old.outs.items old.ins.items old.trace.items c.reserve.new.self.items c.self.invariant old.ins.items refl
    (c.join_one.ensures.idle (not_taken c.join_one.result _ c.in_err-joined-in-Some.was)) (λ seen taken. taken) c.in_ok-reserve.ensures.items

pub invariant_of-self-then-joined : goal.invariant_of-self-then-joined
invariant_of-self-then-joined g c =
    let old = c.self.inside in
    master_joined g.P.PutEnd.list g.T.TakeEnd.list old.size old.joins.items old.core c.join_one.new.core old.outs.items old.ins.items old.trace.items c.push_reserved.new.self.items c.self.invariant c.in-Some.id
    (subst (λ (joins : List Join). Among c.in-Some.id (map (λ join. join.server) joins)) c.deref.ensures.value c.in-Some.ensures.named)
    (c.join_one.ensures.joined (back_of_servers old.outs.items) (c.in_ok-joined-in-Some.was ∙ ap Ok c.if-joined.true))
    (noted old.trace.items c.reserve.new.self.items c.push_reserved.new.self.items (events.Join c.in-Some.id) c.push_reserved.ensures.items c.in_ok-reserve.ensures.items)

pub invariant_of-self-else-joined : goal.invariant_of-self-else-joined
invariant_of-self-else-joined g c =
    let old = c.self.inside in
    master_waiting g.P.PutEnd.list g.T.TakeEnd.list old.size old.joins.items old.core c.join_one.new.core old.outs.items old.ins.items old.trace.items c.reserve.new.self.items c.self.invariant old.ins.items refl
    (c.join_one.ensures.idle (none_taken c.join_one.result _ c.in_ok-joined-in-Some.was c.if-joined.false)) (λ seen taken. taken) c.in_ok-reserve.ensures.items
