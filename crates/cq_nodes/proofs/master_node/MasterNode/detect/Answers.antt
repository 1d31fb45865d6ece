-- A crash was detected, or the core refused.
use Rattle.std.proofs.Common.{◌∙◌, ap, refl, Ok}
use Rattle.cq_nodes.specs.MasterMoves.{back_of_servers}
use Rattle.cq_nodes.proofs.MasterSteps.{noted, master_detected, master_waiting}
use Rattle.cq_nodes.proofs.NodeSteps.{not_taken, none_taken}
use Rattle.cq_events.specs.declared.event.Event.TheVariants as events
use Rattle.cq_nodes.proofs.master_node.MasterNode.detect.Goals as goal

pub invariant_of-self-in_err-detected : goal.invariant_of-self-in_err-detected
invariant_of-self-in_err-detected g c =
    let old = c.self.inside in
    master_waiting g.P.PutEnd.list g.T.TakeEnd.list old.size old.joins.items old.core c.detect_one.new.core old.outs.items old.ins.items old.trace.items c.reserve.new.self.items c.self.invariant old.ins.items refl
    (c.detect_one.ensures.idle (not_taken c.detect_one.result _ c.in_err-detected.was)) (λ seen taken. taken) c.in_ok-reserve.ensures.items

pub invariant_of-self-then-detected : goal.invariant_of-self-then-detected
invariant_of-self-then-detected g c =
    let old = c.self.inside in
    master_detected g.P.PutEnd.list g.T.TakeEnd.list old.size old.joins.items old.core c.detect_one.new.core old.outs.items old.ins.items old.trace.items c.push_reserved.new.self.items c.self.invariant c.args.id
    (c.detect_one.ensures.detected (back_of_servers old.outs.items) (c.in_ok-detected.was ∙ ap Ok c.if-detected.true))
    (noted old.trace.items c.reserve.new.self.items c.push_reserved.new.self.items (events.Detect c.args.id) c.push_reserved.ensures.items c.in_ok-reserve.ensures.items)

pub invariant_of-self-else-detected : goal.invariant_of-self-else-detected
invariant_of-self-else-detected g c =
    let old = c.self.inside in
    master_waiting g.P.PutEnd.list g.T.TakeEnd.list old.size old.joins.items old.core c.detect_one.new.core old.outs.items old.ins.items old.trace.items c.reserve.new.self.items c.self.invariant old.ins.items refl
    (c.detect_one.ensures.idle (none_taken c.detect_one.result _ c.in_ok-detected.was c.if-detected.false)) (λ seen taken. taken) c.in_ok-reserve.ensures.items
