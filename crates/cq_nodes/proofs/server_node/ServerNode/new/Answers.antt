-- Its ends are fresh.
use Rattle.std.proofs.Common.{arith, refl, None, [], false, subst, sym, ◌∙◌}
use Rattle.cq_nodes.proofs.Growing.{crash_kept, crash_none}
use Rattle.cq_nodes.specs.Nodes.{ServerRan}
use Rattle.cq_nodes.proofs.Beginning.{ran_begun}
use Rattle.cq_nodes.proofs.server_node.ServerNode.new.Goals as goal

pub invariant_of-result : goal.invariant_of-result
invariant_of-result g c =
    let core = c.in_ok-core.core in
    let outs = c.into_parts-outs.result.0.items in
    let ins = c.into_parts-outs.result.1.items in (
      subst (λ trace. ServerRan g.P.PutEnd.list g.T.TakeEnd.list g.I.TakeEnd.list c.args.size c.args.id core outs (record { first = c.args.ends.first; second = c.args.ends.second; kept = None }) ins c.args.ends.inbox trace c.args.crash_after _)
          (sym (c.in_ok-reserve.ensures.items ∙ c.new-trace.ensures.items))
          (ran_begun g.P.PutEnd.list g.T.TakeEnd.list g.I.TakeEnd.list c.args.size c.args.id core outs (record { first = c.args.ends.first; second = c.args.ends.second; kept = None }) ins c.args.ends.inbox c.args.crash_after c.in_ok-core.ensures c.into_parts-outs.ensures.unput c.into_parts-outs.ensures.untaken c.requires.first c.requires.second refl),
      omega (arith, c.in_ok-reserve.ensures.ok),
      crash_kept c.args.id [] _ false false (crash_none c.args.id) (c.in_ok-reserve.ensures.items ∙ c.new-trace.ensures.items),
    )
