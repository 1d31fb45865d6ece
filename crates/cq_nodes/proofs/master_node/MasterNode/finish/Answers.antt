-- It is what the node kept all along.
use Rattle.std.proofs.Common.{subst}
use Rattle.cq_nodes.specs.MasterNodes.{MasterLived}
use Rattle.cq_nodes.proofs.MasterSteps.{master_lived}
use Rattle.cq_nodes.proofs.master_node.MasterNode.finish.Goals as goal

pub returns-clause-lived : goal.returns-clause-lived
returns-clause-lived g c =
    let own = c.self.inside in
    subst (λ held. MasterLived g.P.PutEnd.list g.T.TakeEnd.list held.size held.joins own.outs.items own.ins.items held.trace) c.self.view_is
    (master_lived g.P.PutEnd.list g.T.TakeEnd.list own.size own.joins.items own.core own.outs.items own.ins.items own.trace.items c.self.invariant)
