-- One link more.
use Rattle.std.proofs.Common.{◌∙◌, refl}
use Rattle.cq_nodes.proofs.ClientTurns.{keeps_still, keeps_both}
use Rattle.cq_nodes.proofs.Growing.{prefix_none, prefix_both}
use Rattle.cq_nodes.proofs.client_node.ClientNode.take_from_each.Goals as goal

pub loop-place-init : goal.loop-place-init
loop-place-init g c =
    let old = c.args.self.now in
    record { same = keeps_still g.P.PutEnd.link g.T.TakeEnd.link old; closed = prefix_none old.closed; starved = refl }

pub loop-place-preserved : goal.loop-place-preserved
loop-place-preserved g c =
    let at = c.loop-place in
    let old = c.args.self.now in
    let new = c.take_from.new.self in
    record {
      same = keeps_both g.P.PutEnd.link g.T.TakeEnd.link old at.self new at.invariant.same c.take_from.ensures.same;
      closed = prefix_both old.closed at.self.closed new.closed at.invariant.closed c.take_from.ensures.closed;
      starved = c.take_from.ensures.starved ∙ at.invariant.starved;
    }

pub returns-in_err-taken-clause-closed : goal.returns-in_err-taken-clause-closed
returns-in_err-taken-clause-closed g c =
    let at = c.loop-place in
    prefix_both c.args.self.now.closed at.self.closed c.take_from.new.self.closed at.invariant.closed c.take_from.ensures.closed
