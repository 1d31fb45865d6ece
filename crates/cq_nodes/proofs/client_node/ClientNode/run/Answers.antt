-- One turn more.
use Rattle.cq_nodes.proofs.ClientTurns.{same_still, same_both}
use Rattle.cq_nodes.proofs.client_node.ClientNode.run.Goals as goal

pub loop-init : goal.loop-init
loop-init g c = same_still g.P.PutEnd.link g.T.TakeEnd.link c.args.self.now

pub loop-preserved : goal.loop-preserved
loop-preserved g c = same_both g.P.PutEnd.link g.T.TakeEnd.link c.args.self.now c.loop.self c.turn.new.self c.loop.invariant c.turn.ensures

pub returns-in-Ended : goal.returns-in-Ended
returns-in-Ended g c = same_both g.P.PutEnd.link g.T.TakeEnd.link c.args.self.now c.loop.self c.turn.new.self c.loop.invariant c.turn.ensures
