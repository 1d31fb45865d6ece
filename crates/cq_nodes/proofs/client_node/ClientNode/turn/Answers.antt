-- The client was done, or worked, or found no memory.
use Rattle.std.proofs.Common.{◌≡◌, true}
use Rattle.cq_nodes.proofs.ClientTurns.{same_still, same_worked, same_starved}
use Rattle.cq_nodes.proofs.Places.{both_no}
use Rattle.cq_nodes.proofs.client_node.ClientNode.turn.Goals as goal

pub returns-then-is_done : goal.returns-then-is_done
returns-then-is_done g c = same_still g.P.PutEnd.link g.T.TakeEnd.link c.args.self.now

pub returns-in-Ok-true : goal.returns-in-Ok-true
returns-in-Ok-true g c = same_worked g.P.PutEnd.link g.T.TakeEnd.link c.args.self.now c.work.new.self c.work.ensures.same c.work.ensures.closed (λ short. both_no c.is_done.result (c.is_done.ensures.starved short) c.if-is_done.false)

pub returns-in-Ok-false : goal.returns-in-Ok-false
returns-in-Ok-false g c = same_worked g.P.PutEnd.link g.T.TakeEnd.link c.args.self.now c.work.new.self c.work.ensures.same c.work.ensures.closed (λ short. both_no c.is_done.result (c.is_done.ensures.starved short) c.if-is_done.false)

pub returns-in-Err : goal.returns-in-Err
returns-in-Err g c =
    let old = c.args.self.now in
    let mid = c.work.new.self in
    let fed = λ (short : old.starved ≡ true). both_no c.is_done.result (c.is_done.ensures.starved short) c.if-is_done.false in
    same_starved g.P.PutEnd.link g.T.TakeEnd.link old mid c.starve.new.self (same_worked g.P.PutEnd.link g.T.TakeEnd.link old mid c.work.ensures.same c.work.ensures.closed fed) fed c.starve.ensures
