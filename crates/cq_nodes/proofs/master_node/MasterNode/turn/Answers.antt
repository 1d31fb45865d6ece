-- The node was over, or worked, or found no memory.
use Rattle.std.proofs.Common.{ap, arith}
use Rattle.cq_nodes.specs.Turns.{faults_of}
use Rattle.cq_nodes.proofs.MasterTurns.{orders_counted, had_orders, had_starved, over_turn, work_turn, starved_turn}
use Rattle.cq_nodes.proofs.ServerTurns.{not_over}
use Rattle.cq_nodes.proofs.master_node.MasterNode.turn.Goals as goal

pub returns-then-is_over-clause-same : goal.returns-then-is_over-clause-same
returns-then-is_over-clause-same g c = over_turn g.P.PutEnd.link g.T.TakeEnd.link c.args.self.now c.count_turn.new.self _ c.count_turn.ensures

pub returns-then-is_over-clause-had : goal.returns-then-is_over-clause-had
returns-then-is_over-clause-had g c = orders_counted g.P.PutEnd.link g.T.TakeEnd.link c.args.self.now c.count_turn.new.self _ c.count_turn.ensures

pub returns-in-Ok-true-clause-same : goal.returns-in-Ok-true-clause-same
returns-in-Ok-true-clause-same g c =
    let old = c.args.self.now in
    let mid = c.count_turn.new.self in
    let new = c.work.new.self in
    work_turn g.P.PutEnd.link g.T.TakeEnd.link old mid new _ c.count_turn.ensures (not_over mid.starved c.is_over.result c.is_over.ensures c.if-is_over.false) c.work.ensures.same
    (had_orders g.P.PutEnd.link g.T.TakeEnd.link old mid new _ c.count_turn.ensures c.work.ensures.worked c.work.ensures.moment.turns)
    (let few = c.work.ensures.unread in let was = ap faults_of c.in-Ok-true.is in omega arith)

pub returns-in-Ok-true-clause-had : goal.returns-in-Ok-true-clause-had
returns-in-Ok-true-clause-had g c = had_orders g.P.PutEnd.link g.T.TakeEnd.link c.args.self.now c.count_turn.new.self c.work.new.self _ c.count_turn.ensures c.work.ensures.worked c.work.ensures.moment.turns

pub returns-in-Ok-false-clause-same : goal.returns-in-Ok-false-clause-same
returns-in-Ok-false-clause-same g c =
    let old = c.args.self.now in
    let mid = c.count_turn.new.self in
    let new = c.work.new.self in
    work_turn g.P.PutEnd.link g.T.TakeEnd.link old mid new _ c.count_turn.ensures (not_over mid.starved c.is_over.result c.is_over.ensures c.if-is_over.false) c.work.ensures.same
    (had_orders g.P.PutEnd.link g.T.TakeEnd.link old mid new _ c.count_turn.ensures c.work.ensures.worked c.work.ensures.moment.turns)
    (let few = c.work.ensures.unread in let was = ap faults_of c.in-Ok-false.is in omega arith)

pub returns-in-Ok-false-clause-had : goal.returns-in-Ok-false-clause-had
returns-in-Ok-false-clause-had g c = had_orders g.P.PutEnd.link g.T.TakeEnd.link c.args.self.now c.count_turn.new.self c.work.new.self _ c.count_turn.ensures c.work.ensures.worked c.work.ensures.moment.turns

pub returns-in-Err-clause-same : goal.returns-in-Err-clause-same
returns-in-Err-clause-same g c =
    let old = c.args.self.now in
    let mid = c.count_turn.new.self in
    let worked = c.work.new.self in
    let new = c.starve.new.self in
    starved_turn g.P.PutEnd.link g.T.TakeEnd.link old mid worked new _ c.count_turn.ensures (not_over mid.starved c.is_over.result c.is_over.ensures c.if-is_over.false) c.work.ensures.same c.starve.ensures
    (had_starved g.P.PutEnd.link g.T.TakeEnd.link old mid worked new _ c.count_turn.ensures c.work.ensures.worked c.work.ensures.moment.turns c.starve.ensures)
    (let few = c.work.ensures.unread in let was = ap faults_of c.in-Err.is in omega arith)

pub returns-in-Err-clause-had : goal.returns-in-Err-clause-had
returns-in-Err-clause-had g c = had_starved g.P.PutEnd.link g.T.TakeEnd.link c.args.self.now c.count_turn.new.self c.work.new.self c.starve.new.self _ c.count_turn.ensures c.work.ensures.worked c.work.ensures.moment.turns c.starve.ensures
