-- The node was over, or crashed since it was to, or worked, or found no memory.
use Rattle.std.proofs.Common.{◌∙◌, ap, arith}
use Rattle.cq_nodes.specs.Turns.{faults_of}
use Rattle.cq_nodes.proofs.ServerTurns.{not_over, up_still, had_none, had_crash, had_work, had_no_memory, over_turn, crash_turn, work_turn, starved_turn}
use Rattle.cq_nodes.proofs.server_node.ServerNode.turn.Goals as goal

pub returns-then-is_over-clause-same : goal.returns-then-is_over-clause-same
returns-then-is_over-clause-same g c = over_turn g.P.PutEnd.link g.T.TakeEnd.link g.I.TakeEnd.link c.args.self.now c.count_turn.new.self _ c.count_turn.ensures

pub returns-then-is_over-clause-had : goal.returns-then-is_over-clause-had
returns-then-is_over-clause-had g c = had_none c.args.self.now c.count_turn.new.self _ c.count_turn.ensures

pub returns-then-crash_if_due-clause-same : goal.returns-then-crash_if_due-clause-same
returns-then-crash_if_due-clause-same g c =
    let mid = c.count_turn.new.self in
    crash_turn g.P.PutEnd.link g.T.TakeEnd.link g.I.TakeEnd.link c.args.self.now mid c.crash_if_due.new.self _ c.count_turn.ensures (not_over mid.ended c.is_over.result c.is_over.ensures c.if-is_over.false)
    c.crash_if_due.ensures.same (c.crash_if_due.ensures.crashed c.if-crash_if_due.true) c.crash_if_due.ensures.unread

pub returns-then-crash_if_due-clause-had : goal.returns-then-crash_if_due-clause-had
returns-then-crash_if_due-clause-had g c = had_crash c.args.self.now c.count_turn.new.self c.crash_if_due.new.self _ c.count_turn.ensures (c.crash_if_due.ensures.crashed c.if-crash_if_due.true)

pub returns-in-Ok-true-clause-same : goal.returns-in-Ok-true-clause-same
returns-in-Ok-true-clause-same g c =
    let counted = c.count_turn.new.self in
    let mid = c.crash_if_due.new.self in
    let still = c.crash_if_due.ensures.others c.if-crash_if_due.false in
    let up = not_over counted.ended c.is_over.result c.is_over.ensures c.if-is_over.false in
    work_turn g.P.PutEnd.link g.T.TakeEnd.link g.I.TakeEnd.link c.args.self.now mid c.work.new.self _ (still ∙ c.count_turn.ensures) (up_still mid counted still up) c.work.ensures.same c.work.ensures.worked c.work.ensures.turn
    (let few = c.work.ensures.unread in let was = ap faults_of c.in-Ok-true.is in omega arith)

pub returns-in-Ok-true-clause-had : goal.returns-in-Ok-true-clause-had
returns-in-Ok-true-clause-had g c =
    let mid = c.crash_if_due.new.self in
    had_work c.args.self.now mid c.work.new.self _ (c.crash_if_due.ensures.others c.if-crash_if_due.false ∙ c.count_turn.ensures) c.work.ensures.worked c.work.ensures.turn

pub returns-in-Ok-false-clause-same : goal.returns-in-Ok-false-clause-same
returns-in-Ok-false-clause-same g c =
    let counted = c.count_turn.new.self in
    let mid = c.crash_if_due.new.self in
    let still = c.crash_if_due.ensures.others c.if-crash_if_due.false in
    let up = not_over counted.ended c.is_over.result c.is_over.ensures c.if-is_over.false in
    work_turn g.P.PutEnd.link g.T.TakeEnd.link g.I.TakeEnd.link c.args.self.now mid c.work.new.self _ (still ∙ c.count_turn.ensures) (up_still mid counted still up) c.work.ensures.same c.work.ensures.worked c.work.ensures.turn
    (let few = c.work.ensures.unread in let was = ap faults_of c.in-Ok-false.is in omega arith)

pub returns-in-Ok-false-clause-had : goal.returns-in-Ok-false-clause-had
returns-in-Ok-false-clause-had g c =
    let mid = c.crash_if_due.new.self in
    had_work c.args.self.now mid c.work.new.self _ (c.crash_if_due.ensures.others c.if-crash_if_due.false ∙ c.count_turn.ensures) c.work.ensures.worked c.work.ensures.turn

pub returns-in-Err-clause-same : goal.returns-in-Err-clause-same
returns-in-Err-clause-same g c =
    let old = c.args.self.now in
    let counted = c.count_turn.new.self in
    let mid = c.crash_if_due.new.self in
    let worked = c.work.new.self in
    let new = c.starve.new.self in
    let still = c.crash_if_due.ensures.others c.if-crash_if_due.false in
    let up = up_still mid counted still (not_over counted.ended c.is_over.result c.is_over.ensures c.if-is_over.false) in
    let down = c.work.ensures.turn.ended ∙ up in
    starved_turn g.P.PutEnd.link g.T.TakeEnd.link g.I.TakeEnd.link old mid worked new _ (still ∙ c.count_turn.ensures) up c.work.ensures.same c.starve.ensures.same
    (had_no_memory old mid worked new _ (still ∙ c.count_turn.ensures) c.work.ensures.worked c.work.ensures.turn c.work.ensures.same.id (c.starve.ensures.crashed down) c.starve.ensures.turns (c.starve.ensures.starved down))
    (c.starve.ensures.starved down) (c.starve.ensures.crashed down).ended (let few = c.work.ensures.unread in let was = ap faults_of c.in-Err.is in omega arith) c.starve.ensures.unread

pub returns-in-Err-clause-had : goal.returns-in-Err-clause-had
returns-in-Err-clause-had g c =
    let counted = c.count_turn.new.self in
    let mid = c.crash_if_due.new.self in
    let still = c.crash_if_due.ensures.others c.if-crash_if_due.false in
    let up = up_still mid counted still (not_over counted.ended c.is_over.result c.is_over.ensures c.if-is_over.false) in
    let down = c.work.ensures.turn.ended ∙ up in
    had_no_memory c.args.self.now mid c.work.new.self c.starve.new.self _ (still ∙ c.count_turn.ensures) c.work.ensures.worked c.work.ensures.turn c.work.ensures.same.id (c.starve.ensures.crashed down) c.starve.ensures.turns (c.starve.ensures.starved down)
