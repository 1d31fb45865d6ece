-- At most one take more.
use Rattle.std.proofs.Common.{◌+◌, ap, arith}
use Rattle.std.proofs.lemmas.Result.{err_from_is_err_and}
use Rattle.cq_nodes.specs.Turns.{take_of, each_of, is_done, faults_of}
use Rattle.cq_nodes.proofs.Growing.{grew_none}
use Rattle.cq_nodes.proofs.ServerTurns.{keeps_still, keeps_both, turn_still, turn_both, takes_more}
use Rattle.cq_nodes.proofs.server_node.ServerNode.take_all.Goals as goal

pub loop-place-init : goal.loop-place-init
loop-place-init g c =
    let old = c.args.self.now in
    record { same = keeps_still g.P.PutEnd.link g.T.TakeEnd.link g.I.TakeEnd.link old; turn = turn_still old; unread = omega arith; grew = grew_none (each_of (take_of old.id) 0) old.trace }

pub loop-place-preserved : goal.loop-place-preserved
loop-place-preserved g c =
    let at = c.loop-place in
    let old = c.args.self.now in
    let new = c.take_from.new.self in
    record {
      same = keeps_both g.P.PutEnd.link g.T.TakeEnd.link g.I.TakeEnd.link old at.self new at.invariant.same c.take_from.ensures.same;
      turn = turn_both old at.self new at.invariant.turn c.take_from.ensures.turn;
      unread = let before = at.invariant.unread in let few = c.take_from.ensures.unread in let was = ap faults_of c.in_ok-taken.was in omega arith;
      grew = takes_more old at.self new at.place (is_done c.take_from.result) at.invariant.same.id at.invariant.grew c.take_from.ensures.noted;
    }

pub returns-in_err-taken-clause-taken : goal.returns-in_err-taken-clause-taken
returns-in_err-taken-clause-taken g c =
    let at = c.loop-place in
    let old = c.args.self.now in
    record { places = at.place + 1; grew = takes_more old at.self c.take_from.new.self at.place (is_done c.take_from.result) at.invariant.same.id at.invariant.grew c.take_from.ensures.noted }

pub returns-clause-taken : goal.returns-clause-taken
returns-clause-taken g c = record { places = c.loop-place.place; grew = c.loop-place.invariant.grew }

pub returns-in_err-taken-clause-unread : goal.returns-in_err-taken-clause-unread
returns-in_err-taken-clause-unread g c = let fault = err_from_is_err_and c.from_residual.result c.from_residual.ensures.1 in let told = ap faults_of fault.1 in let before = c.loop-place.invariant.unread in let few = c.take_from.ensures.unread in let was = ap faults_of c.in_err-taken.was in omega arith

pub returns-clause-unread : goal.returns-clause-unread
returns-clause-unread g c = let before = c.loop-place.invariant.unread in omega arith
