-- At most one event more.
use Rattle.std.proofs.Common.{◌+◌, ap, arith}
use Rattle.cq_base.specs.declared.party.Party.TheVariants as parties
use Rattle.cq_events.specs.declared.event.Event.TheVariants as events
use Rattle.std.proofs.lemmas.Result.{err_from_is_err_and}
use Rattle.cq_nodes.specs.Turns.{taken_at, each_of, is_done, faults_of}
use Rattle.cq_nodes.proofs.Growing.{grew_none, grew_noted, each_more}
use Rattle.cq_nodes.proofs.MasterTurns.{keeps_still, keeps_both, moment_still, moment_both}
use Rattle.cq_nodes.proofs.master_node.MasterNode.take_all.Goals as goal

pub loop-number-init : goal.loop-number-init
loop-number-init g c =
    let old = c.args.self.now in
    record { same = keeps_still g.P.PutEnd.link g.T.TakeEnd.link old; moment = moment_still old; unread = omega arith; grew = grew_none (each_of taken_at 0) old.trace }

pub loop-number-preserved : goal.loop-number-preserved
loop-number-preserved g c =
    let at = c.loop-number in
    let old = c.args.self.now in
    let new = c.take_number.new.self in
    record {
      same = keeps_both g.P.PutEnd.link g.T.TakeEnd.link old at.self new at.invariant.same c.take_number.ensures.same;
      moment = moment_both old at.self new at.invariant.moment c.take_number.ensures.moment;
      unread = let before = at.invariant.unread in let few = c.take_number.ensures.unread in let was = ap faults_of c.in_ok-any.was in omega arith;
      grew = each_more taken_at at.number old.trace at.self.trace new.trace at.invariant.grew (grew_noted (is_done c.take_number.result) (events.Take (parties.Server (at.number + 1)) parties.Master) at.self.trace new.trace c.take_number.ensures.noted);
    }

pub returns-in_err-any-clause-taken : goal.returns-in_err-any-clause-taken
returns-in_err-any-clause-taken g c =
    let at = c.loop-number in
    let old = c.args.self.now in
    let new = c.take_number.new.self in
    record { places = at.number + 1; grew = each_more taken_at at.number old.trace at.self.trace new.trace at.invariant.grew (grew_noted (is_done c.take_number.result) (events.Take (parties.Server (at.number + 1)) parties.Master) at.self.trace new.trace c.take_number.ensures.noted) }

pub returns-clause-taken : goal.returns-clause-taken
returns-clause-taken g c = record { places = c.loop-number.number; grew = c.loop-number.invariant.grew }

pub returns-in_err-any-clause-unread : goal.returns-in_err-any-clause-unread
returns-in_err-any-clause-unread g c = let fault = err_from_is_err_and c.from_residual.result c.from_residual.ensures.1 in let told = ap faults_of fault.1 in let before = c.loop-number.invariant.unread in let few = c.take_number.ensures.unread in let was = ap faults_of c.in_err-any.was in omega arith

pub returns-clause-unread : goal.returns-clause-unread
returns-clause-unread g c = let before = c.loop-number.invariant.unread in omega arith
