-- At most one event more.
use Rattle.std.proofs.Common.{◌+◌, ◌∙◌, refl}
use Rattle.cq_events.specs.declared.event.Event.TheVariants as events
use Rattle.cq_nodes.specs.Turns.{detected_at, each_of, is_done}
use Rattle.cq_nodes.proofs.Growing.{grew_none, grew_noted, each_more}
use Rattle.cq_nodes.proofs.MasterTurns.{keeps_still, keeps_both, moment_still, moment_both}
use Rattle.cq_nodes.proofs.master_node.MasterNode.detect_all.Goals as goal

pub loop-number-init : goal.loop-number-init
loop-number-init g c =
    let old = c.args.self.now in
    record { same = keeps_still g.P.PutEnd.link g.T.TakeEnd.link old; moment = moment_still old; unread = refl; grew = grew_none (each_of detected_at 0) old.trace }

pub loop-number-preserved : goal.loop-number-preserved
loop-number-preserved g c =
    let at = c.loop-number in
    let old = c.args.self.now in
    let new = c.detect_number.new.self in
    record {
      same = keeps_both g.P.PutEnd.link g.T.TakeEnd.link old at.self new at.invariant.same c.detect_number.ensures.same;
      moment = moment_both old at.self new at.invariant.moment c.detect_number.ensures.moment;
      unread = c.detect_number.ensures.unread ∙ at.invariant.unread;
      grew = each_more detected_at at.number old.trace at.self.trace new.trace at.invariant.grew (grew_noted (is_done c.detect_number.result) (events.Detect (at.number + 1)) at.self.trace new.trace c.detect_number.ensures.noted);
    }

pub returns-in_err-any-clause-detected : goal.returns-in_err-any-clause-detected
returns-in_err-any-clause-detected g c =
    let at = c.loop-number in
    let old = c.args.self.now in
    let new = c.detect_number.new.self in
    record { places = at.number + 1; grew = each_more detected_at at.number old.trace at.self.trace new.trace at.invariant.grew (grew_noted (is_done c.detect_number.result) (events.Detect (at.number + 1)) at.self.trace new.trace c.detect_number.ensures.noted) }

pub returns-clause-detected : goal.returns-clause-detected
returns-clause-detected g c = record { places = c.loop-number.number; grew = c.loop-number.invariant.grew }

pub returns-in_err-any-clause-unread : goal.returns-in_err-any-clause-unread
returns-in_err-any-clause-unread g c = c.detect_number.ensures.unread ∙ c.loop-number.invariant.unread

pub returns-clause-unread : goal.returns-clause-unread
returns-clause-unread g c = c.loop-number.invariant.unread
