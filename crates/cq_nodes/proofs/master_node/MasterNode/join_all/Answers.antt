-- At most one join more.
use Rattle.std.proofs.Common.{◌+◌, ◌∙◌, refl}
use Rattle.cq_nodes.specs.Turns.{joined_at, each_of}
use Rattle.cq_nodes.proofs.Growing.{grew_none}
use Rattle.cq_nodes.proofs.MasterTurns.{keeps_still, keeps_both, moment_still, moment_both, joins_more}
use Rattle.cq_nodes.proofs.master_node.MasterNode.join_all.Goals as goal

pub loop-place-init : goal.loop-place-init
loop-place-init g c =
    let old = c.args.self.now in
    record { same = keeps_still g.P.PutEnd.link g.T.TakeEnd.link old; moment = moment_still old; unread = refl; grew = grew_none (each_of (joined_at old.joins old.turns) 0) old.trace }

pub loop-place-preserved : goal.loop-place-preserved
loop-place-preserved g c =
    let at = c.loop-place in
    let old = c.args.self.now in
    let new = c.join.new.self in
    record {
      same = keeps_both g.P.PutEnd.link g.T.TakeEnd.link old at.self new at.invariant.same c.join.ensures.same;
      moment = moment_both old at.self new at.invariant.moment c.join.ensures.moment;
      unread = c.join.ensures.unread ∙ at.invariant.unread;
      grew = joins_more old at.self new at.place at.invariant.same.joins at.invariant.moment.turns at.invariant.grew c.join.ensures.joined;
    }

pub returns-in_err-any-clause-joined : goal.returns-in_err-any-clause-joined
returns-in_err-any-clause-joined g c =
    let at = c.loop-place in
    let old = c.args.self.now in
    record { places = at.place + 1; grew = joins_more old at.self c.join.new.self at.place at.invariant.same.joins at.invariant.moment.turns at.invariant.grew c.join.ensures.joined }

pub returns-clause-joined : goal.returns-clause-joined
returns-clause-joined g c = record { places = c.loop-place.place; grew = c.loop-place.invariant.grew }

pub returns-in_err-any-clause-unread : goal.returns-in_err-any-clause-unread
returns-in_err-any-clause-unread g c = c.join.ensures.unread ∙ c.loop-place.invariant.unread

pub returns-clause-unread : goal.returns-clause-unread
returns-clause-unread g c = c.loop-place.invariant.unread
