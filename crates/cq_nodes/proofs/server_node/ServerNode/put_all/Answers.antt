-- At most one put more.
use Rattle.std.proofs.Common.{◌+◌, ◌∙◌, refl}
use Rattle.cq_nodes.specs.Turns.{put_of, each_of, is_done}
use Rattle.cq_nodes.proofs.Growing.{grew_none}
use Rattle.cq_nodes.proofs.ServerTurns.{keeps_still, keeps_both, turn_still, turn_both, puts_more}
use Rattle.cq_nodes.proofs.server_node.ServerNode.put_all.Goals as goal

pub loop-place-init : goal.loop-place-init
loop-place-init g c =
    let old = c.args.self.now in
    record { same = keeps_still g.P.PutEnd.link g.T.TakeEnd.link g.I.TakeEnd.link old; turn = turn_still old; unread = refl; grew = grew_none (each_of (put_of old.id) 0) old.trace }

pub loop-place-preserved : goal.loop-place-preserved
loop-place-preserved g c =
    let at = c.loop-place in
    let old = c.args.self.now in
    let new = c.put_on.new.self in
    record {
      same = keeps_both g.P.PutEnd.link g.T.TakeEnd.link g.I.TakeEnd.link old at.self new at.invariant.same c.put_on.ensures.same;
      turn = turn_both old at.self new at.invariant.turn c.put_on.ensures.turn;
      unread = c.put_on.ensures.unread ∙ at.invariant.unread;
      grew = puts_more old at.self new at.place (is_done c.put_on.result) at.invariant.same.id at.invariant.grew c.put_on.ensures.noted;
    }

pub returns-in_err-put-clause-put : goal.returns-in_err-put-clause-put
returns-in_err-put-clause-put g c =
    let at = c.loop-place in
    let old = c.args.self.now in
    record { places = at.place + 1; grew = puts_more old at.self c.put_on.new.self at.place (is_done c.put_on.result) at.invariant.same.id at.invariant.grew c.put_on.ensures.noted }

pub returns-clause-put : goal.returns-clause-put
returns-clause-put g c = record { places = c.loop-place.place; grew = c.loop-place.invariant.grew }

pub returns-in_err-put-clause-unread : goal.returns-in_err-put-clause-unread
returns-in_err-put-clause-unread g c = c.put_on.ensures.unread ∙ c.loop-place.invariant.unread

pub returns-clause-unread : goal.returns-clause-unread
returns-clause-unread g c = c.loop-place.invariant.unread
