-- Each message is handed out once more at most.
use Rattle.std.proofs.Common.{◌<◌, ◌≤◌, subst, sym}
use Rattle.cq_base.specs.declared.limits.TheConstants.{HISTORY_LIMIT}
use Rattle.cq_queue.proofs.Sounds.{sound-marked}
use Rattle.cq_queue.proofs.queue.Queue.mark.Goals as goal

pub invariant_of-self : goal.invariant_of-self
invariant_of-self c =
    let room : c.self.inside.used < HISTORY_LIMIT = subst (λ kept. kept.used < HISTORY_LIMIT) (sym c.self.view_is) c.requires.room in
    let after : c.self.inside.last ≤ c.args.moment = subst (λ kept. kept.last ≤ c.args.moment) (sym c.self.view_is) c.requires.order in
    rw c.mark.ensures (sound-marked _ _ _ _ _ _ _ _ _ _ room after c.self.invariant)
