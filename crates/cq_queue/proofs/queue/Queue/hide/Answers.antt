-- The handings stay.
use Rattle.std.proofs.Common.{◌≤◌, subst, sym}
use Rattle.cq_queue.proofs.Sounds.{sound-hidden}
use Rattle.cq_queue.proofs.queue.Queue.hide.Goals as goal

pub invariant_of-self : goal.invariant_of-self
invariant_of-self c =
    let after : c.self.inside.last ≤ c.args.moment = subst (λ kept. kept.last ≤ c.args.moment) (sym c.self.view_is) c.requires in
    rw c.hide.ensures (sound-hidden _ _ _ _ _ _ _ _ _ after c.self.invariant)
