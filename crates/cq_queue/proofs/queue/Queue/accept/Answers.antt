-- The new message is the last that was sent and wasn't handed out, and the accepted sends that are left came no later.
use Rattle.std.proofs.Common.{◌<◌, ◌≤◌, ap, subst, sym, refl, arith}
use Rattle.cq_base.specs.declared.limits.TheConstants.{HISTORY_LIMIT}
use Rattle.cq_messages.proofs.Values.{all-among}
use Rattle.cq_queue.specs.within.Sound.{IsNumberedUpTo}
use Rattle.cq_queue.proofs.Sounds.{sound-accepted}
use Rattle.cq_queue.proofs.queue.Queue.accept.Goals as goal

pub push-requires-clause-order : goal.push-requires-clause-order
push-requires-clause-order c = λ m at.
    let within = all-among (IsNumberedUpTo c.self.inside.sent) c.self.inside.messages m c.self.invariant.numbers at in
    let next = ap (λ x. x.sequence) c.in_ok-message.ensures in
    omega arith

pub invariant_of-self-2 : goal.invariant_of-self-2
invariant_of-self-2 c =
    let room : c.self.inside.used < HISTORY_LIMIT = subst (λ kept. kept.used < HISTORY_LIMIT) (sym c.self.view_is) c.requires.room in
    let after : c.self.inside.last ≤ c.args.moment = subst (λ kept. kept.last ≤ c.args.moment) (sym c.self.view_is) c.requires.order in
    rw (c.in_ok-push.ensures.ok, c.accept.ensures.items, c.in_ok-reserve.ensures.items)
    (sound-accepted _ _ _ _ _ _ _ _ _ room after (ap (λ m. m.handings) c.in_ok-message.ensures) (ap (λ m. m.sequence) c.in_ok-message.ensures) refl c.self.invariant)
