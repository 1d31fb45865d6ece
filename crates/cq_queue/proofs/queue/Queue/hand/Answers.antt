-- The timeout is that of the receive, or else the queue's.
use Rattle.std.proofs.Common.{◌≡◌, ◌∙◌, ap, Option, Some, None, ℕ, refl}
use Rattle.std.specs.Prelude.{unwrap_or}
use Rattle.cq_base.specs.queue.Asks.{timeout_or}
use Rattle.cq_queue.proofs.Receives.{stands-handed_with}
use Rattle.cq_queue.proofs.queue.Queue.hand.Goals as goal

own_timeout : (own : ℕ) (visibility : Option ℕ) → unwrap_or visibility own ≡ timeout_or own visibility
own_timeout own None = refl
own_timeout own (Some timeout) = refl

pub returns-clause-stands : goal.returns-clause-stands
returns-clause-stands c = rw c.mark.ensures (stands-handed_with c.args.self.now c.args.moment c.args.size c.unwrap_or-timeout.result c.args.visibility c.requires.order
    (c.unwrap_or-timeout.ensures ∙ ap (unwrap_or c.args.visibility) c.visibility.ensures ∙ own_timeout c.args.self.now.attributes.visibility c.args.visibility))
