-- The queue object: what each entry of a list does, and what it is answered with.
use Rattle.std.specs.Prelude.{ℕ, List, [], ◌∷◌, ◌++◌, true, false, if◌then◌else◌, unwrap_or}
use Rattle.std.specs.List.{fold}
use Rattle.cq_base.specs.declared.ask.Entry.{Entry}
use Rattle.cq_base.specs.declared.reply.Refusal.TheVariants.{StaleNumber}
use Rattle.cq_base.specs.declared.reply.Reply.{Reply}
use Rattle.cq_base.specs.declared.reply.Reply.TheVariants.{Refused}
use Rattle.cq_base.specs.queue.Asks.{queue_of}
use Rattle.cq_base.specs.queue.Clients.{is_fresh, is_stale, kept_reply}
use Rattle.cq_base.specs.queue.Effects.{Effect, effect_of, counts_by}
use Rattle.cq_base.specs.queue.Outcomes.{Outcome, about}
use Rattle.cq_base.specs.queue.Lifetimes.{live, incarnation_of}

-- the outcome of a fresh entry on that incarnation, with what its ask does
abbrev pub outcome_with : Entry → ℕ → Effect → Outcome
outcome_with e incarnation effect = record {
  entry = e;
  fresh = true;
  incarnation = incarnation;
  effective = effect.effective;
  count = effect.count;
  handed = effect.handed;
  reply = effect.reply;
}

-- the outcome of an entry that isn't fresh: it does nothing but to be answered
abbrev pub idle_outcome : Entry → Reply → Outcome
idle_outcome e reply = record {
  entry = e;
  fresh = false;
  incarnation = 0;
  effective = false;
  count = 0;
  handed = [];
  reply = reply;
}

-- the outcome of a fresh entry, by the outcomes about its queue
unfoldable pub fresh_outcome : Entry → List Outcome → Outcome
fresh_outcome e outcomes = outcome_with e (incarnation_of (live outcomes)) (effect_of e.moment outcomes e.request.ask)

-- The reply to an entry that isn't fresh: a stale one is refused, and a repeat has the reply of the
-- fresh entry of its client and number, whatever it asks itself.
unfoldable pub reply_again : Entry → List Outcome → Reply
reply_again e outcomes =
    if is_stale e.request.client e.request.number outcomes then Refused StaleNumber
    else unwrap_or (kept_reply e.request.client e.request.number outcomes) (Refused StaleNumber)

-- What an entry does after the entries of these outcomes.
unfoldable pub outcome_of : List Outcome → Entry → Outcome
outcome_of outcomes e =
    if is_fresh e.request.client e.request.number outcomes then fresh_outcome e (about (queue_of e.request.ask) outcomes)
    else idle_outcome e (reply_again e outcomes)

-- What each entry of a list does, in order.
unfoldable pub history : List Entry → List Outcome
history entries = fold (λ outcomes e. outcomes ++ outcome_of outcomes e ∷ []) [] entries

-- The reply to an entry that comes after these.
unfoldable pub reply_to : List Entry → Entry → Reply
reply_to entries e = (outcome_of (history entries) e).reply

-- the moment of the last entry; 0 before the first
unfoldable pub last_moment : List Entry → ℕ
last_moment entries = fold (λ _ e. e.moment) 0 entries

-- The answer to a query of a queue's counts after these entries, at the moment of the last of them.
unfoldable pub counts_after : List Entry → List ℕ → Reply
counts_after entries queue = counts_by (live (about queue (history entries))) (last_moment entries) (about queue (history entries))
