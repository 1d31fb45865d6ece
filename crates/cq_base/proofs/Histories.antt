-- What is known of the history of a list of entries, whatever they ask.
use Rattle.std.proofs.Common.{◌≡◌, ◌+◌, sym, List, [], ◌∷◌, ◌++◌, length, Bool, true, false, cond, refl, arith, length-append, add-zero}
use Rattle.std.specs.List.{fold}
use Rattle.std.proofs.lemmas.List.Sums.{fold-append}
use Rattle.cq_base.specs.declared.ask.Entry.{Entry}
use Rattle.cq_base.specs.declared.reply.Reply.{Reply}
use Rattle.cq_base.specs.queue.Asks.{queue_of}
use Rattle.cq_base.specs.queue.Clients.{is_fresh}
use Rattle.cq_base.specs.queue.Outcomes.{Outcome, about}
use Rattle.cq_base.specs.queue.History.{idle_outcome, fresh_outcome, reply_again, outcome_of, history}

-- one more outcome for one more entry
abbrev pub told : List Outcome → Entry → List Outcome
told outcomes e = outcomes ++ outcome_of outcomes e ∷ []

-- one entry more adds what it does after the others
pub history-more : (entries : List Entry) (e : Entry) → history (entries ++ e ∷ []) ≡ history entries ++ outcome_of (history entries) e ∷ []
unfolding history
history-more entries e = fold-append told [] entries (e ∷ [])

chosen_entry : (fresh : Bool) (e : Entry) (own : List Outcome) (reply : Reply) → (cond fresh (fresh_outcome e own) (idle_outcome e reply)).entry ≡ e
unfolding fresh_outcome
chosen_entry true e own reply = refl
chosen_entry false e own reply = refl

-- the outcome of an entry is about that entry
pub entry-outcome_of : (outcomes : List Outcome) (e : Entry) → (outcome_of outcomes e).entry ≡ e
unfolding outcome_of
entry-outcome_of outcomes e = chosen_entry (is_fresh e.request.client e.request.number outcomes) e (about (queue_of e.request.ask) outcomes) (reply_again e outcomes)

length-told : (entries : List Entry) (outcomes : List Outcome) → length (fold told outcomes entries) ≡ length outcomes + length entries
length-told [] outcomes = sym (add-zero (length outcomes))
length-told (e ∷ entries) outcomes = omega (arith, length-told entries (told outcomes e), length-append outcomes (outcome_of outcomes e ∷ []))

-- there are as many outcomes as entries
pub length-history : (entries : List Entry) → length (history entries) ≡ length entries
unfolding history
length-history entries = omega (arith, length-told entries [])
