-- What happens on one incarnation of a queue.
use Rattle.std.proofs.Common.{◌≡◌, ℕ, ◌∙◌, ap, sym, List, [], ◌∷◌, ◌++◌, Option, Some, None, true, false, inl, inr, subst, refl}
use Rattle.std.proofs.lemmas.Bool.{cases_Bool, eqb-true}
use Rattle.cq_base.specs.declared.ask.Entry.{Entry}
use Rattle.cq_base.specs.queue.Asks.{queue_of}
use Rattle.cq_base.specs.queue.Clients.{is_fresh}
use Rattle.cq_base.specs.queue.Effects.{effect_on, attributes_by, visibility_by, effect_by, effect_of}
use Rattle.cq_base.specs.queue.Outcomes.{Outcome, is_about, about, is_on, on}
use Rattle.cq_base.specs.queue.History.{outcome_with, fresh_outcome, outcome_of, history}
use Rattle.cq_base.specs.queue.Lifetimes.{live, incarnation_of}
use Rattle.cq_base.specs.queue.Messages.{messages}
use Rattle.cq_base.proofs.Histories.{told}
use Rattle.cq_base.proofs.Ends.{filter-passes, filter-fails}
use Rattle.cq_store.proofs.OfLaws.Inductions.{by_outcome}
use Rattle.cq_store.proofs.OfLaws.OneQueue.{about-more, about-same, names}
use Rattle.cq_store.proofs.FreshOutcomes.{fresh-live}
use Rattle.cq_base.proofs.Numbers.{IsNumbered, numbered-more, numbered-none}
use Rattle.cq_base.proofs.OneMoreOutcome.{IsHanding, IsStep, hands-on, step-on, step-off}

-- the outcome of a fresh entry, by the creation by which its queue lives
step-by : (creation : Option Outcome) (own : List Outcome) (n : ℕ) (e : Entry) → incarnation_of creation ≡ n → IsStep (on n own) (outcome_with e (incarnation_of creation) (effect_by creation e.moment own e.request.ask))
step-by None own n e h = step-off own (on n own) 0 e.moment e.request.client e.request.number e.request.ask
step-by (Some creation) own n e h = subst (λ k. IsStep (on k own) (outcome_with e creation.count (effect_by (Some creation) e.moment own e.request.ask))) h (step-on creation.count (attributes_by creation) (on creation.count own) e.moment e.request.client e.request.number e.request.ask)

-- the outcome of a fresh entry on the incarnation
step-fresh : (own : List Outcome) (n : ℕ) (e : Entry) → is_on n (fresh_outcome e own) ≡ true → IsStep (on n own) (fresh_outcome e own)
unfolding fresh_outcome effect_of
step-fresh own n e h = step-by (live own) own n e (eqb-true (incarnation_of (live own)) n h)

-- the outcome of a fresh entry is made of the outcomes about its queue
pub outcome-fresh : (outcomes : List Outcome) (e : Entry) → is_fresh e.request.client e.request.number outcomes ≡ true → outcome_of outcomes e ≡ fresh_outcome e (about (queue_of e.request.ask) outcomes)
unfolding outcome_of
outcome-fresh outcomes e fresh = rw fresh

-- the outcome of a fresh entry while its queue lives by that creation
pub outcome-live : (outcomes : List Outcome) (e : Entry) (creation : Outcome) → is_fresh e.request.client e.request.number outcomes ≡ true → live (about (queue_of e.request.ask) outcomes) ≡ Some creation → outcome_of outcomes e ≡ outcome_with e creation.count (effect_on creation.count (attributes_by creation) e.moment (on creation.count (about (queue_of e.request.ask) outcomes)) e.request.ask)
outcome-live outcomes e creation fresh lives = outcome-fresh outcomes e fresh ∙ sym (fresh-live e (about (queue_of e.request.ask) outcomes) creation lives)

-- what it hands out
pub hands-live : (outcomes : List Outcome) (e : Entry) (creation : Outcome) → is_fresh e.request.client e.request.number outcomes ≡ true → live (about (queue_of e.request.ask) outcomes) ≡ Some creation → IsHanding (visibility_by creation) (on creation.count (about (queue_of e.request.ask) outcomes)) (outcome_of outcomes e)
hands-live outcomes e creation fresh lives = let own = on creation.count (about (queue_of e.request.ask) outcomes) in
    subst (λ f. IsHanding (visibility_by creation) own f) (sym (outcome-live outcomes e creation fresh lives)) (hands-on creation.count (attributes_by creation) own e.moment e.request.client e.request.number e.request.ask)

-- one more outcome on the incarnation
pub on-more : (n : ℕ) (own : List Outcome) (f : Outcome) → is_on n f ≡ true → on n (own ++ f ∷ []) ≡ on n own ++ f ∷ []
unfolding on
on-more n own f h = filter-passes (is_on n) own f h

-- one more that isn't
pub on-same : (n : ℕ) (own : List Outcome) (f : Outcome) → is_on n f ≡ false → on n (own ++ f ∷ []) ≡ on n own
unfolding on
on-same n own f h = filter-fails (is_on n) own f h

-- the outcome of an entry that is about the queue and on the incarnation
step-told : (queue : List ℕ) (n : ℕ) (outcomes : List Outcome) (e : Entry) → is_about queue (outcome_of outcomes e) ≡ true → is_on n (outcome_of outcomes e) ≡ true → IsStep (on n (about queue outcomes)) (outcome_of outcomes e)
step-told queue n outcomes e own here = let named = names queue outcomes e own in
    let made : outcome_of outcomes e ≡ fresh_outcome e (about queue outcomes) = subst (λ q. outcome_of outcomes e ≡ fresh_outcome e (about q outcomes)) named.1 (outcome-fresh outcomes e named.0) in
    subst (λ f. IsStep (on n (about queue outcomes)) f) (sym made) (step-fresh (about queue outcomes) n e (ap (λ f. is_on n f) (sym made) ∙ here))

-- what stays with each step stays with an entry more about the queue
told_on : (queue : List ℕ) (n : ℕ) (P : List Outcome → Type 0) → ((xs : List Outcome) (f : Outcome) → IsStep xs f → P xs → P (xs ++ f ∷ [])) → (outcomes : List Outcome) (e : Entry) → is_about queue (outcome_of outcomes e) ≡ true → P (on n (about queue outcomes)) → P (on n (about queue (told outcomes e)))
told_on queue n P more outcomes e own h = elim (cases_Bool (is_on n (outcome_of outcomes e))) [
  | inl here ↦ subst P (sym (ap (λ fs. on n fs) (about-more queue outcomes e own) ∙ on-more n (about queue outcomes) (outcome_of outcomes e) here)) (more (on n (about queue outcomes)) (outcome_of outcomes e) (step-told queue n outcomes e own here) h)
  | inr there ↦ subst P (sym (ap (λ fs. on n fs) (about-more queue outcomes e own) ∙ on-same n (about queue outcomes) (outcome_of outcomes e) there)) h
]

-- and with any entry more
told_about : (queue : List ℕ) (n : ℕ) (P : List Outcome → Type 0) → ((xs : List Outcome) (f : Outcome) → IsStep xs f → P xs → P (xs ++ f ∷ [])) → (outcomes : List Outcome) (e : Entry) → P (on n (about queue outcomes)) → P (on n (about queue (told outcomes e)))
told_about queue n P more outcomes e h = elim (cases_Bool (is_about queue (outcome_of outcomes e))) [
  | inl own ↦ told_on queue n P more outcomes e own h
  | inr other ↦ subst P (sym (ap (λ fs. on n fs) (about-same queue outcomes e other))) h
]

-- no outcomes are on an incarnation at the start
none_on : (queue : List ℕ) (n : ℕ) → on n (about queue []) ≡ []
unfolding about on
none_on queue n = refl

-- what holds of no outcomes on an incarnation, and stays with each step, holds of every history's
pub by_step : (queue : List ℕ) (n : ℕ) (P : List Outcome → Type 0) → P [] → ((xs : List Outcome) (f : Outcome) → IsStep xs f → P xs → P (xs ++ f ∷ [])) → (entries : List Entry) → P (on n (about queue (history entries)))
by_step queue n P none more entries = by_outcome (λ outcomes. P (on n (about queue outcomes))) (subst P (sym (none_on queue n)) none) (told_about queue n P more) entries

-- the accepted sends on each incarnation are numbered
pub numbered : (queue : List ℕ) (n : ℕ) (entries : List Entry) → IsNumbered (messages (on n (about queue (history entries))))
numbered queue n entries = by_step queue n (λ xs. IsNumbered (messages xs)) numbered-none numbered-more entries
