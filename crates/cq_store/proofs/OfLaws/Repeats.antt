-- A client's number takes effect at most once, and its repeats have the reply of that one time.
use Rattle.std.proofs.Common.{◌≡◌, ℕ, ◌≤◌, ◌<◌, ◌∙◌, ◌&&◌, ap, sym, List, [], ◌∷◌, ◌++◌, length, Some, Bool, true, false, cond, eqb, arith, inl, inr, subst, refl}
use Rattle.std.specs.List.{filter, find, list_all, list_any}
use Rattle.std.proofs.lemmas.Bool.{cases_order, cases_Bool, lt-ltb, le-ltb, ltb-true, eqb-true, eq-eqb, ne_eqb, and_parts, and_from, and_left, and_right, both_ways}
use Rattle.cq_base.specs.declared.ask.Entry.{Entry}
use Rattle.cq_base.specs.declared.reply.Reply.{Reply}
use Rattle.cq_base.specs.queue.Asks.{queue_of}
use Rattle.cq_base.specs.queue.Clients.{is_of_client, is_numbered_below, is_numbered_above, is_fresh_with, of_client, is_fresh, is_stale, kept_reply}
use Rattle.cq_base.specs.queue.Outcomes.{Outcome, about}
use Rattle.cq_base.specs.queue.History.{outcome_of, fresh_outcome, idle_outcome, reply_again, history, reply_to}
use Rattle.cq_base.proofs.Histories.{told, entry-outcome_of}
use Rattle.cq_store.specs.Laws.{fresh_outcomes, FreshOnce, RepeatsAreAnswered}
use Rattle.cq_base.proofs.Ends.{filter-passes, filter-fails, all-passes, any-fails, any-passes}
use Rattle.cq_base.proofs.Finds.{find-one}
use Rattle.cq_store.proofs.OfLaws.Inductions.{by_outcome}

-- Of a client's outcomes: at most one fresh one has the number, and one has it if it is neither above all of
-- them nor below one.
record IsKeptOnce (number : ℕ) (own : List Outcome) : Type 0 where
  once : length (filter (is_fresh_with number) own) ≤ 1
  kept : list_all (is_numbered_below number) own ≡ false → list_any (is_numbered_above number) own ≡ false → (f : Outcome) × (filter (is_fresh_with number) own ≡ f ∷ [])

-- an outcome of another number isn't a fresh one of this number
differs : (fresh : Bool) (m n : ℕ) → (m ≡ n → ⊥) → (fresh && eqb m n) ≡ false
differs fresh m n h = and_right fresh (eqb m n) (ne_eqb m n h)

-- no outcome has a number that is above all
pub none_with : (number : ℕ) (own : List Outcome) → list_all (is_numbered_below number) own ≡ true → filter (is_fresh_with number) own ≡ []
none_with number [] h = refl
none_with number (f ∷ own) h = let parts = and_parts (is_numbered_below number f) (list_all (is_numbered_below number) own) h in
    let below = ltb-true f.entry.request.number number parts.0 in
    let test = differs f.fresh f.entry.request.number number (λ e. omega arith) in
    rw test (none_with number own parts.1)

-- one more of a smaller number
kept-smaller : (number : ℕ) (own : List Outcome) (f : Outcome) → f.entry.request.number < number → IsKeptOnce number own → IsKeptOnce number (own ++ f ∷ [])
kept-smaller number own f below h =
    let same = filter-fails (is_fresh_with number) own f (differs f.fresh f.entry.request.number number (λ e. omega arith)) in
    let all_same = all-passes (is_numbered_below number) own f (lt-ltb f.entry.request.number number below) in
    let any_same = any-fails (is_numbered_above number) own f (le-ltb number f.entry.request.number (omega arith)) in
    record { once = rw same h.once; kept = λ some_not_below none_above. rw same (h.kept (sym all_same ∙ some_not_below) (sym any_same ∙ none_above)) }

-- one more of a greater number
kept-greater : (number : ℕ) (own : List Outcome) (f : Outcome) → number < f.entry.request.number → IsKeptOnce number own → IsKeptOnce number (own ++ f ∷ [])
kept-greater number own f above h =
    let same = filter-fails (is_fresh_with number) own f (differs f.fresh f.entry.request.number number (λ e. omega arith)) in
    let stale = any-passes (is_numbered_above number) own f (lt-ltb number f.entry.request.number above) in
    record { once = rw same h.once; kept = λ some_not_below none_above. absurd (both_ways _ none_above stale) }

-- one more of that number, which is fresh
kept-fresh : (number : ℕ) (own : List Outcome) (f : Outcome) → f.entry.request.number ≡ number → f.fresh ≡ true → list_all (is_numbered_below number) own ≡ true → IsKeptOnce number (own ++ f ∷ [])
kept-fresh number own f e fresh all_below =
    let one = filter-passes (is_fresh_with number) own f (and_from f.fresh (eqb f.entry.request.number number) fresh (eq-eqb f.entry.request.number number e)) ∙ ap (λ fs. fs ++ f ∷ []) (none_with number own all_below) in
    record { once = rw one (omega arith); kept = λ some_not_below none_above. (f, one) }

-- one more of that number, which isn't
kept-idle : (number : ℕ) (own : List Outcome) (f : Outcome) → f.entry.request.number ≡ number → f.fresh ≡ false → list_all (is_numbered_below number) own ≡ false → IsKeptOnce number own → IsKeptOnce number (own ++ f ∷ [])
kept-idle number own f e idle not_below h =
    let same = filter-fails (is_fresh_with number) own f (and_left f.fresh (eqb f.entry.request.number number) idle) in
    let any_same = any-fails (is_numbered_above number) own f (le-ltb number f.entry.request.number (omega arith)) in
    record { once = rw same h.once; kept = λ some_not_below none_above. rw same (h.kept not_below (sym any_same ∙ none_above)) }

-- one more that is fresh if its number is above all
kept-more : (number : ℕ) (own : List Outcome) (f : Outcome) → f.fresh ≡ list_all (is_numbered_below f.entry.request.number) own → IsKeptOnce number own → IsKeptOnce number (own ++ f ∷ [])
kept-more number own f is_fresh h = elim (cases_order f.entry.request.number number) [
  | inl e ↦ elim (cases_Bool f.fresh) [
    | inl fresh ↦ kept-fresh number own f e fresh (subst (λ n. list_all (is_numbered_below n) own ≡ true) e (sym is_fresh ∙ fresh))
    | inr idle ↦ kept-idle number own f e idle (subst (λ n. list_all (is_numbered_below n) own ≡ false) e (sym is_fresh ∙ idle)) h
  ]
  | inr other ↦ elim other [ inl below ↦ kept-smaller number own f below h | inr above ↦ kept-greater number own f above h ]
]

-- a step of the next lemma, by whether the number is fresh
fresh_chosen : (fresh : Bool) (e : Entry) (own : List Outcome) (reply : Reply) → (cond fresh (fresh_outcome e own) (idle_outcome e reply)).fresh ≡ fresh
unfolding fresh_outcome
fresh_chosen true e own reply = refl
fresh_chosen false e own reply = refl

-- the outcome of an entry is fresh if its number is
pub fresh-outcome_of : (outcomes : List Outcome) (e : Entry) → (outcome_of outcomes e).fresh ≡ is_fresh e.request.client e.request.number outcomes
unfolding outcome_of
fresh-outcome_of outcomes e = fresh_chosen (is_fresh e.request.client e.request.number outcomes) e (about (queue_of e.request.ask) outcomes) (reply_again e outcomes)

-- so it is for each client and number
abbrev AllKeptOnce : List Outcome → Type 0
AllKeptOnce outcomes = (client number : ℕ) → IsKeptOnce number (of_client client outcomes)

-- a client's entry is fresh if its number is above all of the client's
own-fresh : (outcomes : List Outcome) (e : Entry) (client : ℕ) → e.request.client ≡ client → (outcome_of outcomes e).fresh ≡ list_all (is_numbered_below (outcome_of outcomes e).entry.request.number) (of_client client outcomes)
unfolding is_fresh
own-fresh outcomes e client same = fresh-outcome_of outcomes e ∙ ap (λ c. list_all (is_numbered_below e.request.number) (of_client c outcomes)) same ∙ ap (λ d. list_all (is_numbered_below d.request.number) (of_client client outcomes)) (sym (entry-outcome_of outcomes e))

-- it stays so with one entry more
kept-told : (outcomes : List Outcome) (e : Entry) → AllKeptOnce outcomes → AllKeptOnce (told outcomes e)
unfolding of_client
kept-told outcomes e h client number = elim (cases_Bool (eqb e.request.client client)) [
  | inl own ↦ let one = filter-passes (is_of_client client) outcomes (outcome_of outcomes e) (ap (λ d. eqb d.request.client client) (entry-outcome_of outcomes e) ∙ own) in
      rw one (kept-more number (of_client client outcomes) (outcome_of outcomes e) (own-fresh outcomes e client (eqb-true e.request.client client own)) (h client number))
  | inr other ↦ let same = filter-fails (is_of_client client) outcomes (outcome_of outcomes e) (ap (λ d. eqb d.request.client client) (entry-outcome_of outcomes e) ∙ other) in
      rw same (h client number)
]

-- it is so for no entries
kept-none : AllKeptOnce []
unfolding of_client
kept-none client number = record { once = omega arith; kept = λ some_not_below none_above. absurd (both_ways _ some_not_below refl) }

-- it is so after all entries
all_kept : (entries : List Entry) → AllKeptOnce (history entries)
all_kept entries = by_outcome AllKeptOnce kept-none kept-told entries

-- at most one fresh outcome has a client and a number
pub fresh_once : FreshOnce
fresh_once entries client number = (all_kept entries client number).once

-- the outcome of a repeat has the reply of the fresh outcome that is found
reply-found : (outcomes : List Outcome) (e : Entry) (f : Outcome) → is_fresh e.request.client e.request.number outcomes ≡ false → is_stale e.request.client e.request.number outcomes ≡ false → find (is_fresh_with e.request.number) (of_client e.request.client outcomes) ≡ Some f → (outcome_of outcomes e).reply ≡ f.reply
unfolding outcome_of reply_again kept_reply
reply-found outcomes e f not_fresh not_stale found = rw (not_fresh, not_stale, found)

-- the one fresh outcome of a repeat
one_fresh : (entries : List Entry) (e : Entry) → is_fresh e.request.client e.request.number (history entries) ≡ false → is_stale e.request.client e.request.number (history entries) ≡ false → (f : Outcome) × (fresh_outcomes e.request.client e.request.number (history entries) ≡ f ∷ [])
unfolding is_fresh is_stale
one_fresh entries e not_fresh not_stale = (all_kept entries e.request.client e.request.number).kept not_fresh not_stale

-- a repeat has the reply of the one fresh outcome of its client and number
pub repeats_answered : RepeatsAreAnswered
unfolding reply_to
repeats_answered entries e not_fresh not_stale = let one = one_fresh entries e not_fresh not_stale in
    let found = find-one (is_fresh_with e.request.number) (of_client e.request.client (history entries)) one.0 one.1 in
    (one.0, one.1, reply-found (history entries) e one.0 not_fresh not_stale found)
