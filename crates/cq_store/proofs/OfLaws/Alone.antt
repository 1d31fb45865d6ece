-- What happens on an incarnation follows from what comes to it alone.
use Rattle.std.proofs.Common.{◌≡◌, ℕ, ◌<◌, ◌∙◌, ◌⊎◌, ap, sym, List, [], ◌∷◌, ◌++◌, map, Option, Some, None, true, cond, arith, inl, inr, subst, refl}
use Rattle.std.specs.List.{filter, last_or}
use Rattle.std.proofs.lemmas.Bool.{cases_Bool, eqb-true, ne_eqb}
use Rattle.std.proofs.lemmas.List.{map-append}
use Rattle.std.proofs.lemmas.List.Sums.{fold-append}
use Rattle.cq_base.specs.declared.ask.Entry.{Entry}
use Rattle.cq_base.specs.queue.Asks.{Attributes}
use Rattle.cq_base.specs.queue.Effects.{attributes_by}
use Rattle.cq_base.specs.queue.Outcomes.{Outcome, about, is_on, on}
use Rattle.cq_base.specs.queue.History.{fresh_outcome, history}
use Rattle.cq_base.specs.queue.Incarnations.{coming, lifetime}
use Rattle.cq_base.specs.queue.Lifetimes.{is_creation, is_creation_or_removal, if_creation, live, creations, incarnation_of}
use Rattle.cq_base.specs.Relations.{Among}
use Rattle.cq_base.proofs.Among.{among-filter, among-kept}
use Rattle.cq_base.proofs.Ends.{filter-passes, filter-fails}
use Rattle.cq_base.proofs.Filters.{filter-none}
use Rattle.cq_base.proofs.Numbers.{IsNumbered, numbered_push, same_number}
use Rattle.cq_store.specs.Laws.{EachIncarnationAlone}
use Rattle.cq_store.proofs.OfLaws.Incarnations.{on-more, on-same}
use Rattle.cq_store.proofs.OfLaws.Lives.{turn, by_own, Lived, lived-none, lived-more, among-one_more, some_none, some_same}
use Rattle.cq_store.proofs.FreshOutcomes.{fresh-live}

-- one entry more that comes to the incarnation
pub lifetime-more : (incarnation : ℕ) (own : Attributes) (entries : List Entry) (e : Entry) → lifetime incarnation own (entries ++ e ∷ []) ≡ lifetime incarnation own entries ++ coming incarnation own (lifetime incarnation own entries) e ∷ []
unfolding lifetime
lifetime-more incarnation own entries e = fold-append (λ outcomes d. outcomes ++ coming incarnation own outcomes d ∷ []) [] entries (e ∷ [])

-- the last that passes a test is of the list
last_among : {X : Type 0} (o : Option X) (xs : List X) (x : X) → last_or o xs ≡ Some x → Among x xs ⊎ (o ≡ Some x)
last_among o [] x h = inr h
last_among o (y ∷ ys) x h = elim (last_among (Some y) ys x h) [ inl at ↦ inl (inr at) | inr e ↦ inl (inl (some_same x y (sym e))) ]

-- the creation by which a queue lives is one of its creations
if_chosen : (o : Option Outcome) (c : Outcome) → if_creation o ≡ Some c → (o ≡ Some c) × (is_creation c ≡ true)
if_chosen None c h = absurd (some_none c (sym h))
if_chosen (Some f) c h = elim (cases_Bool (is_creation f)) [
  | inl own ↦ let same = some_same f c (sym (ap (λ b. cond b (Some f) None) own) ∙ h) in (ap Some same, ap (λ d. is_creation d) (sym same) ∙ own)
  | inr other ↦ absurd (some_none c (sym (sym (ap (λ b. cond b (Some f) None) other) ∙ h)))
]

-- it is among them
pub live-among : (xs : List Outcome) (c : Outcome) → live xs ≡ Some c → Among c (filter is_creation xs)
unfolding live
live-among xs c h = let chosen = if_chosen (last_or None (filter is_creation_or_removal xs)) c h in
    elim (last_among None (filter is_creation_or_removal xs) c chosen.0) [
      | inl at ↦ among-kept is_creation c xs chosen.1 (among-filter is_creation_or_removal c xs at).0
      | inr none ↦ absurd (some_none c (sym none))
    ]

-- What stays with each fresh entry: how the queue lived, the numbers of its creations, and that what came to
-- each incarnation is the lifetime that it makes.
pub record IsAlone (xs : List Outcome) : Type 0 where
  pub lived : Lived xs
  pub numbered : IsNumbered (filter is_creation xs)
  pub positive : (c : Outcome) → Among c xs → is_creation c ≡ true → 0 < c.count
  pub alone : (c : Outcome) → Among c xs → is_creation c ≡ true → on c.count xs ≡ lifetime c.count (attributes_by c) (map (λ f. f.entry) (on c.count xs))

-- the outcomes on an incarnation are the lifetime that their entries make
abbrev Alone : Outcome → List Outcome → Type 0
Alone c xs = on c.count xs ≡ lifetime c.count (attributes_by c) (map (λ f. f.entry) (on c.count xs))

-- one more that comes to it
alone_on : (c f : Outcome) (xs : List Outcome) → on c.count (xs ++ f ∷ []) ≡ on c.count xs ++ f ∷ [] → f ≡ coming c.count (attributes_by c) (on c.count xs) f.entry → Alone c xs → Alone c (xs ++ f ∷ [])
alone_on c f xs more made h = let own = on c.count xs in
    let entries = map (λ g. g.entry) own in
    let joined : map (λ g. g.entry) (on c.count (xs ++ f ∷ [])) ≡ entries ++ f.entry ∷ [] = ap (λ fs. map (λ g. g.entry) fs) more ∙ map-append (λ g. g.entry) own (f ∷ []) in
    more
    ∙ ap (λ g. own ++ g ∷ []) made
    ∙ ap (λ fs. fs ++ coming c.count (attributes_by c) fs f.entry ∷ []) h
    ∙ sym (lifetime-more c.count (attributes_by c) entries f.entry)
    ∙ ap (λ es. lifetime c.count (attributes_by c) es) (sym joined)

-- one more that doesn't
alone_other : (c f : Outcome) (xs : List Outcome) → on c.count (xs ++ f ∷ []) ≡ on c.count xs → Alone c xs → Alone c (xs ++ f ∷ [])
alone_other c f xs same h = rw same h

-- a fresh entry that comes to the incarnation of a creation came while the queue lived by it
comes : (xs : List Outcome) (living : Option Outcome) (c : Outcome) (e : Entry) → live xs ≡ living → IsNumbered (filter is_creation xs) → 0 < c.count → Among c (filter is_creation xs) → incarnation_of living ≡ c.count → live xs ≡ Some c
comes xs None c e found numbered some at same = absurd (omega (arith, same, some))
comes xs (Some d) c e found numbered some at same = found ∙ ap Some (same_number (filter is_creation xs) d c numbered.rising (live-among xs d found) at same)

-- so its outcome is what comes to it
coming-own : (xs : List Outcome) (c : Outcome) (e : Entry) → live xs ≡ Some c → fresh_outcome e xs ≡ coming c.count (attributes_by c) (on c.count xs) (fresh_outcome e xs).entry
unfolding fresh_outcome
coming-own xs c e lives = sym (fresh-live e xs c lives)

-- it stays for a creation from before
alone_old : (xs : List Outcome) (c : Outcome) (e : Entry) → IsAlone xs → Among c xs → is_creation c ≡ true → Alone c (xs ++ fresh_outcome e xs ∷ [])
alone_old xs c e h at creates = let f = fresh_outcome e xs in
    let own = among-kept is_creation c xs creates at in
    elim (cases_Bool (is_on c.count f)) [
      | inl here ↦ alone_on c f xs (on-more c.count xs f here) (coming-own xs c e (comes xs (live xs) c e refl h.numbered (h.positive c at creates) own (sym (turn xs e).incarnation ∙ eqb-true f.incarnation c.count here))) (h.alone c at creates)
      | inr there ↦ alone_other c f xs (on-same c.count xs f there) (h.alone c at creates)
    ]

-- nothing came to an incarnation before its creation
pub none-before : (xs : List Outcome) (n : ℕ) → Lived xs → creations xs < n → on n xs ≡ []
unfolding on
none-before xs n lived above = filter-none (is_on n) xs (λ f at. ne_eqb f.incarnation n (λ e. omega (arith, lived.within f at, above)))

-- what comes to an incarnation before its creation is the lifetime of nothing
alone_new : (xs : List Outcome) (c : Outcome) → on c.count xs ≡ [] → Alone c xs
unfolding lifetime
alone_new xs c none = rw none

-- it holds for a creation that is made
alone_made : (xs : List Outcome) (e : Entry) → IsAlone xs → is_creation (fresh_outcome e xs) ≡ true → Alone (fresh_outcome e xs) (xs ++ fresh_outcome e xs ∷ [])
alone_made xs e h creates = let f = fresh_outcome e xs in
    let turned = (turn xs e).creates creates in
    let number = turned.1 in
    let before = (turn xs e).incarnation ∙ ap incarnation_of turned.0 in
    let apart = on-same f.count xs f (ne_eqb f.incarnation f.count (λ same. omega (arith, same, before, number))) in
    alone_other f f xs apart (alone_new xs f (none-before xs f.count h.lived (omega (arith, number))))

-- the creations stay numbered
creations-numbered : (xs : List Outcome) (e : Entry) → IsNumbered (filter is_creation xs) → IsNumbered (filter is_creation (xs ++ fresh_outcome e xs ∷ []))
unfolding creations
creations-numbered xs e h = let f = fresh_outcome e xs in
    elim (cases_Bool (is_creation f)) [
      | inl own ↦ subst IsNumbered (sym (filter-passes is_creation xs f own)) (numbered_push (filter is_creation xs) f ((turn xs e).creates own).1 h)
      | inr other ↦ subst IsNumbered (sym (filter-fails is_creation xs f other)) h
    ]

-- a creation has a number above 0
positive_more : (xs : List Outcome) (e : Entry) → IsAlone xs → (c : Outcome) → Among c (xs ++ fresh_outcome e xs ∷ []) → is_creation c ≡ true → 0 < c.count
positive_more xs e h c at creates = elim (among-one_more c (fresh_outcome e xs) xs at) [
  | inl old ↦ h.positive c old creates
  | inr same ↦ let number = ((turn xs e).creates (ap (λ d. is_creation d) (sym same) ∙ creates)).1 in omega (arith, number, ap (λ d. d.count) same)
]

-- all stays with each fresh entry
alone_more : (xs : List Outcome) (e : Entry) → IsAlone xs → IsAlone (xs ++ fresh_outcome e xs ∷ [])
alone_more xs e h = record {
  lived = lived-more xs e h.lived;
  numbered = creations-numbered xs e h.numbered;
  positive = positive_more xs e h;
  alone = λ c at creates. elim (among-one_more c (fresh_outcome e xs) xs at) [
    | inl old ↦ alone_old xs c e h old creates
    | inr same ↦ subst (λ d. Alone d (xs ++ fresh_outcome e xs ∷ [])) (sym same) (alone_made xs e h (ap (λ d. is_creation d) (sym same) ∙ creates))
  ];
}

-- all holds of no outcomes
alone_none : IsAlone []
alone_none = record { lived = lived-none; numbered = record { rising = tt; within = λ y m. absurd m }; positive = λ c at. absurd at; alone = λ c at. absurd at }

-- what happens on an incarnation is the lifetime of what comes to it
pub incarnations_alone : EachIncarnationAlone
incarnations_alone entries queue creation at creates = (by_own queue IsAlone alone_none alone_more entries).alone creation at creates

-- and so are the outcomes about each queue
pub alone : (queue : List ℕ) (entries : List Entry) → IsAlone (about queue (history entries))
alone queue entries = by_own queue IsAlone alone_none alone_more entries
