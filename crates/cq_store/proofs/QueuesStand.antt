-- What is kept of names still stands after an entry more.
use Rattle.std.proofs.Common.{◌≡◌, ℕ, ◌+◌, ◌≤◌, ◌∙◌, ◌&&◌, ◌||◌, ap, sym, List, [], ◌∷◌, ◌++◌, map, Option, Some, None, true, false, arith, inl, inr, subst, refl}
use Rattle.std.specs.Prelude.{nat_lt}
use Rattle.std.specs.List.{list_any}
use Rattle.std.proofs.lemmas.Bool.{cases_Bool, eq-eqb, ne_eqb, lt-ltb, ltb-true, false_from_ne_true}
use Rattle.std.proofs.lemmas.List.{map-append}
use Rattle.std.proofs.lemmas.List.Folds.{list_any-append}
use Rattle.cq_base.specs.declared.limits.TheConstants.{REMOVAL_DELAY}
use Rattle.cq_base.specs.declared.ask.Entry.{Entry}
use Rattle.cq_base.specs.queue.Effects.{attributes_by}
use Rattle.cq_base.specs.queue.Outcomes.{Outcome, on}
use Rattle.cq_base.specs.queue.History.{fresh_outcome}
use Rattle.cq_base.specs.queue.Incarnations.{Incarnation, IncarnationStandsFor, coming, told_of, lifetime}
use Rattle.cq_base.specs.queue.Lifetimes.{is_creation, is_removal, is_recent_removal, live, removed_lately, incarnation_of}
use Rattle.cq_base.proofs.Among.{among-filter}
use Rattle.cq_base.proofs.Ends.{any-fails}
use Rattle.cq_store.specs.Stands.{QueueRecord, NameStandsFor, LivesAs, IsLiving, IsPast, is_resting}
use Rattle.cq_store.proofs.ClientsStand.{or_alone}
use Rattle.cq_store.proofs.OfLaws.Incarnations.{on-more, on-same}
use Rattle.cq_store.proofs.OfLaws.Alone.{IsAlone, live-among, none-before}
use Rattle.cq_store.proofs.OfLaws.Lives.{turn, live-created, live-removed, live-same, creations-more, creations-same, some_none}
use Rattle.cq_store.proofs.FreshOutcomes.{fresh-live}

-- a removal in the past stays so
past-later : (removed : Option ℕ) (last later : ℕ) → last ≤ later → IsPast removed last → IsPast removed later
past-later None last later more h = tt
past-later (Some removed) last later more h = omega (arith, more, h)

-- what is kept of a name stands at each later moment
pub name-later : (last later : ℕ) (kept : QueueRecord) (outcomes : List Outcome) → last ≤ later → NameStandsFor last kept outcomes → NameStandsFor later kept outcomes
name-later last later kept outcomes more h = record {
  creations = h.creations;
  past = past-later kept.removed last later more h.past;
  removed = λ moment after. let before : last ≤ moment = omega (arith, more, after) in h.removed moment before;
  living = h.living;
}

-- an outcome that is no removal hinders no creation
lately-same : (moment : ℕ) (xs : List Outcome) (f : Outcome) → is_removal f ≡ false → removed_lately moment (xs ++ f ∷ []) ≡ removed_lately moment xs
unfolding removed_lately
lately-same moment xs f other = any-fails (is_recent_removal moment) xs f (ap (λ b. b && nat_lt moment (f.entry.moment + REMOVAL_DELAY)) other)

-- a removal does for its minute
lately-more : (moment : ℕ) (xs : List Outcome) (f : Outcome) → is_removal f ≡ true → removed_lately moment (xs ++ f ∷ []) ≡ (removed_lately moment xs || nat_lt moment (f.entry.moment + REMOVAL_DELAY))
unfolding removed_lately
lately-more moment xs f own =
    list_any-append (is_recent_removal moment) xs (f ∷ [])
    ∙ ap (λ b. list_any (is_recent_removal moment) xs || ((b && nat_lt moment (f.entry.moment + REMOVAL_DELAY)) || false)) own
    ∙ ap (λ b. list_any (is_recent_removal moment) xs || b) (or_alone (nat_lt moment (f.entry.moment + REMOVAL_DELAY)))

-- a name rests after its last removal, if it does after one before
rests-after : (removed : Option ℕ) (last moment : ℕ) → IsPast removed last → (is_resting removed moment || nat_lt moment (last + REMOVAL_DELAY)) ≡ nat_lt moment (last + REMOVAL_DELAY)
rests-after None last moment h = refl
rests-after (Some removed) last moment h = elim (cases_Bool (nat_lt moment (removed + REMOVAL_DELAY))) [
  | inl rests ↦ let less = ltb-true moment (removed + REMOVAL_DELAY) rests in ap (λ b. b || nat_lt moment (last + REMOVAL_DELAY)) rests ∙ sym (lt-ltb moment (last + REMOVAL_DELAY) (omega (arith, less, h)))
  | inr over ↦ ap (λ b. b || nat_lt moment (last + REMOVAL_DELAY)) over
]

-- the entry of a fresh entry's outcome
pub entry-fresh : (e : Entry) (own : List Outcome) → (fresh_outcome e own).entry ≡ e
unfolding fresh_outcome
entry-fresh e own = refl

-- a queue that doesn't live has nothing living
not_living : (kept : Option Incarnation) (xs ys : List Outcome) → IsLiving kept None xs → IsLiving kept None ys
not_living None xs ys h = tt
not_living (Some q) xs ys h = absurd h

-- What a fresh entry does to a name whose queue doesn't live, if it doesn't create it: nothing.
pub name-dead : (last : ℕ) (kept : QueueRecord) (own : List Outcome) (e : Entry) → last ≤ e.moment → live own ≡ None → is_creation (fresh_outcome e own) ≡ false → NameStandsFor last kept own → NameStandsFor e.moment kept (own ++ fresh_outcome e own ∷ [])
name-dead last kept own e more dead other h = let f = fresh_outcome e own in
    let stays : is_removal f ≡ false = false_from_ne_true (is_removal f) (λ removes. (turn own e).removes removes dead) in
    record {
      creations = h.creations ∙ sym (creations-same own f other);
      past = past-later kept.removed last e.moment more h.past;
      removed = λ moment after. let before : last ≤ moment = omega (arith, more, after) in h.removed moment before ∙ sym (lately-same moment own f stays);
      living = subst (λ o. IsLiving kept.living o (own ++ f ∷ [])) (sym (live-same own f other stays ∙ dead)) (not_living kept.living own (own ++ f ∷ []) (subst (λ o. IsLiving kept.living o own) dead h.living));
    }

-- what is kept of a name after a creation
abbrev pub with_creation : QueueRecord → Incarnation → QueueRecord
with_creation kept q = record { creations = kept.creations + 1; removed = kept.removed; living = Some q }

-- nothing came to an incarnation before its creation, nor does the creation
none-new : (own : List Outcome) (e : Entry) → IsAlone own → is_creation (fresh_outcome e own) ≡ true → on (fresh_outcome e own).count (own ++ fresh_outcome e own ∷ []) ≡ []
none-new own e alone creates = let f = fresh_outcome e own in
    let turned = (turn own e).creates creates in
    let number = turned.1 in
    let before = (turn own e).incarnation ∙ ap incarnation_of turned.0 in
    on-same f.count own f (ne_eqb f.incarnation f.count (λ same. omega (arith, same, before, number)))
    ∙ none-before own f.count alone.lived (omega (arith, number))

-- A creation gives the name an incarnation to which nothing has come.
pub name-created : (last : ℕ) (kept : QueueRecord) (own : List Outcome) (e : Entry) (q : Incarnation) → IsAlone own → last ≤ e.moment → is_creation (fresh_outcome e own) ≡ true → is_removal (fresh_outcome e own) ≡ false
    → q.number ≡ (fresh_outcome e own).count → q.attributes ≡ attributes_by (fresh_outcome e own) → IncarnationStandsFor q []
    → NameStandsFor last kept own → NameStandsFor e.moment (with_creation kept q) (own ++ fresh_outcome e own ∷ [])
name-created last kept own e q alone more creates stays number attributes stands h = let f = fresh_outcome e own in record {
  creations = ap (λ n. n + 1) h.creations ∙ sym (creations-more own f creates);
  past = past-later kept.removed last e.moment more h.past;
  removed = λ moment after. let before : last ≤ moment = omega (arith, more, after) in h.removed moment before ∙ sym (lately-same moment own f stays);
  living = subst (λ o. IsLiving (Some q) o (own ++ f ∷ [])) (sym (live-created own f creates)) (record {
    number = number;
    attributes = attributes;
    stands = subst (λ fs. IncarnationStandsFor q (map (λ g. g.entry) fs)) (sym (none-new own e alone creates)) stands;
  });
}

-- what is kept of a name after a removal
abbrev pub with_removal : QueueRecord → ℕ → QueueRecord
with_removal kept moment = record { creations = kept.creations; removed = Some moment; living = None }

-- A removal leaves the name at rest.
pub name-removed : (last : ℕ) (kept : QueueRecord) (own : List Outcome) (e : Entry) → last ≤ e.moment → is_creation (fresh_outcome e own) ≡ false → is_removal (fresh_outcome e own) ≡ true
    → NameStandsFor last kept own → NameStandsFor e.moment (with_removal kept e.moment) (own ++ fresh_outcome e own ∷ [])
name-removed last kept own e more other removes h = let f = fresh_outcome e own in record {
  creations = h.creations ∙ sym (creations-same own f other);
  past = omega arith;
  removed = λ moment after. let before : last ≤ moment = omega (arith, more, after) in
      sym (lately-more moment own f removes
      ∙ ap (λ d. removed_lately moment own || nat_lt moment (d.moment + REMOVAL_DELAY)) (entry-fresh e own)
      ∙ ap (λ b. b || nat_lt moment (e.moment + REMOVAL_DELAY)) (sym (h.removed moment before))
      ∙ rests-after kept.removed e.moment moment (past-later kept.removed last e.moment more h.past));
  living = subst (λ o. IsLiving None o (own ++ f ∷ [])) (sym (live-removed own f other removes)) tt;
}

-- what is kept of a name after an entry that came to its incarnation
abbrev pub with_incarnation : QueueRecord → Incarnation → QueueRecord
with_incarnation kept q = record { creations = kept.creations; removed = kept.removed; living = Some q }

-- the outcomes of an incarnation are those of what is kept of it
pub told-on : (own : List Outcome) (creation : Outcome) (q : Incarnation) → IsAlone own → live own ≡ Some creation → LivesAs q creation own → told_of q (map (λ f. f.entry) (on creation.count own)) ≡ on creation.count own
told-on own creation q alone lives as_it = let at = among-filter is_creation creation own (live-among own creation lives) in
    ap (λ n. lifetime n q.attributes (map (λ f. f.entry) (on creation.count own))) as_it.number
    ∙ ap (λ v. lifetime creation.count v (map (λ f. f.entry) (on creation.count own))) as_it.attributes
    ∙ sym (alone.alone creation at.0 at.1)

-- what a fresh entry does is what comes to the incarnation
pub comes-to : (own : List Outcome) (creation : Outcome) (q : Incarnation) (e : Entry) → IsAlone own → live own ≡ Some creation → LivesAs q creation own → fresh_outcome e own ≡ coming q.number q.attributes (told_of q (map (λ f. f.entry) (on creation.count own))) e
comes-to own creation q e alone lives as_it =
    sym (fresh-live e own creation lives)
    ∙ ap (λ fs. coming creation.count (attributes_by creation) fs e) (sym (told-on own creation q alone lives as_it))
    ∙ ap (λ n. coming n (attributes_by creation) (told_of q (map (λ f. f.entry) (on creation.count own))) e) (sym as_it.number)
    ∙ ap (λ v. coming q.number v (told_of q (map (λ f. f.entry) (on creation.count own))) e) (sym as_it.attributes)

-- the entries that came to an incarnation, with one more
on-told : (own : List Outcome) (creation : Outcome) (e : Entry) → live own ≡ Some creation → map (λ f. f.entry) (on creation.count (own ++ fresh_outcome e own ∷ [])) ≡ map (λ f. f.entry) (on creation.count own) ++ e ∷ []
on-told own creation e lives = let f = fresh_outcome e own in
    let here = eq-eqb f.incarnation creation.count ((turn own e).incarnation ∙ ap incarnation_of lives) in
    ap (λ fs. map (λ g. g.entry) fs) (on-more creation.count own f here)
    ∙ map-append (λ g. g.entry) (on creation.count own) (f ∷ [])
    ∙ ap (λ d. map (λ g. g.entry) (on creation.count own) ++ d ∷ []) (entry-fresh e own)

-- An entry that neither creates nor removes comes to the incarnation as which the queue lives.
pub name-living : (last : ℕ) (kept : QueueRecord) (own : List Outcome) (creation : Outcome) (e : Entry) (p q : Incarnation) → last ≤ e.moment → live own ≡ Some creation → kept.living ≡ Some p → is_removal (fresh_outcome e own) ≡ false
    → q.number ≡ p.number → q.attributes ≡ p.attributes → IncarnationStandsFor q (map (λ f. f.entry) (on creation.count own) ++ e ∷ [])
    → NameStandsFor last kept own → NameStandsFor e.moment (with_incarnation kept q) (own ++ fresh_outcome e own ∷ [])
name-living last kept own creation e p q more lives is_p stays number attributes stands h = let f = fresh_outcome e own in
    let other : is_creation f ≡ false = false_from_ne_true (is_creation f) (λ creates. some_none creation (sym lives ∙ ((turn own e).creates creates).0)) in
    let as_p : LivesAs p creation own = subst (λ k. IsLiving k (Some creation) own) is_p (subst (λ o. IsLiving kept.living o own) lives h.living) in
    record {
      creations = h.creations ∙ sym (creations-same own f other);
      past = past-later kept.removed last e.moment more h.past;
      removed = λ moment after. let before : last ≤ moment = omega (arith, more, after) in h.removed moment before ∙ sym (lately-same moment own f stays);
      living = subst (λ o. IsLiving (Some q) o (own ++ f ∷ [])) (sym (live-same own f other stays ∙ lives)) (record {
        number = number ∙ as_p.number;
        attributes = attributes ∙ as_p.attributes;
        stands = subst (λ es. IncarnationStandsFor q es) (sym (on-told own creation e lives)) stands;
      });
    }
