-- Lists of outcomes after which the same comes of each entry, and an entry that isn't fresh.
use Rattle.std.proofs.Common.{◌≡◌, ℕ, ◌<◌, ◌≤◌, ◌∙◌, ◌&&◌, ◌||◌, ap, sym, List, [], ◌∷◌, ◌++◌, Bool, true, false, cond, eqb, arith, inl, inr, subst, refl}
use Rattle.std.specs.List.{filter, find, fold, list_all, list_any}
use Rattle.std.specs.Option.{option_or}
use Rattle.std.specs.Prelude.{Option, None, Some, option_map}
use Rattle.std.specs.Str.{bytes_eq}
use Rattle.std.proofs.lemmas.Bool.{cases_Bool, and_parts, and_from, and_left, or_parts, both_ways, eqb-true, lt-ltb, ltb-true, ltb-false}
use Rattle.std.proofs.lemmas.List.Elements.{filter-append}
use Rattle.std.proofs.lemmas.List.Folds.{list_all-append, list_any-append, find-append}
use Rattle.std.proofs.lemmas.List.Sums.{fold-append}
use Rattle.cq_base.specs.declared.ask.Entry.{Entry}
use Rattle.cq_base.specs.declared.reply.Reply.{Reply}
use Rattle.cq_base.specs.queue.Asks.{queue_of}
use Rattle.cq_base.specs.queue.Clients.{is_of_client, is_numbered_below, is_numbered_above, is_fresh_with, of_client, is_fresh, is_stale, kept_reply}
use Rattle.cq_base.specs.queue.Effects.{counts_by}
use Rattle.cq_base.specs.queue.Outcomes.{Outcome, is_about, about}
use Rattle.cq_base.specs.queue.History.{reply_again, outcome_of, history, reply_to, last_moment, counts_after}
use Rattle.cq_base.specs.queue.Lifetimes.{live}
use Rattle.cq_base.proofs.Ends.{filter-passes, filter-fails, all-passes, any-fails, any-passes}
use Rattle.cq_base.proofs.Histories.{told, entry-outcome_of}
use Rattle.cq_store.specs.Laws.{AreAlike, OthersDoNothing}
use Rattle.cq_store.proofs.OfLaws.Repeats.{fresh-outcome_of}

-- The same numbers are fresh after both, and stale; repeats have the same replies; and the same was done to
-- each queue.
pub record Alike (xs ys : List Outcome) : Type 0 where
  pub fresh : (client number : ℕ) → is_fresh client number xs ≡ is_fresh client number ys
  pub stale : (client number : ℕ) → is_stale client number xs ≡ is_stale client number ys
  pub kept : (client number : ℕ) → kept_reply client number xs ≡ kept_reply client number ys
  pub own : (queue : List ℕ) → about queue xs ≡ about queue ys

-- what an entry does is the same after both
outcome-alike : (xs ys : List Outcome) → Alike xs ys → (e : Entry) → outcome_of xs e ≡ outcome_of ys e
unfolding outcome_of reply_again
outcome-alike xs ys h e = rw (h.fresh e.request.client e.request.number, h.stale e.request.client e.request.number, h.kept e.request.client e.request.number, h.own (queue_of e.request.ask)) refl

-- ---- more outcomes at the end

fresh-append : (client number : ℕ) (xs ys : List Outcome) → is_fresh client number (xs ++ ys) ≡ (is_fresh client number xs && is_fresh client number ys)
unfolding is_fresh of_client
fresh-append client number xs ys = ap (λ fs. list_all (is_numbered_below number) fs) (filter-append (is_of_client client) xs ys)
    ∙ list_all-append (is_numbered_below number) (filter (is_of_client client) xs) (filter (is_of_client client) ys)

stale-append : (client number : ℕ) (xs ys : List Outcome) → is_stale client number (xs ++ ys) ≡ (is_stale client number xs || is_stale client number ys)
unfolding is_stale of_client
stale-append client number xs ys = ap (λ fs. list_any (is_numbered_above number) fs) (filter-append (is_of_client client) xs ys)
    ∙ list_any-append (is_numbered_above number) (filter (is_of_client client) xs) (filter (is_of_client client) ys)

map-or : {X Y : Type 0} (f : X → Y) (a b : Option X) → option_map f (option_or a b) ≡ option_or (option_map f a) (option_map f b)
map-or f None b = refl
map-or f (Some x) b = refl

kept-append : (client number : ℕ) (xs ys : List Outcome) → kept_reply client number (xs ++ ys) ≡ option_or (kept_reply client number xs) (kept_reply client number ys)
unfolding kept_reply of_client
kept-append client number xs ys = ap (λ fs. option_map (λ f. f.reply) (find (is_fresh_with number) fs)) (filter-append (is_of_client client) xs ys)
    ∙ ap (λ found. option_map (λ f. f.reply) found) (find-append (is_fresh_with number) (filter (is_of_client client) xs) (filter (is_of_client client) ys))
    ∙ map-or (λ f. f.reply) (find (is_fresh_with number) (filter (is_of_client client) xs)) (find (is_fresh_with number) (filter (is_of_client client) ys))

about-append : (queue : List ℕ) (xs ys : List Outcome) → about queue (xs ++ ys) ≡ about queue xs ++ about queue ys
unfolding about
about-append queue xs ys = filter-append (is_about queue) xs ys

-- with the same at their ends they stay alike
alike-append : (xs ys more : List Outcome) → Alike xs ys → Alike (xs ++ more) (ys ++ more)
alike-append xs ys more h = record {
  fresh = λ client number. fresh-append client number xs more ∙ ap (λ b. b && is_fresh client number more) (h.fresh client number) ∙ sym (fresh-append client number ys more);
  stale = λ client number. stale-append client number xs more ∙ ap (λ b. b || is_stale client number more) (h.stale client number) ∙ sym (stale-append client number ys more);
  kept = λ client number. kept-append client number xs more ∙ ap (λ reply. option_or reply (kept_reply client number more)) (h.kept client number) ∙ sym (kept-append client number ys more);
  own = λ queue. about-append queue xs more ∙ ap (λ fs. fs ++ about queue more) (h.own queue) ∙ sym (about-append queue ys more);
}

-- with an entry more
alike-told : (xs ys : List Outcome) (e : Entry) → Alike xs ys → Alike (told xs e) (told ys e)
alike-told xs ys e h = subst (λ f. Alike (told xs e) (ys ++ f ∷ [])) (outcome-alike xs ys h e) (alike-append xs ys (outcome_of xs e ∷ []) h)

-- with any number more
alike-after : (xs ys : List Outcome) (after : List Entry) → Alike xs ys → Alike (fold told xs after) (fold told ys after)
alike-after xs ys [] h = h
alike-after xs ys (e ∷ after) h = alike-after (told xs e) (told ys e) after (alike-told xs ys e h)

-- ---- an entry that isn't fresh

-- what is above all is above all with a greater bound
below-greater : (n m : ℕ) (own : List Outcome) → n ≤ m → list_all (is_numbered_below n) own ≡ true → list_all (is_numbered_below m) own ≡ true
below-greater n m [] more h = refl
below-greater n m (f ∷ own) more h = let parts = and_parts (is_numbered_below n f) (list_all (is_numbered_below n) own) h in
    let below = ltb-true f.entry.request.number n parts.0 in
    and_from (is_numbered_below m f) (list_all (is_numbered_below m) own) (lt-ltb f.entry.request.number m (omega (arith, below, more))) (below-greater n m own more parts.1)

-- where none is above a bound, all are below a greater one
none-above : (n m : ℕ) (own : List Outcome) → n < m → list_any (is_numbered_above n) own ≡ false → list_all (is_numbered_below m) own ≡ true
none-above n m [] more h = refl
none-above n m (f ∷ own) more h = let parts = or_parts (is_numbered_above n f) (list_any (is_numbered_above n) own) h in
    let below = ltb-false n f.entry.request.number parts.0 in
    and_from (is_numbered_below m f) (list_all (is_numbered_below m) own) (lt-ltb f.entry.request.number m (omega (arith, below, more))) (none-above n m own more parts.1)

-- one more whose number isn't above all changes nothing of which numbers are
all-idle : (number : ℕ) (own : List Outcome) (f : Outcome) → list_all (is_numbered_below f.entry.request.number) own ≡ false → list_all (is_numbered_below number) (own ++ f ∷ []) ≡ list_all (is_numbered_below number) own
all-idle number own f idle = elim (cases_Bool (list_all (is_numbered_below number) own)) [
  | inl all ↦ elim (cases_Bool (is_numbered_below number f)) [
    | inl below ↦ all-passes (is_numbered_below number) own f below
    | inr above ↦ absurd (both_ways _ idle (below-greater number f.entry.request.number own (ltb-false f.entry.request.number number above) all))
  ]
  | inr some ↦ list_all-append (is_numbered_below number) own (f ∷ []) ∙ and_left (list_all (is_numbered_below number) own) (list_all (is_numbered_below number) (f ∷ [])) some ∙ sym some
]

-- nor of which are below one
any-idle : (number : ℕ) (own : List Outcome) (f : Outcome) → list_all (is_numbered_below f.entry.request.number) own ≡ false → list_any (is_numbered_above number) (own ++ f ∷ []) ≡ list_any (is_numbered_above number) own
any-idle number own f idle = elim (cases_Bool (is_numbered_above number f)) [
  | inl above ↦ elim (cases_Bool (list_any (is_numbered_above number) own)) [
    | inl some ↦ any-passes (is_numbered_above number) own f above ∙ sym some
    | inr none ↦ absurd (both_ways _ idle (none-above number f.entry.request.number own (ltb-true number f.entry.request.number above) none))
  ]
  | inr below ↦ any-fails (is_numbered_above number) own f below
]

-- one more that fails isn't found
find-fails : {X : Type 0} (p : X → Bool) (xs : List X) (x : X) → p x ≡ false → find p (xs ++ x ∷ []) ≡ find p xs
find-fails p [] x h = ap (λ b. cond b (Some x) None) h
find-fails p (y ∷ xs) x h = ap (λ found. cond (p y) (Some y) found) (find-fails p xs x h)

-- What doesn't change with an outcome that isn't fresh, whose number isn't above all of its client's.
record IsIdle (xs : List Outcome) (f : Outcome) : Type 0 where
  idle : f.fresh ≡ false
  not_above : is_fresh f.entry.request.client f.entry.request.number xs ≡ false

-- of its own client, or of another, nothing changes
fresh-idle : (xs : List Outcome) (f : Outcome) → IsIdle xs f → (client number : ℕ) → is_fresh client number (xs ++ f ∷ []) ≡ is_fresh client number xs
unfolding is_fresh of_client
fresh-idle xs f h client number = elim (cases_Bool (eqb f.entry.request.client client)) [
  | inl own ↦ let here = subst (λ c. list_all (is_numbered_below f.entry.request.number) (filter (is_of_client c) xs) ≡ false) (eqb-true f.entry.request.client client own) h.not_above in
      ap (λ fs. list_all (is_numbered_below number) fs) (filter-passes (is_of_client client) xs f own) ∙ all-idle number (filter (is_of_client client) xs) f here
  | inr other ↦ ap (λ fs. list_all (is_numbered_below number) fs) (filter-fails (is_of_client client) xs f other)
]

stale-idle : (xs : List Outcome) (f : Outcome) → IsIdle xs f → (client number : ℕ) → is_stale client number (xs ++ f ∷ []) ≡ is_stale client number xs
unfolding is_fresh is_stale of_client
stale-idle xs f h client number = elim (cases_Bool (eqb f.entry.request.client client)) [
  | inl own ↦ let here = subst (λ c. list_all (is_numbered_below f.entry.request.number) (filter (is_of_client c) xs) ≡ false) (eqb-true f.entry.request.client client own) h.not_above in
      ap (λ fs. list_any (is_numbered_above number) fs) (filter-passes (is_of_client client) xs f own) ∙ any-idle number (filter (is_of_client client) xs) f here
  | inr other ↦ ap (λ fs. list_any (is_numbered_above number) fs) (filter-fails (is_of_client client) xs f other)
]

kept-idle : (xs : List Outcome) (f : Outcome) → IsIdle xs f → (client number : ℕ) → kept_reply client number (xs ++ f ∷ []) ≡ kept_reply client number xs
unfolding kept_reply of_client
kept-idle xs f h client number = let found : List Outcome → Option Reply = λ fs. option_map (λ g. g.reply) (find (is_fresh_with number) fs) in
    elim (cases_Bool (eqb f.entry.request.client client)) [
      | inl own ↦ ap found (filter-passes (is_of_client client) xs f own)
          ∙ ap (λ g. option_map (λ g. g.reply) g) (find-fails (is_fresh_with number) (filter (is_of_client client) xs) f (and_left f.fresh (eqb f.entry.request.number number) h.idle))
      | inr other ↦ ap found (filter-fails (is_of_client client) xs f other)
    ]

own-idle : (xs : List Outcome) (f : Outcome) → IsIdle xs f → (queue : List ℕ) → about queue (xs ++ f ∷ []) ≡ about queue xs
unfolding about
own-idle xs f h queue = filter-fails (is_about queue) xs f (and_left f.fresh (bytes_eq (queue_of f.entry.request.ask) queue) h.idle)

-- all stays as it was
alike-idle : (xs : List Outcome) (f : Outcome) → IsIdle xs f → Alike (xs ++ f ∷ []) xs
alike-idle xs f h = record { fresh = fresh-idle xs f h; stale = stale-idle xs f h; kept = kept-idle xs f h; own = own-idle xs f h }

-- such is the outcome of an entry that isn't fresh
idle-outcome_of : (xs : List Outcome) (e : Entry) → is_fresh e.request.client e.request.number xs ≡ false → IsIdle xs (outcome_of xs e)
idle-outcome_of xs e h = record {
  idle = fresh-outcome_of xs e ∙ h;
  not_above = ap (λ d. is_fresh d.request.client d.request.number xs) (entry-outcome_of xs e) ∙ h;
}

-- ---- what is seen after entries

history-append : (entries after : List Entry) → history (entries ++ after) ≡ fold told (history entries) after
unfolding history
history-append entries after = fold-append told [] entries after

-- what is seen follows from the outcomes
seen : (xs ys : List Entry) → Alike (history xs) (history ys) → AreAlike xs ys
unfolding reply_to counts_after
seen xs ys h = record {
  fresh = h.fresh;
  stale = h.stale;
  reply = λ later. ap (λ f. f.reply) (outcome-alike (history xs) (history ys) h later);
  counts = λ queue same. ap (λ own. counts_by (live own) (last_moment xs) own) (h.own queue) ∙ ap (λ moment. counts_by (live (about queue (history ys))) moment (about queue (history ys))) same;
}

-- an entry that isn't fresh changes nothing that is seen later
pub idle_unseen : OthersDoNothing
idle_unseen entries e after idle = let outcomes = history entries in
    let alike = alike-after (told outcomes e) outcomes after (alike-idle outcomes (outcome_of outcomes e) (idle-outcome_of outcomes e idle)) in
    seen (entries ++ e ∷ after) (entries ++ after) (rw (history-append entries (e ∷ after), history-append entries after) alike)
