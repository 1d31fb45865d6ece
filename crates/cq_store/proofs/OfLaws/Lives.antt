-- When a queue lives, and by which incarnation.
use Rattle.std.proofs.Common.{◌≡◌, ℕ, ◌+◌, ◌<◌, ◌≤◌, ◌∙◌, ◌&&◌, ◌||◌, ap, sym, List, [], ◌∷◌, ◌++◌, length, Option, Some, None, Bool, true, false, cond, arith, length-append, inl, inr, subst, refl}
use Rattle.std.specs.Prelude.{◌⊎◌}
use Rattle.std.specs.List.{filter, last_or}
use Rattle.std.proofs.lemmas.Bool.{cases_Bool, and_parts, or_left, or_right, both_ways, false≢true}
use Rattle.cq_base.specs.declared.ask.Ask.{Ask}
use Rattle.cq_base.specs.declared.ask.Ask.TheVariants.{Create, Remove, Send, Receive, Delete, Change}
use Rattle.cq_base.specs.declared.ask.Entry.{Entry}
use Rattle.cq_base.specs.queue.Asks.{Attributes, queue_of, are_same, dedup_or_made, is_given_or_made}
use Rattle.cq_base.specs.queue.Effects.{Effect, only_replies, create, create_again, send_if, delete, change, effect_on, effect_off, effect_by, effect_of, attributes_by}
use Rattle.cq_base.specs.queue.Outcomes.{Outcome, is_about, about, on}
use Rattle.cq_base.specs.queue.History.{outcome_with, fresh_outcome, outcome_of, history, reply_to}
use Rattle.cq_base.specs.declared.reply.Reply.TheVariants.{Created, Refused}
use Rattle.cq_base.specs.declared.reply.Refusal.TheVariants.{QueueNameExists}
use Rattle.cq_base.specs.queue.Clients.{is_fresh}
use Rattle.cq_base.specs.queue.Messages.{messages, duplicate, remaining}
use Rattle.cq_base.proofs.OneMoreOutcome.{asked, not_both}
use Rattle.cq_base.specs.queue.Lifetimes.{removed_lately, is_creation, is_removal, is_creation_or_removal, if_creation, live, creations, incarnation_of}
use Rattle.cq_base.specs.Relations.{Among}
use Rattle.cq_base.proofs.Among.{among-append}
use Rattle.cq_base.proofs.Ends.{filter-passes, filter-fails}
use Rattle.cq_base.proofs.Histories.{told}
use Rattle.cq_store.specs.Laws.{NoneComes, NoneRemoved}
use Rattle.cq_store.proofs.OfLaws.Incarnations.{outcome-fresh}
use Rattle.cq_store.proofs.OfLaws.Inductions.{by_outcome}
use Rattle.cq_store.proofs.OfLaws.Lasts.{last_or-more}
use Rattle.cq_store.proofs.OfLaws.Listed.{deliveries_of, listed}
use Rattle.cq_store.proofs.OfLaws.OneQueue.{about-more, about-same, names}

-- the outcome of an entry that is about the queue is made of the outcomes about it
own-outcome : (queue : List ℕ) (outcomes : List Outcome) (e : Entry) → is_about queue (outcome_of outcomes e) ≡ true → outcome_of outcomes e ≡ fresh_outcome e (about queue outcomes)
own-outcome queue outcomes e own = let named = names queue outcomes e own in
    subst (λ q. outcome_of outcomes e ≡ fresh_outcome e (about q outcomes)) named.1 (outcome-fresh outcomes e named.0)

-- what stays with a fresh entry more about the queue stays with any entry more
own_more : (queue : List ℕ) (P : List Outcome → Type 0) → ((xs : List Outcome) (e : Entry) → P xs → P (xs ++ fresh_outcome e xs ∷ [])) → (outcomes : List Outcome) (e : Entry) → P (about queue outcomes) → P (about queue (told outcomes e))
own_more queue P more outcomes e h = elim (cases_Bool (is_about queue (outcome_of outcomes e))) [
  | inl own ↦ subst P (sym (about-more queue outcomes e own ∙ ap (λ f. about queue outcomes ++ f ∷ []) (own-outcome queue outcomes e own))) (more (about queue outcomes) e h)
  | inr other ↦ subst P (sym (about-same queue outcomes e other)) h
]

-- no outcomes are about a queue at the start
none_about : (queue : List ℕ) → about queue [] ≡ []
unfolding about
none_about queue = refl

-- what holds of no outcomes, and stays with a fresh entry more, holds of the outcomes about each queue
pub by_own : (queue : List ℕ) (P : List Outcome → Type 0) → P [] → ((xs : List Outcome) (e : Entry) → P xs → P (xs ++ fresh_outcome e xs ∷ [])) → (entries : List Entry) → P (about queue (history entries))
by_own queue P none more entries = by_outcome (λ outcomes. P (about queue outcomes)) (subst P (sym (none_about queue)) none) (own_more queue P more) entries

-- What a fresh entry may do to the life of its queue, by the creation by which it lives: it creates only where
-- there is none, with the next number, and removes only where there is one.
pub record IsTurn (xs : List Outcome) (living : Option Outcome) (f : Outcome) : Type 0 where
  pub incarnation : f.incarnation ≡ incarnation_of living
  pub creates : is_creation f ≡ true → (living ≡ None) × (f.count ≡ creations xs + 1)
  pub removes : is_removal f ≡ true → living ≡ None → ⊥

-- something isn't nothing
pub some_none : {X : Type 0} (x : X) → Some x ≡ None → ⊥
some_none x h = cc

-- an ask of another kind doesn't take effect as this
neither : {X : Type 0} (b : Bool) → (b && false) ≡ true → X
neither b h = absurd (both_ways _ (not_both b) h)

-- of two effects that do nothing, neither does the chosen one
pub chosen_idle : (b : Bool) (x y : Effect) → x.effective ≡ false → y.effective ≡ false → (cond b x y).effective ≡ false
chosen_idle true x y first second = first
chosen_idle false x y first second = second

-- a creation of a queue that lives doesn't take effect
again_idle : {X : Type 0} (incarnation : ℕ) (own given : Attributes) → ((create_again incarnation own given).effective && true) ≡ true → X
again_idle incarnation own given h = absurd (both_ways _ (chosen_idle (are_same given own) (only_replies (Created incarnation)) (only_replies (Refused QueueNameExists)) refl refl) (and_parts (create_again incarnation own given).effective true h).0)

-- nothing creates a queue that lives
no_creation : {X : Type 0} (incarnation : ℕ) (own : Attributes) (xs : List Outcome) (moment client number : ℕ) (ask : Ask) → is_creation (outcome_with (asked moment client number ask) incarnation (effect_on incarnation own moment xs ask)) ≡ true → X
unfolding effect_on
no_creation incarnation own xs moment client number (Create queue visibility content) h = again_idle incarnation own (record { visibility = visibility; content = content }) h
no_creation incarnation own xs moment client number (Remove queue) h = absurd (false≢true h)
no_creation incarnation own xs moment client number (Send queue group dedup body) h = neither (send_if (is_given_or_made own.content dedup) (length (messages xs) + 1) (duplicate (dedup_or_made body dedup) moment xs)).effective h
no_creation incarnation own xs moment client number (Receive queue size visibility) h = absurd (false≢true h)
no_creation incarnation own xs moment client number (Delete queue receipt) h = neither (delete incarnation xs (remaining own.visibility xs) receipt).effective h
no_creation incarnation own xs moment client number (Change queue receipt visibility) h = neither (change incarnation moment visibility xs (remaining own.visibility xs) receipt).effective h

-- nothing removes a queue that doesn't live
no_removal : {X : Type 0} (xs : List Outcome) (n moment client number : ℕ) (ask : Ask) → is_removal (outcome_with (asked moment client number ask) n (effect_off moment xs ask)) ≡ true → X
unfolding effect_off
no_removal xs n moment client number (Create queue visibility content) h = neither (create (removed_lately moment xs) (creations xs + 1)).effective h
no_removal xs n moment client number (Remove queue) h = absurd (false≢true h)
no_removal xs n moment client number (Send queue group dedup body) h = absurd (false≢true h)
no_removal xs n moment client number (Receive queue size visibility) h = absurd (false≢true h)
no_removal xs n moment client number (Delete queue receipt) h = absurd (false≢true h)
no_removal xs n moment client number (Change queue receipt visibility) h = absurd (false≢true h)

-- a creation that takes effect has its number
created_count : (removed : Bool) (n : ℕ) → ((create removed n).effective && true) ≡ true → (create removed n).count ≡ n
created_count true n h = absurd (false≢true h)
created_count false n h = refl

-- a queue that doesn't live is created with the next number
next_number : (xs : List Outcome) (n moment client number : ℕ) (ask : Ask) → is_creation (outcome_with (asked moment client number ask) n (effect_off moment xs ask)) ≡ true → (effect_off moment xs ask).count ≡ creations xs + 1
unfolding effect_off
next_number xs n moment client number (Create queue visibility content) h = created_count (removed_lately moment xs) (creations xs + 1) h
next_number xs n moment client number (Remove queue) h = absurd (false≢true h)
next_number xs n moment client number (Send queue group dedup body) h = absurd (false≢true h)
next_number xs n moment client number (Receive queue size visibility) h = absurd (false≢true h)
next_number xs n moment client number (Delete queue receipt) h = absurd (false≢true h)
next_number xs n moment client number (Change queue receipt visibility) h = absurd (false≢true h)

-- a fresh entry's outcome is so, by the creation by which its queue lives
turn_by : (xs : List Outcome) (living : Option Outcome) (e : Entry) → IsTurn xs living (outcome_with e (incarnation_of living) (effect_by living e.moment xs e.request.ask))
turn_by xs None e = record {
  incarnation = refl;
  creates = λ h. (refl, next_number xs 0 e.moment e.request.client e.request.number e.request.ask h);
  removes = λ h _. no_removal xs 0 e.moment e.request.client e.request.number e.request.ask h;
}
turn_by xs (Some creation) e = record {
  incarnation = refl;
  creates = λ h. no_creation creation.count (attributes_by creation) (on creation.count xs) e.moment e.request.client e.request.number e.request.ask h;
  removes = λ h none. some_none creation none;
}

-- a fresh entry's outcome is so
pub turn : (xs : List Outcome) (e : Entry) → IsTurn xs (live xs) (fresh_outcome e xs)
unfolding fresh_outcome effect_of
turn xs e = turn_by xs (live xs) e

-- a creation is the last turn
turned : (xs : List Outcome) (f : Outcome) → is_creation_or_removal f ≡ true → live (xs ++ f ∷ []) ≡ if_creation (Some f)
unfolding live
turned xs f h = ap (λ fs. if_creation (last_or None fs)) (filter-passes is_creation_or_removal xs f h) ∙ ap if_creation (last_or-more None (filter is_creation_or_removal xs) f)

-- with a creation, a queue lives by it
pub live-created : (xs : List Outcome) (f : Outcome) → is_creation f ≡ true → live (xs ++ f ∷ []) ≡ Some f
live-created xs f h = turned xs f (or_left (is_creation f) (is_removal f) h) ∙ ap (λ b. cond b (Some f) None) h

-- with a removal, it doesn't live
pub live-removed : (xs : List Outcome) (f : Outcome) → is_creation f ≡ false → is_removal f ≡ true → live (xs ++ f ∷ []) ≡ None
live-removed xs f other h = turned xs f (or_right (is_creation f) (is_removal f) h) ∙ ap (λ b. cond b (Some f) None) other

-- with any other outcome, it lives as before
pub live-same : (xs : List Outcome) (f : Outcome) → is_creation f ≡ false → is_removal f ≡ false → live (xs ++ f ∷ []) ≡ live xs
unfolding live
live-same xs f other also = ap (λ fs. if_creation (last_or None fs)) (filter-fails is_creation_or_removal xs f (ap (λ b. b || is_removal f) other ∙ also))

-- a creation more
pub creations-more : (xs : List Outcome) (f : Outcome) → is_creation f ≡ true → creations (xs ++ f ∷ []) ≡ creations xs + 1
unfolding creations
creations-more xs f h = ap (λ fs. length fs) (filter-passes is_creation xs f h) ∙ length-append (filter is_creation xs) (f ∷ [])

-- any other outcome more
pub creations-same : (xs : List Outcome) (f : Outcome) → is_creation f ≡ false → creations (xs ++ f ∷ []) ≡ creations xs
unfolding creations
creations-same xs f h = ap (λ fs. length fs) (filter-fails is_creation xs f h)

-- What stays with each fresh entry: the creation by which the queue lives has the largest number so far,
-- nothing came to an incarnation with a larger one, and each removal ended one that was before.
pub record IsLived (xs : List Outcome) (living : Option Outcome) (n : ℕ) : Type 0 where
  pub counted : (creation : Outcome) → living ≡ Some creation → (creation.count ≡ n) × (0 < creation.count)
  pub within : (f : Outcome) → Among f xs → f.incarnation ≤ n
  pub placed : (r : Outcome) → Among r xs → is_removal r ≡ true → 0 < r.incarnation
  pub ended : (r : Outcome) → Among r xs → is_removal r ≡ true → (creation : Outcome) → living ≡ Some creation → r.incarnation < creation.count

-- the number of what it lives by
living_count : (living : Option Outcome) (n : ℕ) → ((creation : Outcome) → living ≡ Some creation → (creation.count ≡ n) × (0 < creation.count)) → incarnation_of living ≤ n
living_count None n h = omega arith
living_count (Some creation) n h = omega (arith, (h creation refl).0)

-- and that it is one
living_positive : (living : Option Outcome) (n : ℕ) → ((creation : Outcome) → living ≡ Some creation → (creation.count ≡ n) × (0 < creation.count)) → (living ≡ None → ⊥) → 0 < incarnation_of living
living_positive None n h some = absurd (some refl)
living_positive (Some creation) n h some = (h creation refl).1

-- one of a list with one more
pub among-one_more : {X : Type 0} (x y : X) (xs : List X) → Among x (xs ++ y ∷ []) → Among x xs ⊎ (x ≡ y)
among-one_more x y xs at = elim (among-append x xs (y ∷ []) at) [ inl old ↦ inl old | inr last ↦ elim last [ inl e ↦ inr e | inr none ↦ absurd none ] ]

-- equal somethings are of equal things
pub some_same : {X : Type 0} (x y : X) → Some x ≡ Some y → x ≡ y
some_same x y h = cc

-- all that came to incarnations so far, and this, is within
within_more : (xs : List Outcome) (living : Option Outcome) (f : Outcome) (n m : ℕ) → IsLived xs living n → IsTurn xs living f → n ≤ m → (g : Outcome) → Among g (xs ++ f ∷ []) → g.incarnation ≤ m
within_more xs living f n m lived turns more g at = elim (among-one_more g f xs at) [
  | inl old ↦ omega (arith, lived.within g old, more)
  | inr e ↦ omega (arith, ap (λ d. d.incarnation) e, turns.incarnation, living_count living n lived.counted, more)
]

-- each removal is of an incarnation
placed_more : (xs : List Outcome) (living : Option Outcome) (f : Outcome) (n : ℕ) → IsLived xs living n → IsTurn xs living f → (r : Outcome) → Among r (xs ++ f ∷ []) → is_removal r ≡ true → 0 < r.incarnation
placed_more xs living f n lived turns r at removes = elim (among-one_more r f xs at) [
  | inl old ↦ lived.placed r old removes
  | inr e ↦ omega (arith, ap (λ d. d.incarnation) e, turns.incarnation, living_positive living n lived.counted (turns.removes (ap (λ d. is_removal d) (sym e) ∙ removes)))
]

-- it stays with a creation
lived_created : (xs : List Outcome) (living : Option Outcome) (f : Outcome) (n : ℕ) → is_creation f ≡ true → f.count ≡ n + 1 → IsLived xs living n → IsTurn xs living f → IsLived (xs ++ f ∷ []) (Some f) (n + 1)
lived_created xs living f n creates count lived turns = record {
  counted = λ c e. let same = ap (λ d. d.count) (some_same f c e) in (omega (arith, same, count), omega (arith, same, count));
  within = within_more xs living f n (n + 1) lived turns (omega arith);
  placed = placed_more xs living f n lived turns;
  ended = λ r at removes c e. omega (arith, ap (λ d. d.count) (some_same f c e), count, within_more xs living f n n lived turns (omega arith) r at);
}

-- it stays with a removal
lived_removed : (xs : List Outcome) (living : Option Outcome) (f : Outcome) (n : ℕ) → IsLived xs living n → IsTurn xs living f → IsLived (xs ++ f ∷ []) None n
lived_removed xs living f n lived turns = record {
  counted = λ c e. absurd (some_none c (sym e));
  within = within_more xs living f n n lived turns (omega arith);
  placed = placed_more xs living f n lived turns;
  ended = λ r at removes c e. absurd (some_none c (sym e));
}

-- it stays with any other outcome
lived_same : (xs : List Outcome) (living : Option Outcome) (f : Outcome) (n : ℕ) → is_removal f ≡ false → IsLived xs living n → IsTurn xs living f → IsLived (xs ++ f ∷ []) living n
lived_same xs living f n other lived turns = record {
  counted = lived.counted;
  within = within_more xs living f n n lived turns (omega arith);
  placed = placed_more xs living f n lived turns;
  ended = λ r at removes c e. elim (among-one_more r f xs at) [
    | inl old ↦ lived.ended r old removes c e
    | inr same ↦ absurd (both_ways (is_removal f) other (ap (λ d. is_removal d) (sym same) ∙ removes))
  ];
}

-- so lived the outcomes about a queue
abbrev pub Lived : List Outcome → Type 0
Lived xs = IsLived xs (live xs) (creations xs)

-- it stays with each fresh entry
pub lived-more : (xs : List Outcome) (e : Entry) → Lived xs → Lived (xs ++ fresh_outcome e xs ∷ [])
lived-more xs e h = let f = fresh_outcome e xs in
    let turns = turn xs e in
    elim (cases_Bool (is_creation f)) [
      | inl creates ↦ rw (live-created xs f creates, creations-more xs f creates) (lived_created xs (live xs) f (creations xs) creates (turns.creates creates).1 h turns)
      | inr other ↦ elim (cases_Bool (is_removal f)) [
        | inl removes ↦ rw (live-removed xs f other removes, creations-same xs f other) (lived_removed xs (live xs) f (creations xs) h turns)
        | inr also ↦ rw (live-same xs f other also, creations-same xs f other) (lived_same xs (live xs) f (creations xs) also h turns)
      ]
    ]

-- it holds of no outcomes
pub lived-none : Lived []
unfolding live creations
lived-none = record { counted = λ c e. absurd (some_none c (sym e)); within = λ f at. absurd at; placed = λ r at. absurd at; ended = λ r at. absurd at }

-- it holds of the outcomes about each queue
pub lived : (queue : List ℕ) (entries : List Entry) → Lived (about queue (history entries))
lived queue entries = by_own queue Lived lived-none lived-more entries

-- nothing comes to an incarnation that was removed
nothing_after : (xs : List Outcome) (living : Option Outcome) (n : ℕ) (r : Outcome) → IsLived xs living n → Among r xs → is_removal r ≡ true → incarnation_of living ≡ r.incarnation → ⊥
nothing_after xs None n r h at removes same = let own = h.placed r at removes in omega arith
nothing_after xs (Some c) n r h at removes same = let own = h.ended r at removes c refl in omega arith

-- the outcome of a fresh entry is on the incarnation by which its queue lives
incarnation-fresh : (outcomes : List Outcome) (e : Entry) → is_fresh e.request.client e.request.number outcomes ≡ true → (outcome_of outcomes e).incarnation ≡ incarnation_of (live (about (queue_of e.request.ask) outcomes))
unfolding fresh_outcome
incarnation-fresh outcomes e fresh = ap (λ f. f.incarnation) (outcome-fresh outcomes e fresh)

-- no fresh entry comes to an incarnation that was removed
pub none_comes : NoneComes
none_comes entries e removal fresh at removes same = let own = about (queue_of e.request.ask) (history entries) in
    nothing_after own (live own) (creations own) removal (lived (queue_of e.request.ask) entries) at removes (sym (incarnation-fresh (history entries) e fresh) ∙ same)

-- nothing is handed out of an incarnation that was removed
pub none_removed : NoneRemoved
unfolding reply_to
none_removed entries e removal deliveries d fresh at removes received inside same =
    let own = about (queue_of e.request.ask) (history entries) in
    let made = outcome-fresh (history entries) e fresh in
    let shown = subst (λ ds. Among d ds) (sym (ap deliveries_of received) ∙ ap (λ f. deliveries_of f.reply) made) inside in
    none_comes entries e removal fresh at removes (ap (λ f. f.incarnation) made ∙ sym (listed e own d shown) ∙ same)
