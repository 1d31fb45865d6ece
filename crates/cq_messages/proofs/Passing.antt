-- The messages that pass a test, from slot to slot.
use Rattle.std.proofs.Common.{◌≡◌, ℕ, ◌+◌, ◌-◌, ◌<◌, ◌≤◌, ◌∙◌, ap, subst, List, [], ◌∷◌, ◌++◌, length, get_or, take, Bool, false, cond, Option, Some, None, arith, suc, zero, refl}
use Rattle.std.specs.List.{filter}
use Rattle.std.proofs.lemmas.List.{take_more, append-nil}
use Rattle.std.proofs.lemmas.List.Elements.{filter-append}
use Rattle.cq_base.specs.queue.Messages.{Message}
use Rattle.cq_messages.specs.declared.slot.Slot.{Slot}
use Rattle.cq_messages.specs.within.Passing.{NonePasses, passing_upto}
use Rattle.cq_messages.specs.Slots.{live, kept_before, gone, passes}

kept_append : (o : Option Message) (xs ys : List Message) → kept_before o (xs ++ ys) ≡ kept_before o xs ++ ys
kept_append None xs ys = refl
kept_append (Some m) xs ys = refl

pub live-append : (ss ts : List Slot) → live (ss ++ ts) ≡ live ss ++ live ts
live-append [] ts = refl
live-append (s ∷ ss) ts = ap (kept_before s.message) (live-append ss ts) ∙ kept_append s.message (live ss) (live ts)

pub live-more : (ss : List Slot) (k : ℕ) → k < length ss → live (take (k + 1) ss) ≡ live (take k ss) ++ kept_before (get_or ss k gone).message []
live-more ss k h = ap live (take_more ss k gone h) ∙ live-append (take k ss) (get_or ss k gone ∷ [])

-- there are no more messages than slots
pub live-short : (ss : List Slot) → length (live ss) ≤ length ss
live-short [] = omega arith
live-short (s ∷ ss) = by s.message (live-short ss)
  where
    by : (o : Option Message) → length (live ss) ≤ length ss → length (kept_before o (live ss)) ≤ suc (length ss)
    by None h = omega arith
    by (Some m) h = omega arith

-- a message that doesn't pass adds nothing
filter_failing : (p : Message → Bool) (o : Option Message) → passes p o ≡ false → filter p (kept_before o []) ≡ []
filter_failing p None h = refl
filter_failing p (Some m) h = ap (λ b. cond b (m ∷ []) []) h

pub passing-more : (p : Message → Bool) (ss : List Slot) (k : ℕ) → k < length ss → passing_upto p ss (k + 1) ≡ passing_upto p ss k ++ filter p (kept_before (get_or ss k gone).message [])
passing-more p ss k h = ap (filter p) (live-more ss k h) ∙ filter-append p (live (take k ss)) (kept_before (get_or ss k gone).message [])

skipped : (p : Message → Bool) (ss : List Slot) (from d : ℕ) → from + d ≤ length ss → NonePasses p ss from (from + d) → passing_upto p ss (from + d) ≡ passing_upto p ss from
skipped p ss from zero l none = let e : from + 0 ≡ from = omega arith in ap (passing_upto p ss) e
skipped p ss from (suc d) l none =
    let k = from + d in
    let e : k + 1 ≡ from + suc d = omega arith in
    subst (λ j. passing_upto p ss j ≡ passing_upto p ss from) e
    (passing-more p ss k (omega arith)
    ∙ ap (λ xs. passing_upto p ss k ++ xs) (filter_failing p (get_or ss k gone).message (none k (omega arith) (omega arith)))
    ∙ append-nil (passing_upto p ss k)
    ∙ skipped p ss from d (omega arith) (λ j a b. none j a (omega arith)))

-- between two messages that pass, one behind the other, there is none
pub passing-skip : (p : Message → Bool) (ss : List Slot) (from i : ℕ) → from ≤ i → i ≤ length ss → NonePasses p ss from i → passing_upto p ss i ≡ passing_upto p ss from
passing-skip p ss from i o l none =
    let e : from + (i - from) ≡ i = omega arith in
    subst (λ j. passing_upto p ss j ≡ passing_upto p ss from) e (skipped p ss from (i - from) (omega arith) (λ k a b. none k a (omega arith)))
