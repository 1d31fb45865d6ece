-- The messages behind a sequence number, and the first of them.
use Rattle.std.proofs.Common.{◌≡◌, ℕ, ◌<◌, ◌≤◌, ◌∙◌, true≢false, ap, sym, subst, List, [], ◌∷◌, ◌++◌, length, get_or, map, Bool, true, false, cond, Option, Some, None, inl, inr, arith, suc, zero, refl}
use Rattle.std.proofs.Common.{Bor}
use Rattle.std.specs.Option.{option_map}
use Rattle.std.specs.Prelude.{nat_lt, IfSome, IsNone}
use Rattle.std.specs.List.{find}
use Rattle.std.proofs.lemmas.Bool.Decides.{nat_tests}
use Rattle.cq_base.specs.queue.Messages.{Message}
use Rattle.cq_base.specs.Relations.{Among}
use Rattle.cq_messages.specs.declared.slot.Slot.{Slot}
use Rattle.cq_messages.specs.within.Passing.{NonePasses}
use Rattle.cq_messages.specs.Ordered.{IsRising, is_after, all_after}
use Rattle.cq_messages.specs.Changes.{hidden_until}
use Rattle.cq_messages.specs.Slots.{live, kept_before, gone, passes, IsAscending}
use Rattle.cq_messages.proofs.Rising.{own-number}
use Rattle.cq_messages.proofs.Values.{hidden-same, hidden-other}

find_kept : (p : Message → Bool) (o : Option Message) (rest : List Message) → passes p o ≡ false → find p (kept_before o rest) ≡ find p rest
find_kept p None rest h = refl
find_kept p (Some m) rest h = ap (λ b. cond b (Some m) (find p rest)) h

-- a message that passes is the first that does, where none before its place does
pub find-passing : (p : Message → Bool) (ss : List Slot) (k : ℕ) (m : Message) → k < length ss → NonePasses p ss 0 k → (get_or ss k gone).message ≡ Some m → p m ≡ true → find p (live ss) ≡ Some m
find-passing p [] k m l none is pass = absurd (omega arith)
find-passing p (s ∷ ss) zero m l none is pass = here s.message is
  where
    here : (o : Option Message) → o ≡ Some m → find p (kept_before o (live ss)) ≡ Some m
    here None e = absurd cc
    here (Some x) e = ap (λ b. cond b (Some x) (find p (live ss))) (let same : x ≡ m = cc in ap p same ∙ pass) ∙ e
find-passing p (s ∷ ss) (suc k) m l none is pass =
    find_kept p s.message (live ss) (none 0 (omega arith) (omega arith))
    ∙ find-passing p ss k m (omega arith) (λ j a b. none (suc j) (omega arith) (omega arith)) is pass

pub find-none : (p : Message → Bool) (ss : List Slot) → NonePasses p ss 0 (length ss) → find p (live ss) ≡ None
find-none p [] none = refl
find-none p (s ∷ ss) none =
    find_kept p s.message (live ss) (none 0 (omega arith) (omega arith)) ∙ find-none p ss (λ j a b. none (suc j) (omega arith) (omega arith))

pub test_true : (n k : ℕ) → n < k → nat_lt n k ≡ true
test_true n k l = grind (arith, nat_tests)

test_false : (n k : ℕ) → k ≤ n → nat_lt n k ≡ false
test_false n k l = grind (arith, nat_tests)

-- all are behind a number that is at most the lower bound
pub all-later : (n b : ℕ) (ms : List Message) → IsRising b ms → n ≤ b → all_after n ms ≡ ms
all-later n b [] h l = refl
all-later n b (m ∷ ms) h l =
    let above = h.0 in
    ap (λ c. cond c (m ∷ all_after n ms) (all_after n ms)) (test_true n m.sequence (omega arith)) ∙ ap (λ ys. m ∷ ys) (all-later n m.sequence ms h.1 (omega arith))

-- what is found is behind the number
found_after : (n : ℕ) (ms : List Message) (m : Message) → find (is_after n) ms ≡ Some m → n < m.sequence
found_after n [] m e = absurd cc
found_after n (x ∷ ms) m e = by (nat_lt n x.sequence) refl (found_after n ms m) e
  where
    by : (c : Bool) → nat_lt n x.sequence ≡ c → (find (is_after n) ms ≡ Some m → n < m.sequence) → cond c (Some x) (find (is_after n) ms) ≡ Some m → n < m.sequence
    by true t rest e' = let same : x ≡ m = cc in subst (λ y. n < y.sequence) same (grind (arith, nat_tests))
    by false t rest e' = rest e'

-- the first behind a number stands before those behind its own
pub first-after : (b n : ℕ) (ms : List Message) (m : Message) → IsRising b ms → find (is_after n) ms ≡ Some m → all_after n ms ≡ m ∷ all_after m.sequence ms
first-after b n [] m h e = absurd cc
first-after b n (x ∷ ms) m h e = by (nat_lt n x.sequence) refl (first-after x.sequence n ms m h.1) e
  where
    by : (c : Bool) → nat_lt n x.sequence ≡ c → (find (is_after n) ms ≡ Some m → all_after n ms ≡ m ∷ all_after m.sequence ms) → cond c (Some x) (find (is_after n) ms) ≡ Some m
        → cond c (x ∷ all_after n ms) (all_after n ms) ≡ m ∷ cond (nat_lt m.sequence x.sequence) (x ∷ all_after m.sequence ms) (all_after m.sequence ms)
    by true t rest e' =
        let same : x ≡ m = cc in
        let over : n < x.sequence = grind (arith, nat_tests) in
        subst (λ y. x ∷ all_after n ms ≡ y ∷ cond (nat_lt y.sequence x.sequence) (x ∷ all_after y.sequence ms) (all_after y.sequence ms)) same
        (ap (λ ys. x ∷ ys) (all-later n x.sequence ms h.1 (omega arith)
        ∙ sym (ap (λ c. cond c (x ∷ all_after x.sequence ms) (all_after x.sequence ms)) (test_false x.sequence x.sequence (omega arith)) ∙ all-later x.sequence x.sequence ms h.1 (omega arith))))
    by false t rest e' =
        let over = found_after n ms m e' in
        let under : x.sequence ≤ n = grind (arith, nat_tests) in
        rest e' ∙ ap (λ ys. m ∷ ys) (sym (ap (λ c. cond c (x ∷ all_after m.sequence ms) (all_after m.sequence ms)) (test_false m.sequence x.sequence (omega arith))))

-- where none is found, none is behind the number
pub none-after : (n : ℕ) (ms : List Message) → find (is_after n) ms ≡ None → all_after n ms ≡ []
none-after n [] e = refl
none-after n (x ∷ ms) e = by (nat_lt n x.sequence) (none-after n ms) e
  where
    by : (c : Bool) → (find (is_after n) ms ≡ None → all_after n ms ≡ []) → cond c (Some x) (find (is_after n) ms) ≡ None → cond c (x ∷ all_after n ms) (all_after n ms) ≡ []
    by true rest e' = absurd cc
    by false rest e' = rest e'

-- a message behind all others gets its timeout
pub hidden-last : (ms : List Message) (fresh : Message) (end : ℕ) → ((x : Message) → Among x ms → x.sequence < fresh.sequence) → map (hidden_until fresh.sequence end) (ms ++ fresh ∷ []) ≡ ms ++ record fresh { until = end } ∷ []
hidden-last [] fresh end before = ap (λ y. y ∷ []) (hidden-same fresh.sequence end fresh refl)
hidden-last (x ∷ ms) fresh end before =
    ap (λ y. y ∷ map (hidden_until fresh.sequence end) (ms ++ fresh ∷ [])) (hidden-other fresh.sequence end x (λ e. let l = before x (inl refl) in omega arith))
    ∙ ap (λ ys. x ∷ ys) (hidden-last ms fresh end (λ y a. before y (inr a)))

-- a slot whose number isn't larger has no message behind the number
pub early-fails : (ss : List Slot) (n k : ℕ) → IsAscending 0 ss → k < length ss → (get_or ss k gone).sequence ≤ n → passes (is_after n) (get_or ss k gone).message ≡ false
early-fails ss n k h l small = by (get_or ss k gone).message refl
  where
    by : (o : Option Message) → (get_or ss k gone).message ≡ o → passes (is_after n) o ≡ false
    by None e = refl
    by (Some m) e = let own = own-number 0 ss k m h l e in test_false n m.sequence (omega arith)

-- what a call that looks for the first one answers
pub after-some : (n : ℕ) (ms : List Message) (o : Option (Bor Message)) → IsRising 0 ms → option_map (λ m. m.now) o ≡ find (is_after n) ms → IfSome o (λ m. all_after n ms ≡ m.now ∷ all_after m.now.sequence ms)
after-some n ms None h e = tt
after-some n ms (Some m) h e = first-after 0 n ms m.now h (sym e)

pub after-none : (n : ℕ) (ms : List Message) (o : Option (Bor Message)) → option_map (λ m. m.now) o ≡ find (is_after n) ms → IsNone o → all_after n ms ≡ []
after-none n ms None e none = none-after n ms (sym e)
after-none n ms (Some m) e none = absurd (true≢false none)
