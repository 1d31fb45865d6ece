-- Slots in order of their sequence numbers.
use Rattle.std.proofs.Common.{◌≡◌, ℕ, ◌+◌, ◌<◌, ◌≤◌, List, [], ◌∷◌, length, get_or, arith, suc, zero, ◌≢◌, ◌⊎◌, inl, inr, subst}
use Rattle.std.proofs.lemmas.Bool.{cases_lt}
use Rattle.cq_messages.specs.declared.slot.Slot.{Slot}
use Rattle.cq_messages.specs.Slots.{IsAscending, gone}

pub ascending-above : (b : ℕ) (ss : List Slot) (k : ℕ) → IsAscending b ss → k < length ss → b < (get_or ss k gone).sequence
ascending-above b [] k h l = absurd (omega arith)
ascending-above b (s ∷ ss) zero h l = h.0
ascending-above b (s ∷ ss) (suc k) h l = let below = h.0 in let r = ascending-above s.sequence ss k h.1.1 (omega arith) in omega arith

pub ascending-order : (b : ℕ) (ss : List Slot) (j k : ℕ) → IsAscending b ss → j < k → k < length ss → (get_or ss j gone).sequence < (get_or ss k gone).sequence
ascending-order b [] j k h o l = absurd (omega arith)
ascending-order b (s ∷ ss) j zero h o l = absurd (omega arith)
ascending-order b (s ∷ ss) zero (suc k) h o l = ascending-above s.sequence ss k h.1.1 (omega arith)
ascending-order b (s ∷ ss) (suc j) (suc k) h o l = ascending-order s.sequence ss j k h.1.1 (omega arith) (omega arith)

pub ascending-upto : (b : ℕ) (ss : List Slot) (j k : ℕ) → IsAscending b ss → j ≤ k → k < length ss → (get_or ss j gone).sequence ≤ (get_or ss k gone).sequence
ascending-upto b ss j k h o l = upto (cases_lt j k)
  where
    upto : (j < k) ⊎ (k ≤ j) → (get_or ss j gone).sequence ≤ (get_or ss k gone).sequence
    upto (inl s) = let r = ascending-order b ss j k h s l in omega arith
    upto (inr m) = let same : j ≡ k = omega arith in subst (λ i. (get_or ss j gone).sequence ≤ (get_or ss i gone).sequence) same (omega arith)

pub ascending-far : (b : ℕ) (ss : List Slot) (k : ℕ) → IsAscending b ss → k < length ss → b + k < (get_or ss k gone).sequence
ascending-far b [] k h l = absurd (omega arith)
ascending-far b (s ∷ ss) zero h l = let r = h.0 in omega arith
ascending-far b (s ∷ ss) (suc k) h l = let below = h.0 in let r = ascending-far s.sequence ss k h.1.1 (omega arith) in omega arith

-- each number is larger than the one before it
pub ascending-apart : (b : ℕ) (ss : List Slot) (j k : ℕ) → IsAscending b ss → j ≤ k → k < length ss → (get_or ss j gone).sequence + k ≤ (get_or ss k gone).sequence + j
ascending-apart b [] j k h o l = absurd (omega arith)
ascending-apart b (s ∷ ss) zero zero h o l = omega arith
ascending-apart b (s ∷ ss) (suc j) zero h o l = absurd (omega arith)
ascending-apart b (s ∷ ss) zero (suc k) h o l = let r = ascending-far s.sequence ss k h.1.1 (omega arith) in omega arith
ascending-apart b (s ∷ ss) (suc j) (suc k) h o l = let r = ascending-apart s.sequence ss j k h.1.1 (omega arith) (omega arith) in omega arith

-- where no slot below `low` has that number, and that at `low` has another, which isn't smaller, none has it
pub ascending-none : (ss : List Slot) (low n : ℕ) → IsAscending 0 ss → ((k : ℕ) → k < low → (get_or ss k gone).sequence < n) → ((k : ℕ) → low ≤ k → k < length ss → n ≤ (get_or ss k gone).sequence)
    → (low < length ss → (get_or ss low gone).sequence ≢ n) → (k : ℕ) → k < length ss → (get_or ss k gone).sequence ≢ n
ascending-none ss low n h below above other k l e = none (cases_lt k low)
  where
    none : (k < low) ⊎ (low ≤ k) → ⊥
    none (inl s) = let r = below k s in omega arith
    none (inr m) =
        let in_list : low < length ss = omega arith in
        let least = above low (omega arith) in_list in
        let order = ascending-upto 0 ss low k h m l in
        other in_list (omega arith)
