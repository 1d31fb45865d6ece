-- Numbers of servers in a row.
use Rattle.std.proofs.Common.{◌≡◌, ℕ, zero, suc, ◌+◌, ◌≤◌, ◌<◌, Bool, true, false, eqb, inl, inr, arith}
use Rattle.std.proofs.lemmas.Bool.{eq-eqb, both_ways, cases_Bool, or_left, or_right}
use Rattle.cq_chain.specs.Masters.{is_in, numbers_from}

-- a number of so many from one on is among them
pub in-numbers : (n k id : ℕ) → k ≤ id → id < k + n → is_in (numbers_from k n) id ≡ true
unfolding numbers_from
in-numbers zero k id low high = absurd (omega (arith, low, high))
in-numbers (suc n) k id low high = elim (cases_Bool (eqb k id)) [
  | inl here ↦ or_left (eqb k id) (is_in (numbers_from (k + 1) n) id) here
  | inr there ↦ or_right (eqb k id) (is_in (numbers_from (k + 1) n) id) (in-numbers n (k + 1) id (above there) (omega (arith, high)))
] where
  above : eqb k id ≡ false → k + 1 ≤ id
  above there = omega (arith, low, λ (same : k ≡ id). both_ways (eqb k id) there (eq-eqb k id same))
