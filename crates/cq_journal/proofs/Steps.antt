-- Places in steps of a length.
use Rattle.std.proofs.Common.{◌≡◌, ◌⊎◌, inl, inr, ⊎_elim, ◌+◌, ◌*◌, ◌<◌, ◌≤◌, ℕ, zero, suc, refl, ap, arith}

pub next_step : (m len : ℕ) → suc m * len ≡ m * len + len
next_step m len = omega arith

pub below_next : (k m : ℕ) → k < suc m → (k < m) ⊎ (k ≡ m)
below_next zero zero below = inr refl
below_next zero (suc m) below = inl (omega arith)
below_next (suc k) zero below = absurd (omega (arith, below))
below_next (suc k) (suc m) below = ⊎_elim (λ less. inl (omega (arith, less))) (λ same. inr (ap suc same)) (below_next k m (omega (arith, below)))

pub either_way : (k m : ℕ) → (k < m) ⊎ (m ≤ k)
either_way k zero = inr (omega arith)
either_way k (suc m) = ⊎_elim (λ less. inl (omega (arith, less))) (λ le. go k m le) (either_way k m)
  where
    go : (k m : ℕ) → m ≤ k → (k < suc m) ⊎ (suc m ≤ k)
    go zero zero le = inl (omega arith)
    go (suc k) zero le = inr (omega arith)
    go zero (suc m) le = absurd (omega (arith, le))
    go (suc k) (suc m) le = ⊎_elim (λ less. inl (omega (arith, less))) (λ more. inr (omega (arith, more))) (go k m (omega (arith, le)))
