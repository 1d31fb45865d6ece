-- A root that is put into one half, and then into the other one.
use Rattle.std.proofs.Common.{◌≡◌, inl, inr, ⊎_elim, ℕ, ◌+◌, ◌<◌, List, length, drop, sym, ◌∙◌, ap, subst, arith}
use Rattle.std.specs.Prelude.{Some}
use Rattle.cq_journal.specs.declared.number.TheConstants.{NUMBER_LIMIT}
use Rattle.cq_journal.specs.Roots.{root_of, numbered, HasSoundHalves, IsOldOrNew, IsOldOrPut}

module _ (h : ℕ) (old text : List ℕ) where
  -- before the first write
  pub none_put : (c : List ℕ) → c ≡ old → IsOldOrPut h old text c
  none_put c is = (
    0,
    omega arith,
    record {
      root = inl (ap (root_of h) is);
      behind = ap (λ (l : List ℕ). drop (h + h) l) is;
      long = ap length is;
      sound = λ halves. subst (HasSoundHalves h) (sym is) halves;
    },
  )

  module _ (n : ℕ) (small : n < NUMBER_LIMIT) where
    -- in one half
    pub put_once : (c : List ℕ) → IsOldOrNew h old (numbered n text) c → IsOldOrPut h old text c
    put_once c either = (n, small, either)

    -- in both
    pub put_again : (mid : List ℕ) → IsOldOrNew h old (numbered n text) mid → root_of h mid ≡ Some (numbered n text) → (m : ℕ) → m < NUMBER_LIMIT → (c : List ℕ) → IsOldOrNew h mid (numbered m text) c → IsOldOrPut h old text c
    put_again mid first counts m small_m c either = ⊎_elim as_first as_second either.root
      where
        as_first : root_of h c ≡ root_of h mid → IsOldOrPut h old text c
        as_first is = (n, small, record { root = inr (is ∙ counts); behind = either.behind ∙ first.behind; long = either.long ∙ first.long; sound = λ halves. either.sound (first.sound halves) })

        as_second : root_of h c ≡ Some (numbered m text) → IsOldOrPut h old text c
        as_second is = (m, small_m, record { root = inr is; behind = either.behind ∙ first.behind; long = either.long ∙ first.long; sound = λ halves. either.sound (first.sound halves) })
