-- Crashes in openings, and what they leave.
use Rattle.std.proofs.Common.{◌≡◌, ◌⊎◌, inl, inr, ⊎_elim, ℕ, zero, suc, List, ◌++◌, take, sym, ◌∙◌, subst}
use Rattle.std.specs.Prelude.{Some}
use Rattle.cq_disk.specs.Device.{LeavesOnly}
use Rattle.cq_journal.specs.Changes.{Change, adds, replaces, rests, MayBeLeft, HasLeft}
use Rattle.cq_journal.specs.Histories.{OpensTo, Inherits, IsOpenedAgain, Survives}
use Rattle.cq_journal.specs.Regions.{kept}

some_of : (a b : List (List ℕ)) → Some a ≡ Some b → a ≡ b
some_of a b same = cc

-- bytes stand for records that may be left, if their call leaves such bytes
pub may_of : (half len : ℕ) (rs : List (List ℕ)) (change : Change) (bytes : List ℕ) (found : List (List ℕ)) → HasLeft half len rs change bytes → kept half len bytes ≡ Some found → MayBeLeft rs change found
may_of half len rs (adds batch) bytes found left is = (left.0, some_of found (rs ++ take left.0 batch) (sym is ∙ left.1))
may_of half len rs (replaces base) bytes found left is = ⊎_elim (λ old. inl (some_of found rs (sym is ∙ old))) (λ new. inr (some_of found base (sym is ∙ new))) left
may_of half len rs rests bytes found left is = some_of found rs (sym is ∙ left)

-- bytes that stand for the same
pub same_left : (half len : ℕ) (rs : List (List ℕ)) (change : Change) (a b : List ℕ) → kept half len b ≡ kept half len a → HasLeft half len rs change a → HasLeft half len rs change b
same_left half len rs (adds batch) a b same left = (left.0, same ∙ left.1)
same_left half len rs (replaces base) a b same left = ⊎_elim (λ old. inl (same ∙ old)) (λ new. inr (same ∙ new)) left
same_left half len rs rests a b same left = same ∙ left

module _ {D : Type 0} (moment : D → ℕ) (left_since : D → ℕ → List ℕ → Type 0) (may_leave : D → List ℕ → Type 0) (seen : D → List ℕ) (half len : ℕ) (rs : List (List ℕ)) (change : Change) where
  -- what reads give and each outcome of a crash are such bytes
  record Stands (d : D) : Type 0 where
    shown : HasLeft half len rs change (seen d)
    medium : (c : List ℕ) → may_leave d c → HasLeft half len rs change c

  begins : (old last first : D) → LeavesOnly moment left_since old last (HasLeft half len rs change) → Inherits moment left_since may_leave seen last (moment old) first → Stands first
  begins old last first run on = record { shown = run.each (seen first) on.shown; medium = λ c may. run.each c (on.medium c may) }

  goes_on : (first last next : D) → Stands first → OpensTo moment left_since may_leave seen half len first last → Inherits moment left_since may_leave seen last (moment first) next → Stands next
  goes_on first last next stands opens on = record { shown = so (seen next) (opens.each (seen next) on.shown); medium = λ c may. so c (opens.each c (on.medium c may)) }
    where
      so : (c : List ℕ) → may_leave first c ⊎ (kept half len c ≡ kept half len (seen first)) → HasLeft half len rs change c
      so c either = ⊎_elim (λ before. stands.medium c before) (λ same. same_left half len rs change (seen first) c same stands.shown) either

  again : (times : ℕ) (first new : D) → Stands first → IsOpenedAgain moment left_since may_leave seen half len times first new → Stands new
  again zero first new stands same = subst Stands (sym same) stands
  again (suc times) first new stands all = again times all.1 new (goes_on first all.0 all.1 stands all.2 all.3) all.4

  pub survives : (old last first new : D) → Survives moment left_since may_leave seen half len rs change old last first new
  survives old last first new run on times all found is = may_of half len rs change (seen new) found (again times first new (begins old last first run on) all).shown is
