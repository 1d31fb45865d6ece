-- The half of a root that was found, as it is read again.
use Rattle.std.proofs.Common.{◌≡◌, ◌⊎◌, ⊎_elim, ℕ, ◌-◌, ◌<◌, false, List, Some, sym, ◌∙◌, ap, subst}
use Rattle.cq_disk.specs.Region.{part}
use Rattle.cq_records.specs.Frames.{frames, all_sound}
use Rattle.cq_journal.specs.Found.{IsRootAt}
use Rattle.cq_journal.specs.Roots.{number_in, half_of, HasSoundHalves}
use Rattle.cq_journal.specs.declared.opening.Found.{Found}
use Rattle.cq_journal.proofs.Halves.{counts}
use Rattle.cq_journal.proofs.Refused.{not_both}

module _ (half : ℕ) (seen : List ℕ) (it : Found) (is : IsRootAt half seen it) where
  -- it has the root
  pub half_is : half_of it.start half seen ≡ Some it.bytes.items
  half_is = sym (counts half it.start is.place seen (subst (λ (n : ℕ). number_in (half_of (half - it.start) half seen) < n) (sym is.current) is.other)) ∙ is.counts

  -- and is sound where both are
  pub half_sound : HasSoundHalves half seen → all_sound (frames (part it.start half seen)) ≡ false → ⊥
  half_sound halves damaged = ⊎_elim
      (λ (first : it.start ≡ 0). not_both halves.first (ap (λ (k : ℕ). all_sound (frames (part k half seen))) (sym first) ∙ damaged))
      (λ (second : it.start ≡ half). not_both halves.second (ap (λ (k : ℕ). all_sound (frames (part k half seen))) (sym second) ∙ damaged)) is.place
