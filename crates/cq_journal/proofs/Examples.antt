-- The rows compute.
use Rattle.std.proofs.Common.{◌≡◌, ℕ, ◌+◌, ◌<◌, ◌≤◌, true, false, List, [], ◌∷◌, ◌++◌, length, refl, sym, ◌∙◌, subst, arith}
use Rattle.std.specs.Prelude.{Some}
use Rattle.cq_disk.specs.Region.{part}
use Rattle.cq_disk.specs.declared.device.TornWrites.{TornWrites}
use Rattle.cq_disk.specs.declared.device.TornWrites.TheVariants.{OldOrNew, Any}
use Rattle.cq_records.specs.Frames.{frames, all_sound, ends_with}
use Rattle.cq_journal.specs.Changes.{ChangeExamples}
use Rattle.cq_journal.specs.Intact.{IsIntact, IntactExamples, example, example_of_any, two_records}
use Rattle.cq_journal.specs.Regions.{Each, AreSound, behind_of, regions_text}
use Rattle.cq_journal.specs.Roots.{number_in, half_of, root_of, numbered}
use Rattle.cq_journal.proofs.Intact.{same_places, same_torn}
use Rattle.cq_journal.proofs.RegionLists.{snoc_same}
use Rattle.cq_journal.proofs.Refused.{not_both}

pub rows : ChangeExamples
rows = record { records_after = refl; added_before = refl; all_told = refl; cut_short = (1, refl) }

-- what such bytes name, where they are intact
module _ (torn : TornWrites) (bytes : List ℕ) (root : root_of 20 bytes ≡ Some (numbered 1 (regions_text torn (40 ∷ [])))) where
  places_are : (i : IsIntact 20 20 bytes) → i.1 ++ i.2 ∷ [] ≡ 40 ∷ []
  places_are i = same_places i.0 1 (i.1 ++ i.2 ∷ []) (40 ∷ []) i.4.small (omega arith, tt) (sym i.4.names ∙ root)

  unsound : all_sound (frames (part 40 20 bytes)) ≡ false → IsIntact 20 20 bytes → ⊥
  unsound not i = not_both (subst (λ (ns : List ℕ). AreSound 20 ns bytes) (places_are i) i.4.regions).0 not

  lost : ends_with (behind_of torn) (part 40 20 bytes) ≡ false → IsIntact 20 20 bytes → ⊥
  lost not i =
      let growing : i.2 ≡ 40 = (snoc_same i.1 [] i.2 40 (places_are i)).1 in
      let kind : i.3 ≡ torn = same_torn i.0 1 i.3 torn (i.1 ++ i.2 ∷ []) (40 ∷ []) (sym i.4.names ∙ root) in
      not_both ((λ k. ends_with (behind_of (sym kind k)) (part (sym growing k) 20 bytes)) ∙ i.4.grown) not

  outside : length bytes < 60 → IsIntact 20 20 bytes → ⊥
  outside short i = omega (arith, short, (subst (λ (ns : List ℕ). Each (λ n. n + 20 ≤ length bytes) ns) (places_are i) i.4.within).0)

  intact : length bytes ≡ 60 → number_in (half_of 0 20 bytes) ≡ 1 → number_in (half_of 20 20 bytes) ≡ 0
      → all_sound (frames (part 0 20 bytes)) ≡ true → all_sound (frames (part 20 20 bytes)) ≡ true → all_sound (frames (part 40 20 bytes)) ≡ true → ends_with (behind_of torn) (part 40 20 bytes) ≡ true → IsIntact 20 20 bytes
  intact long one zero first second region ends = (
    1,
    [],
    40,
    torn,
    record {
      names = root;
      small_number = omega arith;
      small = (omega arith, tt);
      behind = (omega arith, tt);
      within = (omega (arith, long), tt);
      apart = tt;
      halves = record { differ = λ same. omega (arith, one, zero, same); first = first; second = second };
      regions = (region, tt);
      closed_logs = tt;
      grown = ends;
    },
  )

pub intact_rows : IntactExamples
intact_rows = record {
  whole = intact OldOrNew (example (two_records 65 66)) refl refl refl refl refl refl refl refl;
  torn = intact OldOrNew (example (two_records 65 0)) refl refl refl refl refl refl refl refl;
  rotten = unsound OldOrNew (example (two_records 65 67)) refl refl;
  lost = lost OldOrNew (example (two_records 0 66)) refl refl;
  lost_to_any = intact Any (example_of_any (two_records 0 66)) refl refl refl refl refl refl refl refl;
  short = outside OldOrNew (example (2 ∷ 3 ∷ 2 ∷ 2 ∷ 219 ∷ 15 ∷ 229 ∷ 218 ∷ 1 ∷ 65 ∷ [])) refl (omega arith);
}
