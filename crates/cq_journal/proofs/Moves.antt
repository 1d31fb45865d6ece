-- The records of the region that grows are written into a free one, and the root names that in its place.
use Rattle.std.proofs.Common.{◌≡◌, ⊎_elim, ℕ, zero, suc, ◌+◌, ◌<◌, ◌≤◌, true, List, [], ◌∷◌, ◌++◌, length, drop, refl, sym, ◌∙◌, ap}
use Rattle.std.specs.Prelude.{replicate, Some}
use Rattle.cq_disk.specs.Region.{part, Beside}
use Rattle.cq_disk.specs.declared.device.TornWrites.{TornWrites}
use Rattle.cq_disk.specs.declared.device.TornWrites.TheVariants.{OldOrNew, Any}
use Rattle.std.proofs.lemmas.List.{drop_at}
use Rattle.cq_records.specs.Frames.{are_zeros, ends_with, frames, frames_end, is_closed, records, joined, all_sound}
use Rattle.cq_records.specs.Layout.{IsLog}
use Rattle.cq_records.specs.declared.behind.Behind.TheVariants.{TornBatch}
use Rattle.cq_records.proofs.Frames.{of_zeros}
use Rattle.cq_records.proofs.Torn.{log_ends}
use Rattle.cq_journal.specs.declared.number.TheConstants.{NUMBER_LIMIT}
use Rattle.cq_journal.specs.Roots.{root_of, numbered, IsOldOrNew}
use Rattle.cq_journal.specs.Regions.{behind_of, places_text, records_at, Each, AreApart, HasRecords}
use Rattle.cq_journal.proofs.Regions.{each_left, each_more, kept_blanked, kept_of, part_same, records_apart, records_more, records_same, root_apart}

-- The region at g grows and is read, and the one at p is free.
module _ {k : ℕ} (h len number g p : ℕ) (ns old : List ℕ) (small : Each (λ n. n < NUMBER_LIMIT) (ns ++ g ∷ [])) (low : Each (λ n. h + h ≤ n) (ns ++ g ∷ [])) (apart : Each (λ n. AreApart len n g) ns)
    (root : root_of h old ≡ Some (numbered number (k ∷ places_text (ns ++ g ∷ [])))) where
  abbrev pub rs : List (List ℕ)
  rs = records_at len (ns ++ g ∷ []) old

  module _ (low_p : h + h ≤ p) (small_p : p < NUMBER_LIMIT) (free : Each (λ n. AreApart len n p) (ns ++ g ∷ [])) where
    -- while the free region is written
    pub while_copied : (c : List ℕ) → Beside p len old c → HasRecords h len rs c
    while_copied c near = kept_blanked h len number p (ns ++ g ∷ []) old c small low_p free root near

    -- The copy has the same records.
    module _ (mid : List ℕ) (beside : Beside p len old mid) (copied : records (part p len mid) ≡ records (part g len old)) where
      pub records_moved : (c : List ℕ) → drop (h + h) c ≡ drop (h + h) mid → records_at len (ns ++ p ∷ []) c ≡ rs
      records_moved c same =
          records_more len ns p c
          ∙ (λ i. ((records_same h len mid c same ns (each_left (λ n. h + h ≤ n) ns g low) ∙ records_apart len p ns old mid (each_left (λ n. AreApart len n p) ns g free) beside) i)
          ++ ((ap records (part_same h len mid c same p low_p) ∙ copied) i))
          ∙ sym (records_more len ns g old)

      -- while the root changes
      pub while_moved : {k2 : ℕ} (m : ℕ) (c : List ℕ) → IsOldOrNew h mid (numbered m (k2 ∷ places_text (ns ++ p ∷ []))) c → HasRecords h len rs c
      while_moved {k2} m c either = ⊎_elim as_old as_new either.root
        where
          as_old : root_of h c ≡ root_of h mid → HasRecords h len rs c
          as_old is =
              kept_of h len number (ns ++ g ∷ []) c small (is ∙ root_apart h p len old mid low_p beside ∙ root)
              ∙ ap (λ (xs : List (List ℕ)). Some xs) (records_same h len mid c either.behind (ns ++ g ∷ []) low ∙ records_apart len p (ns ++ g ∷ []) old mid free beside)

          as_new : root_of h c ≡ Some (numbered m (k2 ∷ places_text (ns ++ p ∷ []))) → HasRecords h len rs c
          as_new is =
              kept_of h len m (ns ++ p ∷ []) c (each_more (λ n. n < NUMBER_LIMIT) ns p (each_left (λ n. n < NUMBER_LIMIT) ns g small) small_p) is
              ∙ ap (λ (xs : List (List ℕ)). Some xs) (records_moved c either.behind)

-- a region of zeros is an empty log
pub blank_frames : (len : ℕ) (bytes : List ℕ) → bytes ≡ replicate len 0 → frames bytes ≡ []
blank_frames len bytes zeros = ap frames zeros ∙ of_zeros len

pub blank_log : (len : ℕ) (bytes : List ℕ) → bytes ≡ replicate len 0 → IsLog bytes 0
blank_log len bytes zeros =
    let none = blank_frames len bytes zeros in
    record {
      room = len;
      is = zeros ∙ ap (λ (fs : List (List ℕ)). joined fs ++ replicate len 0) (sym none);
      ends = sym (ap (λ (fs : List (List ℕ)). length (joined fs)) none);
      sound = ap all_sound none;
    }

-- a log is closed where it ends
pub log_closed : (bytes : List ℕ) (end : ℕ) → IsLog bytes end → is_closed bytes ≡ true
log_closed bytes end log =
    ap (λ (l : List ℕ). are_zeros (drop (frames_end bytes) l)) log.is
    ∙ ap are_zeros (drop_at (joined (frames bytes)) (replicate log.room 0) (frames_end bytes) refl) ∙ zeros_are log.room
  where
    zeros_are : (n : ℕ) → are_zeros (replicate n 0) ≡ true
    zeros_are zero = refl
    zeros_are (suc n) = zeros_are n

pub ends_so : (torn : TornWrites) (bytes : List ℕ) → (torn ≡ OldOrNew → ends_with TornBatch bytes ≡ true) → ends_with (behind_of torn) bytes ≡ true
ends_so OldOrNew bytes ends = ends refl
ends_so Any bytes ends = refl

-- and so it is however it is written
pub log_any : (torn : TornWrites) (bytes : List ℕ) (end : ℕ) → IsLog bytes end → ends_with (behind_of torn) bytes ≡ true
log_any OldOrNew bytes end log = log_ends bytes end log
log_any Any bytes end log = refl
