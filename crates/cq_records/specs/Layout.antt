-- The bytes of a log.
use Rattle.std.specs.Prelude.{◌≡◌, ℕ, true, List, ◌++◌, length, take, replicate}
use Rattle.cq_disk.specs.declared.device.TornWrites.{TornWrites}
use Rattle.cq_disk.specs.declared.device.TornWrites.TheVariants.{OldOrNew}
use Rattle.cq_records.specs.declared.behind.Behind.TheVariants.{TornBatch}
use Rattle.cq_records.specs.Frames.{frames, joined, all_sound, ends_with}

-- they are frames up to this place, and zeros behind it
pub record IsLog (bytes : List ℕ) (end : ℕ) : Type 0 where
  pub room : ℕ
  pub is : bytes ≡ joined (frames bytes) ++ replicate room 0
  pub ends : end ≡ length (joined (frames bytes))
  pub sound : all_sound (frames bytes) ≡ true

-- They stand for these frames and so many of the others, from the first on. Where a torn write leaves old or written bytes, what comes behind
-- them is that of one batch.
pub record IsPrefixOf (torn : TornWrites) (before batch : List (List ℕ)) (bytes : List ℕ) : Type 0 where
  pub many : ℕ
  pub frames : frames bytes ≡ before ++ take many batch
  pub rest : torn ≡ OldOrNew → ends_with TornBatch bytes ≡ true
