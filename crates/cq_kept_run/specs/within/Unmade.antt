-- Bytes in which a journal is still to be made.
use Rattle.std.specs.Prelude.{◌≡◌, ℕ, List, true, None, drop}
use Rattle.cq_records.specs.Frames.{are_zeros}
use Rattle.cq_journal.specs.Roots.{half_of}
use Rattle.cq_kept_run.specs.declared.sizes.TheConstants.{FIRST_ROOT}

-- The first half of a root has no record, and behind the place of a first root there are zeros. So it is of zeros alone, and of what a
-- crash leaves that tore a first root.
pub record IsUnmade (half : ℕ) (bytes : List ℕ) : Type 0 where
  pub rootless : half_of 0 half bytes ≡ None
  pub blank : are_zeros (drop FIRST_ROOT bytes) ≡ true
