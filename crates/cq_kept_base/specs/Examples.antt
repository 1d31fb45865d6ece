-- Rows that compute.
use Rattle.std.specs.Prelude.{◌≡◌, false, [], ◌∷◌, Ok, Err}
use Rattle.cq_wire.specs.declared.fault.WireFault.TheVariants.{Truncated}
use Rattle.cq_kept_base.specs.Stuffed.{unstuffed}

pub record StuffedExamples : Type 0 where
  pub plain : unstuffed false (65 ∷ 66 ∷ []) ≡ Ok (65 ∷ 66 ∷ [])
  pub zeros : unstuffed false (65 ∷ 3 ∷ 13 ∷ 66 ∷ []) ≡ Ok (65 ∷ 0 ∷ 0 ∷ 0 ∷ 66 ∷ [])
  pub ones_and_line_feeds : unstuffed false (3 ∷ 3 ∷ 3 ∷ 2 ∷ 3 ∷ 4 ∷ 3 ∷ 11 ∷ []) ≡ Ok (3 ∷ 10 ∷ 1 ∷ 0 ∷ [])
  pub cut_off : unstuffed false (65 ∷ 3 ∷ []) ≡ Err Truncated
