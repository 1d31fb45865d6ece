-- The laws of outcomes.
use Rattle.std.proofs.Common.{◌≡◌, ◌⊎◌, ℕ, zero, suc, ◌≤◌, true, List, [], ◌∷◌, take, refl, ◌∙◌, ap}
use Rattle.std.proofs.lemmas.Bool.{and_parts, and_from}
use Rattle.cq_disk.proofs.Parts.{alone}
use Rattle.cq_records.specs.Frames.{is_sound, all_sound}
use Rattle.cq_records.specs.Layout.{IsPrefixOf}
use Rattle.cq_records.specs.Outcomes.{ChangesAlone, NoneDamaged}
use Rattle.cq_records.proofs.Frames.{sound_append}

pub changes_alone : {D : Type 0} (moment : D → ℕ) (left_since : D → ℕ → List ℕ → Type 0) (may_leave : D → List ℕ → Type 0) (keeps : D → D → Type 0) (seen : D → List ℕ)
    → ((a b : D) (t : ℕ) (c : List ℕ) → keeps a b → t ≤ moment a → left_since b t c → left_since a t c ⊎ left_since b (moment a) c) → (old new : D) → ChangesAlone moment left_since may_leave keeps seen old new
changes_alone moment left_since may_leave keeps seen splits old new torn start len new_start new_len before batch kept only prefix =
    alone moment left_since may_leave keeps seen splits start len new_start new_len old new (IsPrefixOf torn before batch) kept only prefix

sound_take : (n : ℕ) (fs : List (List ℕ)) → all_sound fs ≡ true → all_sound (take n fs) ≡ true
sound_take zero fs are = refl
sound_take (suc n) [] are = refl
sound_take (suc n) (f ∷ fs) are =
    let parts = and_parts (is_sound f) (all_sound fs) are in
    and_from (is_sound f) (all_sound (take n fs)) parts.0 (sound_take n fs parts.1)

pub none_damaged : NoneDamaged
none_damaged torn before batch bytes sound_before sound_batch prefix =
    ap all_sound prefix.frames ∙ sound_append before (take prefix.many batch) sound_before (sound_take prefix.many batch sound_batch)
