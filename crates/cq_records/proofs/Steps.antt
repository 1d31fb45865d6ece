-- Reading goes on behind a record.
use Rattle.std.proofs.Common.{◌≡◌, ℕ, ◌+◌, ◌≤◌, List, [], ◌∷◌, ◌++◌, length, take, drop, sym, ◌∙◌, ap, arith, append_assoc, drop-drop, length-append, length-drop, length-take}
use Rattle.cq_disk.specs.Device.{LeavesOnly}
use Rattle.cq_disk.proofs.Moments.{runs_on, weakened}
use Rattle.std.specs.Prelude.{Bool, false, ◌&&◌, map}
use Rattle.cq_records.specs.Frames.{text_of, frames, frames_end, records, joined, all_sound, BeginsWith}

-- one call behind another, of which neither writes
pub reads_on : {D : Type 0} (moment : D → ℕ) (left_since : D → ℕ → List ℕ → Type 0) (may_leave : D → List ℕ → Type 0) → ((device : D) (t : ℕ) (c : List ℕ) → t ≤ moment device → may_leave device c → left_since device t c)
    → (a b c : D) → LeavesOnly moment left_since a b (may_leave a) → LeavesOnly moment left_since b c (may_leave b) → LeavesOnly moment left_since a c (may_leave a)
reads_on moment left_since may_leave counts_now a b c first second =
    runs_on moment left_since a b c (may_leave a) first (weakened moment left_since b c (may_leave b) (may_leave a) second (λ f left. first.each f (counts_now b (moment a) f first.later left)))

module _ (at behind : ℕ) (bytes text : List ℕ) (begins : BeginsWith text (drop at bytes)) (is : behind ≡ at + 9 + length text) where
  later : drop (9 + length text) (drop at bytes) ≡ drop behind bytes
  later = drop-drop (9 + length text) at bytes ∙ ap (λ (k : ℕ). drop k bytes) (omega (arith, is))

  pub one_read : records (drop at bytes) ≡ text ∷ records (drop behind bytes)
  one_read = ap (map text_of) begins.whole ∙ (λ i. sym begins.reads i ∷ records (later i))

  pub still_unsound : all_sound (frames (drop behind bytes)) ≡ false → all_sound (frames (drop at bytes)) ≡ false
  still_unsound unsound =
      ap all_sound begins.whole ∙ ap (λ (sound : Bool). sound && all_sound (frames (drop (9 + length text) (drop at bytes)))) begins.sound
      ∙ ap (λ (rest : List ℕ). all_sound (frames rest)) later ∙ unsound

  -- the records of a batch, and those that are left
  pub one_added : (batch added all : List (List ℕ)) → added ≡ batch ++ text ∷ [] → batch ++ records (drop at bytes) ≡ all → added ++ records (drop behind bytes) ≡ all
  one_added batch added all added_is so_far =
      ap (λ (rs : List (List ℕ)). rs ++ records (drop behind bytes)) added_is
      ∙ append_assoc batch (text ∷ []) (records (drop behind bytes))
      ∙ ap (λ (rs : List (List ℕ)). batch ++ rs) (sym one_read) ∙ so_far

  -- the texts that were added, and those that are left
  pub text_added : (texts added all : List ℕ) → added ≡ texts ++ text → texts ++ joined (records (drop at bytes)) ≡ all → added ++ joined (records (drop behind bytes)) ≡ all
  text_added texts added all added_is so_far =
      ap (λ (read : List ℕ). read ++ joined (records (drop behind bytes))) added_is
      ∙ append_assoc texts text (joined (records (drop behind bytes)))
      ∙ ap (λ (rs : List (List ℕ)). texts ++ joined rs) (sym one_read) ∙ so_far

  -- the frames end where they did
  pub same_end : behind ≤ length bytes → at + frames_end (drop at bytes) ≡ behind + frames_end (drop behind bytes)
  same_end within =
      let first : List ℕ = take (9 + length text) (drop at bytes) in
      let rest = ap (λ (l : List ℕ). frames_end l) later in
      let long : length first ≡ 9 + length text = omega (arith, length-take (9 + length text) (drop at bytes), length-drop at bytes, is, within) in
      omega (arith, ap (λ (fs : List (List ℕ)). length (joined fs)) begins.whole, length-append first (joined (frames (drop (9 + length text) (drop at bytes)))), long, rest, is)

  -- one record more was counted
  pub one_counted : (count all : ℕ) → count + length (records (drop at bytes)) ≡ all → count + 1 + length (records (drop behind bytes)) ≡ all
  one_counted count all so_far = omega (arith, so_far, ap length one_read)
