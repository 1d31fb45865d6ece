-- What a crash leaves of frames that were written over zeros.
use Rattle.std.proofs.Common.{◌≡◌, ◌⊎◌, inl, inr, ⊎_elim, ℕ, zero, suc, ◌+◌, ◌-◌, ◌*◌, ◌<◌, ◌≤◌, true, false, List, [], ◌∷◌, ◌++◌, length, take, drop, refl, sym, ◌∙◌, ap, arith, append_assoc, length-append, length-take, take-append-drop, drop-drop, le-leb}
use Rattle.std.specs.Prelude.{◌==◌, ◌||◌, ◌&&◌, nat_le, replicate, slice_index}
use Rattle.std.proofs.lemmas.Bool.{cases_Bool, cases_eq, and_from, true≢false}
use Rattle.std.proofs.lemmas.List.{take_at, drop_at, drop-replicate, get_or_append_left}
use Rattle.cq_disk.specs.declared.device.TornWrites.{TornWrites}
use Rattle.cq_records.specs.declared.behind.Behind.TheVariants.{TornBatch}
use Rattle.cq_records.specs.Frames.{frame_length, is_whole, frames, joined, has_no_one, is_torn, ends_with}
use Rattle.cq_records.specs.Layout.{IsLog, IsPrefixOf}
use Rattle.cq_records.proofs.Zeros.{Faded, has_no_zero, faded_long, unfaded, faded_at, faded_parts, no_zero_at, no_one_zeros, no_one_behind, no_one_drop_append, no_one_faded}
use Rattle.cq_records.proofs.Frames.{Whole, whole_parts, whole_full, mark_bounds, IsFrame, AllFrames, all_frames, index_prefix, length_prefix, frame_prefix, none_whole, of_zeros, behind_frames, behind_frame}

-- what a torn batch may leave
torn_from : (rest : List ℕ) → (slice_index rest 0 ≡ 0) ⊎ (slice_index rest 0 ≡ 2) → slice_index rest 8 ≤ 2 → has_no_one (drop 9 rest) ≡ true → is_torn rest ≡ true
torn_from rest gate mark none =
    let open_or_shut : ((slice_index rest 0 == 0) || (slice_index rest 0 == 2)) ≡ true =
    ⊎_elim (λ (is : slice_index rest 0 ≡ 0). ap (λ (g : ℕ). (g == 0) || (g == 2)) is) (λ (is : slice_index rest 0 ≡ 2). ap (λ (g : ℕ). (g == 0) || (g == 2)) is) gate in
    and_from ((slice_index rest 0 == 0) || (slice_index rest 0 == 2)) (nat_le (slice_index rest 8) 2 && has_no_one (drop 9 rest)) open_or_shut
    (and_from (nat_le (slice_index rest 8) 2) (has_no_one (drop 9 rest)) (le-leb (slice_index rest 8) 2 mark) none)

zero_at : (n i : ℕ) → slice_index (replicate n 0) i ≡ 0
zero_at zero i = refl
zero_at (suc n) zero = refl
zero_at (suc n) (suc i) = zero_at n i

torn_zeros : (n : ℕ) → is_torn (replicate n 0) ≡ true
torn_zeros n = torn_from (replicate n 0) (inl (zero_at n 0)) (omega (arith, zero_at n 8)) (ap has_no_one (drop-replicate 9 n 0) ∙ no_one_zeros (n - 9))

zeros_end : (n : ℕ) → ends_with TornBatch (replicate n 0) ≡ true
zeros_end n = ap (λ (fs : List (List ℕ)). is_torn (drop (length (joined fs)) (replicate n 0))) (of_zeros n) ∙ torn_zeros n

-- nothing is torn behind a log
pub log_ends : (bytes : List ℕ) (end : ℕ) → IsLog bytes end → ends_with TornBatch bytes ≡ true
log_ends bytes end log =
    ap (λ (l : List ℕ). ends_with TornBatch l) log.is ∙ ap is_torn (behind_frames (frames bytes) (replicate log.room 0) (all_frames bytes)) ∙ zeros_end log.room

-- a frame that lost a byte counts for nothing, whatever is behind it
pub lost_byte : (f cs x : List ℕ) → IsFrame f → Faded f cs → has_no_zero cs ≡ false → is_whole (cs ++ x) ≡ false
lost_byte f cs x is faded lost = ⊎_elim (λ whole. absurd (true≢false (sym (none (whole_parts (cs ++ x) whole)) ∙ lost))) (λ not. not) (cases_Bool (is_whole (cs ++ x)))
  where
    none : Whole (cs ++ x) → has_no_zero cs ≡ true
    none w =
        let k = frame_length (cs ++ x) in
        let long : length cs ≡ length f = faded_long f cs faded in
        let nine : 9 ≤ length f = omega (arith, is.all) in
        let at : (i : ℕ) → i < 9 → slice_index cs i ≡ slice_index f i = λ i below.
        let in_prefix : slice_index (take k (cs ++ x)) i ≡ slice_index (cs ++ x) i =
        sym (get_or_append_left (take k (cs ++ x)) (drop k (cs ++ x)) 0 i (omega (arith, length-take k (cs ++ x), w.within, below))) ∙ ap (λ (l : List ℕ). slice_index l i) (take-append-drop k (cs ++ x)) in
        let here : slice_index (cs ++ x) i ≡ slice_index cs i = index_prefix cs x i (omega (arith, long, nine, below)) in
        let some : 1 ≤ slice_index (take k (cs ++ x)) i = no_zero_at (take k (cs ++ x)) i (whole_full (cs ++ x) w) (omega (arith, length-take k (cs ++ x), w.within, below)) in
        faded_at f cs i faded (omega (arith, nine, below)) (omega (arith, some, in_prefix, here)) in
        let k_is : k ≡ length cs =
        length_prefix cs x (omega (arith, long, nine)) ∙ (λ i. 9 + ((at 1 (omega arith) i - 2) + (254 * (at 2 (omega arith) i - 2) + 64516 * (at 3 (omega arith) i - 2)))) ∙ is.all ∙ sym long in
        sym (ap has_no_zero (take_at cs x k (sym k_is))) ∙ whole_full (cs ++ x) w

-- what is left of a frame and those behind it, where the frame lost a byte
lost_rest : (f : List ℕ) (fs : List (List ℕ)) (cs : List ℕ) (z : ℕ) → IsFrame f → Faded (f ++ joined fs) cs → has_no_one (drop 9 (f ++ joined fs)) ≡ true → is_torn (cs ++ replicate z 0) ≡ true
lost_rest f fs cs z is faded none =
    let all : List ℕ = f ++ joined fs in
    let nine : 9 ≤ length f = omega (arith, is.all) in
    let long : length cs ≡ length all = faded_long all cs faded in
    let more : 9 ≤ length all = omega (arith, nine, length-append f (joined fs)) in
    let here : (i : ℕ) → i < 9 → slice_index (cs ++ replicate z 0) i ≡ slice_index cs i = λ i below. index_prefix cs (replicate z 0) i (omega (arith, long, more, below)) in
    let kept : (i : ℕ) → i < 9 → (slice_index cs i ≡ 0) ⊎ (slice_index cs i ≡ slice_index f i) = λ i below.
    ⊎_elim (λ (lost : slice_index cs i ≡ 0). inl lost)
    (λ (some : slice_index cs i ≡ 0 → ⊥). inr (faded_at all cs i faded (omega (arith, more, below)) (omega (arith, some)) ∙ index_prefix f (joined fs) i (omega (arith, nine, below)))) (cases_eq (slice_index cs i) 0) in
    let gate : (slice_index (cs ++ replicate z 0) 0 ≡ 0) ⊎ (slice_index (cs ++ replicate z 0) 0 ≡ 2) =
    ⊎_elim (λ (lost : slice_index cs 0 ≡ 0). inl (here 0 (omega arith) ∙ lost)) (λ (same : slice_index cs 0 ≡ slice_index f 0). inr (here 0 (omega arith) ∙ same ∙ is.whole.gate)) (kept 0 (omega arith)) in
    let mark : slice_index (cs ++ replicate z 0) 8 ≤ 2 =
    ⊎_elim (λ (lost : slice_index cs 8 ≡ 0). omega (arith, here 8 (omega arith), lost))
    (λ (same : slice_index cs 8 ≡ slice_index f 8). omega (arith, here 8 (omega arith), same, (mark_bounds (slice_index f 8) is.whole.mark).1)) (kept 8 (omega arith)) in
    torn_from (cs ++ replicate z 0) gate mark (no_one_drop_append 9 cs (replicate z 0) (no_one_faded 9 all cs faded none) (no_one_zeros z))

-- behind the first frame of a batch there is no mark of a begin
later_marks : (f : List ℕ) (fs : List (List ℕ)) → has_no_one (drop 9 (f ++ joined fs)) ≡ true → has_no_one (drop 9 (joined fs)) ≡ true
later_marks f fs none =
    let all : List ℕ = f ++ joined fs in
    let same : drop 9 (joined fs) ≡ drop (length f) (drop 9 all) =
    ap (λ (l : List ℕ). drop 9 l) (sym (drop_at f (joined fs) (length f) refl)) ∙ drop-drop 9 (length f) all
    ∙ ap (λ (k : ℕ). drop k all) (let turned : length f + 9 ≡ 9 + length f = omega arith in turned) ∙ sym (drop-drop (length f) 9 all) in
    ap has_no_one same ∙ no_one_behind (length f) (drop 9 all) none

-- of frames that were written over zeros a crash leaves so many, from the first on
pub prefix : (torn : TornWrites) (fs : List (List ℕ)) (cs : List ℕ) (z : ℕ) → AllFrames fs → has_no_one (drop 9 (joined fs)) ≡ true → Faded (joined fs) cs → IsPrefixOf torn [] fs (cs ++ replicate z 0)
prefix torn [] [] z are none f = record { many = 0; frames = of_zeros z; rest = λ _. zeros_end z }
prefix torn [] (c ∷ cs) z are none f = absurd f
prefix torn (x ∷ xs) cs z are none f =
    let n = length x in
    let parts = faded_parts x (joined xs) cs f in
    let split : cs ++ replicate z 0 ≡ take n cs ++ (drop n cs ++ replicate z 0) = ap (λ (l : List ℕ). l ++ replicate z 0) (sym (take-append-drop n cs)) ∙ append_assoc (take n cs) (drop n cs) (replicate z 0) in
    elim (cases_Bool (has_no_zero (take n cs))) [
      | inl whole ↦
          let others = prefix torn xs (drop n cs) z are.1 (later_marks x xs none) parts.1 in
          let is : cs ++ replicate z 0 ≡ x ++ (drop n cs ++ replicate z 0) = split ∙ ap (λ (l : List ℕ). l ++ (drop n cs ++ replicate z 0)) (unfaded x (take n cs) parts.0 whole) in
          record {
            many = suc others.many;
            frames = ap frames is ∙ frame_prefix x (drop n cs ++ replicate z 0) are.0 ∙ ap (λ (l : List (List ℕ)). x ∷ l) others.frames;
            rest = λ old_or_new. ap (λ (l : List ℕ). ends_with TornBatch l) is ∙ ap is_torn (behind_frame x (drop n cs ++ replicate z 0) are.0) ∙ others.rest old_or_new;
          }
      | inr lost ↦
          let nothing : frames (cs ++ replicate z 0) ≡ [] = ap frames split ∙ none_whole (take n cs ++ (drop n cs ++ replicate z 0)) (lost_byte x (take n cs) (drop n cs ++ replicate z 0) are.0 parts.0 lost) in
          record {
            many = 0;
            frames = nothing;
            rest = λ _. ap (λ (fs : List (List ℕ)). is_torn (drop (length (joined fs)) (cs ++ replicate z 0))) nothing ∙ lost_rest x xs cs z are.0 f none;
          }
    ]
