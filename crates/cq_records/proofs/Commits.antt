-- A batch that is written behind the frames of a log: what a crash leaves at each moment, and what stands there in the end.
use Rattle.std.proofs.Common.{◌≡◌, inl, inr, ℕ, zero, suc, ◌+◌, ◌-◌, ◌<◌, ◌≤◌, true, List, [], ◌∷◌, ◌++◌, length, take, drop, refl, sym, ◌∙◌, ap, subst, arith, length-append, append_assoc, length-drop, length-take, take-append-drop, drop-drop}
use Rattle.std.specs.Prelude.{replicate, slice_index}
use Rattle.std.proofs.lemmas.Bool.{cases_eq}
use Rattle.std.proofs.lemmas.List.{append-nil, take_at, drop_at, take_all, length-replicate, take-replicate, drop-replicate}
use Rattle.cq_disk.specs.declared.device.TornWrites.{TornWrites}
use Rattle.cq_disk.specs.declared.device.TornWrites.TheVariants.{OldOrNew, Any}
use Rattle.cq_disk.specs.Device.{EachOldOrNew, Torn, Overlaid}
use Rattle.cq_records.specs.declared.behind.Behind.TheVariants.{TornBatch}
use Rattle.cq_records.specs.within.Batches.{IsBatch}
use Rattle.cq_records.specs.Frames.{frames, joined, all_sound, has_no_one, is_torn, ends_with}
use Rattle.cq_records.specs.Layout.{IsLog, IsPrefixOf}
use Rattle.cq_records.proofs.Zeros.{Faded, faded}
use Rattle.cq_records.proofs.Frames.{AllFrames, all_frames, frames_append, sound_append, joined_append, frames_joined, behind_frames, closed, of_zeros, index_prefix}
use Rattle.cq_records.proofs.Torn.{prefix, log_ends}

take_one : (x : ℕ) (xs : List ℕ) → take 1 (x ∷ xs) ≡ x ∷ []
take_one x xs = refl

abbrev number_of : TornWrites → ℕ
number_of OldOrNew = 0
number_of Any = 1

pub not_old_or_new : (torn : TornWrites) → torn ≡ Any → torn ≡ OldOrNew → ⊥
not_old_or_new torn any old = omega (arith, ap number_of (sym any ∙ old))

module _ (old batch : List ℕ) (end : ℕ) (log : IsLog old end) (b : IsBatch batch) (fits : end + length batch ≤ length old) where
  abbrev pub A : List (List ℕ)
  A = frames old

  abbrev pub B : List (List ℕ)
  B = frames batch

  abbrev pub n : ℕ
  n = length batch

  abbrev pub zeros : List ℕ
  zeros = replicate (log.room - length batch) 0

  long : length old ≡ end + log.room
  long = omega (arith, ap length log.is, length-append (joined A) (replicate log.room 0), length-replicate {A = ℕ} log.room 0, log.ends)

  room : n ≤ log.room
  room = omega (arith, long, fits)

  before : take end old ≡ joined A
  before = ap (λ (l : List ℕ). take end l) log.is ∙ take_at (joined A) (replicate log.room 0) end (sym log.ends)

  behind : drop end old ≡ replicate log.room 0
  behind = ap (λ (l : List ℕ). drop end l) log.is ∙ drop_at (joined A) (replicate log.room 0) end (sym log.ends)

  behind_at : (k : ℕ) → drop (end + k) old ≡ replicate (log.room - k) 0
  behind_at k = sym (drop-drop k end old) ∙ ap (λ (l : List ℕ). drop k l) behind ∙ drop-replicate k log.room 0

  none_of : (t : TornWrites) (c : List ℕ) → frames c ≡ A → (t ≡ OldOrNew → ends_with TornBatch c ≡ true) → IsPrefixOf t A B c
  none_of t c same rest = record { many = 0; frames = same ∙ sym (append-nil A); rest = rest }

  -- before the first write
  pub at_start : (t : TornWrites) (c : List ℕ) → c ≡ old → IsPrefixOf t A B c
  at_start t c is = none_of t c (ap frames is) (λ _. ap (λ (l : List ℕ). ends_with TornBatch l) is ∙ log_ends old end log)

  all_of : (c : List ℕ) → c ≡ joined A ++ (batch ++ zeros) → c ≡ joined (A ++ B) ++ zeros
  all_of c is =
      is ∙ ap (λ (l : List ℕ). joined A ++ (l ++ zeros)) b.whole ∙ sym (append_assoc (joined A) (joined B) zeros)
      ∙ ap (λ (l : List ℕ). l ++ zeros) (sym (joined_append A B))

  both : AllFrames (A ++ B)
  both = frames_append A B (all_frames old) (all_frames batch)

  -- behind the last
  pub stands : (c : List ℕ) → c ≡ joined A ++ (batch ++ zeros) → frames c ≡ A ++ B
  stands c is = ap frames (all_of c is) ∙ frames_joined (A ++ B) zeros both ∙ ap (λ (l : List (List ℕ)). (A ++ B) ++ l) (of_zeros (log.room - n)) ∙ append-nil (A ++ B)

  pub new_log : (c : List ℕ) → c ≡ joined A ++ (batch ++ zeros) → IsLog c (end + length batch)
  new_log c is = record {
    room = log.room - n;
    is = all_of c is ∙ ap (λ (fs : List (List ℕ)). joined fs ++ zeros) (sym (stands c is));
    ends = omega (arith, log.ends, ap length b.whole, ap length (joined_append A B), length-append (joined A) (joined B)) ∙ ap (λ (fs : List (List ℕ)). length (joined fs)) (sym (stands c is));
    sound = ap all_sound (stands c is) ∙ sound_append A B log.sound b.sound;
  }

  -- One write of the whole batch.
  pub at_once : (c : List ℕ) → Overlaid old end batch c → c ≡ joined A ++ (batch ++ zeros)
  at_once c is = is ∙ (λ i. before i ++ (batch ++ behind_at n i))

  pub torn_at_once : (torn : TornWrites) → torn ≡ OldOrNew → (c : List ℕ) → Torn torn end batch old c → IsPrefixOf torn A B c
  torn_at_once torn is c t =
      let over_zeros : take n (drop end old) ≡ replicate n 0 = ap (λ (l : List ℕ). take n l) behind ∙ take-replicate n log.room 0 room in
      let f : Faded batch t.range = faded n batch t.range (subst (λ (l : List ℕ). EachOldOrNew l batch t.range) over_zeros (t.each is)) in
      let rest = prefix torn B t.range (log.room - n) (all_frames batch) (sym (ap (λ (l : List ℕ). has_no_one (drop 9 l)) b.whole) ∙ b.one_mark) (subst (λ (l : List ℕ). Faded l t.range) b.whole f) in
      let whole : c ≡ joined A ++ (t.range ++ zeros) = t.is ∙ (λ i. before i ++ (t.range ++ behind_at n i)) in
      record {
        many = rest.many;
        frames = ap frames whole ∙ frames_joined A (t.range ++ zeros) (all_frames old) ∙ ap (λ (l : List (List ℕ)). A ++ l) rest.frames;
        rest = λ old_or_new. ap (λ (l : List ℕ). ends_with TornBatch l) whole ∙ ap is_torn (behind_frames A (t.range ++ zeros) (all_frames old)) ∙ rest.rest old_or_new;
      }

  -- All but its first gate, and then the gate.
  module _ (some : 0 < length batch) where
    tail_long : length (drop 1 batch) ≡ n - 1
    tail_long = omega (arith, length-drop 1 batch)

    shut : take (end + 1) old ≡ joined A ++ 0 ∷ []
    shut =
        ap (λ (l : List ℕ). take (end + 1) l) log.is ∙ take_on (joined A) (replicate log.room 0) (end + 1) 1 (omega (arith, log.ends))
        ∙ ap (λ (l : List ℕ). joined A ++ l) (take-replicate 1 log.room 0 (omega (arith, room, some)))
      where
        take_on : (xs ys : List ℕ) (m k : ℕ) → m ≡ length xs + k → take m (xs ++ ys) ≡ xs ++ take k ys
        take_on [] ys m k is = let same : m ≡ k = omega arith in ap (λ (j : ℕ). take j ys) same
        take_on (x ∷ xs) ys zero k is = absurd (omega arith)
        take_on (x ∷ xs) ys (suc m) k is = ap (λ (l : List ℕ). x ∷ l) (take_on xs ys m k (omega arith))

    after : drop (end + 1 + length (drop 1 batch)) old ≡ zeros
    after = ap (λ (k : ℕ). drop k old) (let same : end + 1 + length (drop 1 batch) ≡ end + n = omega (arith, tail_long, some) in same) ∙ behind_at n

    -- the gate is shut
    count_nothing : (x c : List ℕ) → c ≡ (joined A ++ 0 ∷ []) ++ x → frames c ≡ A
    count_nothing x c is =
        ap frames (is ∙ append_assoc (joined A) (0 ∷ []) x) ∙ frames_joined A (0 ∷ x) (all_frames old)
        ∙ ap (λ (l : List (List ℕ)). A ++ l) (closed (0 ∷ x) (λ open_gate. absurd (omega (arith, open_gate)))) ∙ append-nil A

    pub torn_behind : (t : TornWrites) → (t ≡ OldOrNew → ⊥) → (torn : TornWrites) (c : List ℕ) → Torn torn (end + 1) (drop 1 batch) old c → IsPrefixOf t A B c
    torn_behind any never torn c t = none_of any c (count_nothing (t.range ++ drop (end + 1 + length (drop 1 batch)) old) c (t.is ∙ ap (λ (l : List ℕ). l ++ (t.range ++ drop (end + 1 + length (drop 1 batch)) old)) shut)) (λ is. absurd (never is))

    module _ (mid : List ℕ) (is_mid : Overlaid old (end + 1) (drop 1 batch) mid) where
      mid_is : mid ≡ joined A ++ (0 ∷ (drop 1 batch ++ zeros))
      mid_is = is_mid ∙ (λ i. shut i ++ (drop 1 batch ++ after i)) ∙ append_assoc (joined A) (0 ∷ []) (drop 1 batch ++ zeros)

      mid_before : take end mid ≡ joined A
      mid_before = ap (λ (l : List ℕ). take end l) mid_is ∙ take_at (joined A) (0 ∷ (drop 1 batch ++ zeros)) end (sym log.ends)

      mid_behind : drop (end + 1) mid ≡ drop 1 batch ++ zeros
      mid_behind =
          ap (λ (l : List ℕ). drop (end + 1) l) (mid_is ∙ sym (append_assoc (joined A) (0 ∷ []) (drop 1 batch ++ zeros)))
          ∙ drop_at (joined A ++ 0 ∷ []) (drop 1 batch ++ zeros) (end + 1) (omega (arith, length-append (joined A) (0 ∷ []), log.ends))

      one : length (take 1 batch) ≡ 1
      one = omega (arith, length-take 1 batch, some)

      mid_after : drop (end + length (take 1 batch)) mid ≡ drop 1 batch ++ zeros
      mid_after = ap (λ (k : ℕ). drop (end + k) mid) one ∙ mid_behind

      pub opened : (c : List ℕ) → Overlaid mid end (take 1 batch) c → c ≡ joined A ++ (batch ++ zeros)
      opened c is =
          is ∙ (λ i. mid_before i ++ (take 1 batch ++ mid_after i)) ∙ ap (λ (l : List ℕ). joined A ++ l) (sym (append_assoc (take 1 batch) (drop 1 batch) zeros))
          ∙ ap (λ (l : List ℕ). joined A ++ (l ++ zeros)) (take-append-drop 1 batch)

      gate : (l : List ℕ) → l ≡ joined (frames l) → 0 < length l → slice_index l 0 ≡ 2
      gate l whole more = of_frames (frames l) (all_frames l) whole
        where
          of_frames : (fs : List (List ℕ)) → AllFrames fs → l ≡ joined fs → slice_index l 0 ≡ 2
          of_frames [] are is = absurd (omega (arith, ap length is, more))
          of_frames (f ∷ fs) are is = ap (λ (k : List ℕ). slice_index k 0) is ∙ index_prefix f (joined fs) 0 (omega (arith, are.0.all)) ∙ are.0.whole.gate

      single : (l : List ℕ) → length l ≡ 1 → l ≡ slice_index l 0 ∷ []
      single [] is = absurd (omega (arith, is))
      single (x ∷ []) is = refl
      single (x ∷ y ∷ l) is = absurd (omega (arith, is))

      first_is : take 1 batch ≡ 2 ∷ []
      first_is = single (take 1 batch) one ∙ ap (λ (g : ℕ). g ∷ []) (sym (index_prefix (take 1 batch) (drop 1 batch) 0 (omega (arith, one))) ∙ ap (λ (l : List ℕ). slice_index l 0) (take-append-drop 1 batch) ∙ gate batch b.whole some)

      pub torn_gate : (t : TornWrites) → (t ≡ OldOrNew → ⊥) → (torn : TornWrites) (c : List ℕ) → Torn torn end (take 1 batch) mid c → IsPrefixOf t A B c
      torn_gate any never torn c t =
          let g = slice_index t.range 0 in
          let range_is : t.range ≡ g ∷ [] = single t.range (t.long ∙ one) in
          let c_is : c ≡ joined A ++ (g ∷ (drop 1 batch ++ zeros)) = t.is ∙ (λ i. mid_before i ++ (range_is i ++ mid_after i)) in
          elim (cases_eq g 2) [
            | inl is_open ↦
                let whole : c ≡ joined A ++ (batch ++ zeros) =
                c_is ∙ ap (λ (k : ℕ). joined A ++ (k ∷ (drop 1 batch ++ zeros))) is_open ∙ ap (λ (l : List ℕ). joined A ++ (l ++ (drop 1 batch ++ zeros))) (sym first_is)
                ∙ ap (λ (l : List ℕ). joined A ++ l) (sym (append_assoc (take 1 batch) (drop 1 batch) zeros)) ∙ ap (λ (l : List ℕ). joined A ++ (l ++ zeros)) (take-append-drop 1 batch) in
                record { many = length B; frames = stands c whole ∙ ap (λ (l : List (List ℕ)). A ++ l) (sym (take_all (length B) B (omega arith))); rest = λ is. absurd (never is) }
            | inr is_shut ↦
                none_of any c (ap frames c_is ∙ frames_joined A (g ∷ (drop 1 batch ++ zeros)) (all_frames old)
                ∙ ap (λ (l : List (List ℕ)). A ++ l) (closed (g ∷ (drop 1 batch ++ zeros)) is_shut) ∙ append-nil A) (λ is. absurd (never is))
          ]
