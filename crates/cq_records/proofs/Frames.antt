-- Which frames bytes begin with.
use Rattle.std.proofs.Common.{rules, ◌≡◌, inl, inr, ⊎_elim, ℕ, zero, suc, ◌+◌, ◌-◌, ◌*◌, ◌<◌, ◌≤◌, Bool, true, false, List, [], ◌∷◌, ◌++◌, length, take, drop, refl, sym, ◌∙◌, ap, subst, arith, length-append, append_assoc, length-drop, length-take, take-append-drop, drop-drop, leb-true, le-leb}
use Rattle.std.specs.Prelude.{◌&&◌, ◌==◌, nat_le, if◌then◌else◌, replicate, slice_index, ⊤}
use Rattle.std.proofs.lemmas.Bool.{cases_Bool, and_parts, and_from, true≢false}
use Rattle.std.proofs.lemmas.Bool.Decides.{nat_tests}
use Rattle.std.proofs.lemmas.List.{append-nil, take_at, drop_at, take_all, take-append-le, get_or_append_left}
use Rattle.cq_records.specs.Frames.{is_plain, is_mark, is_head, frame_length, is_whole, frames_in, frames, frames_end, joined, is_sound, all_sound, IsDamaged}
use Rattle.cq_records.proofs.Zeros.{has_no_zero, no_zero_append, plain_no_zero}

pub if_true : {X : Type 0} (b : Bool) (x y : X) → b ≡ true → (if b then x else y) ≡ x
if_true true x y is = refl
if_true false x y is = absurd (true≢false (sym is))

pub if_false : {X : Type 0} (b : Bool) (x y : X) → b ≡ false → (if b then x else y) ≡ y
if_false false x y is = refl
if_false true x y is = absurd (true≢false is)

-- what `is_whole` says, part by part
pub record Whole (bytes : List ℕ) : Type 0 where
  pub gate : slice_index bytes 0 ≡ 2
  pub mark : is_mark (slice_index bytes 8) ≡ true
  pub head : is_plain (take 8 bytes) ≡ true
  pub within : frame_length bytes ≤ length bytes
  pub text : is_plain (drop 9 (take (frame_length bytes) bytes)) ≡ true

pub whole_parts : (bytes : List ℕ) → is_whole bytes ≡ true → Whole bytes
whole_parts bytes is =
    let both = and_parts (is_head bytes) (nat_le (frame_length bytes) (length bytes) && is_plain (drop 9 (take (frame_length bytes) bytes))) is in
    let first = and_parts (slice_index bytes 0 == 2) (is_mark (slice_index bytes 8) && is_plain (take 8 bytes)) both.0 in
    let second = and_parts (is_mark (slice_index bytes 8)) (is_plain (take 8 bytes)) first.1 in
    let more = and_parts (nat_le (frame_length bytes) (length bytes)) (is_plain (drop 9 (take (frame_length bytes) bytes))) both.1 in
    record { gate = grind (arith, nat_tests, first.0); mark = second.0; head = second.1; within = leb-true (frame_length bytes) (length bytes) more.0; text = more.1 }

pub whole_from : (bytes : List ℕ) → Whole bytes → is_whole bytes ≡ true
whole_from bytes w =
    let open_gate : (slice_index bytes 0 == 2) ≡ true = ap (λ (gate : ℕ). gate == 2) w.gate in
    let head : is_head bytes ≡ true = and_from (slice_index bytes 0 == 2) (is_mark (slice_index bytes 8) && is_plain (take 8 bytes)) open_gate (and_from (is_mark (slice_index bytes 8)) (is_plain (take 8 bytes)) w.mark w.head) in
    and_from (is_head bytes) (nat_le (frame_length bytes) (length bytes) && is_plain (drop 9 (take (frame_length bytes) bytes))) head
    (and_from (nat_le (frame_length bytes) (length bytes)) (is_plain (drop 9 (take (frame_length bytes) bytes))) (le-leb (frame_length bytes) (length bytes) w.within) w.text)

pub take_take : (n k : ℕ) (l : List ℕ) → n ≤ k → take n (take k l) ≡ take n l
take_take zero k l le = refl
take_take (suc n) zero l le = absurd (omega (arith, le))
take_take (suc n) (suc k) [] le = refl
take_take (suc n) (suc k) (x ∷ l) le = ap (λ (r : List ℕ). x ∷ r) (take_take n k l (omega (arith, le)))

-- the bytes before one, that one, and those behind it
split_at : (n : ℕ) (l : List ℕ) → n < length l → l ≡ take n l ++ (slice_index l n ∷ drop (suc n) l)
split_at n [] below = absurd (omega (arith, below))
split_at zero (x ∷ l) below = refl
split_at (suc n) (x ∷ l) below = ap (λ (r : List ℕ). x ∷ r) (split_at n l (omega (arith, below)))

pub index_prefix : (f x : List ℕ) (i : ℕ) → i < length f → slice_index (f ++ x) i ≡ slice_index f i
index_prefix f x i below = get_or_append_left f x 0 i below

pub index_taken : (k : ℕ) (l : List ℕ) (i : ℕ) → i < k → k ≤ length l → slice_index (take k l) i ≡ slice_index l i
index_taken k l i below within = sym (index_prefix (take k l) (drop k l) i (omega (arith, length-take k l, below, within))) ∙ ap (λ (r : List ℕ). slice_index r i) (take-append-drop k l)

pub mark_bounds : (m : ℕ) → is_mark m ≡ true → (1 ≤ m) × (m ≤ 2)
mark_bounds m is =
    let parts = and_parts (nat_le 1 m) (nat_le m 2) is in
    (leb-true 1 m parts.0, leb-true m 2 parts.1)

-- a whole frame has no zero
pub whole_full : (bytes : List ℕ) → Whole bytes → has_no_zero (take (frame_length bytes) bytes) ≡ true
whole_full bytes w =
    let k = frame_length bytes in
    let f = take k bytes in
    let long : length f ≡ k = omega (arith, length-take k bytes, w.within) in
    let front : has_no_zero (take 8 f) ≡ true = plain_no_zero (take 8 f) (ap is_plain (take_take 8 k bytes (omega arith)) ∙ w.head) in
    let marked : 1 ≤ slice_index f 8 = omega (arith, index_taken k bytes 8 (omega arith) w.within, (mark_bounds (slice_index bytes 8) w.mark).0) in
    ap has_no_zero (split_at 8 f (omega (arith, long)))
    ∙ no_zero_append (take 8 f) (slice_index f 8 ∷ drop 9 f) front (and_from (nat_le 1 (slice_index f 8)) (has_no_zero (drop 9 f)) (le-leb 1 (slice_index f 8) marked) (plain_no_zero (drop 9 f) w.text))

-- more fuel than bytes changes nothing
enough : (m n : ℕ) (bytes : List ℕ) → length bytes ≤ m → length bytes ≤ n → frames_in m bytes ≡ frames_in n bytes
enough zero zero bytes p q = refl
enough zero (suc n) [] p q = refl
enough zero (suc n) (b ∷ bytes) p q = absurd (omega arith)
enough (suc m) zero [] p q = refl
enough (suc m) zero (b ∷ bytes) p q = absurd (omega arith)
enough (suc m) (suc n) bytes p q =
    let k = frame_length bytes in
    let short = length-drop k bytes in
    let same : frames_in m (drop k bytes) ≡ frames_in n (drop k bytes) = enough m n (drop k bytes) (omega (arith, short, p)) (omega (arith, short, q)) in
    ap (λ (fs : List (List ℕ)). if is_whole bytes then take k bytes ∷ fs else []) same

-- the first frame, and those of the rest
unrolled : (bytes : List ℕ) → frames bytes ≡ (if is_whole bytes then take (frame_length bytes) bytes ∷ frames (drop (frame_length bytes) bytes) else [])
unrolled bytes =
    let k = frame_length bytes in
    let same : frames_in (length bytes) (drop k bytes) ≡ frames (drop k bytes) = enough (length bytes) (length (drop k bytes)) (drop k bytes) (omega (arith, length-drop k bytes)) (omega arith) in
    enough (length bytes) (suc (length bytes)) bytes (omega arith) (omega arith) ∙ ap (λ (fs : List (List ℕ)). if is_whole bytes then take k bytes ∷ fs else []) same

pub first_whole : (bytes : List ℕ) → is_whole bytes ≡ true → frames bytes ≡ take (frame_length bytes) bytes ∷ frames (drop (frame_length bytes) bytes)
first_whole bytes is = unrolled bytes ∙ if_true (is_whole bytes) _ _ is

-- a frame that begins here and is damaged
pub damaged_unsound : (bytes : List ℕ) → IsDamaged bytes → all_sound (frames bytes) ≡ false
damaged_unsound bytes damaged =
    ap all_sound (first_whole bytes damaged.whole) ∙ ap (λ (sound : Bool). sound && all_sound (frames (drop (frame_length bytes) bytes))) damaged.unsound

pub none_whole : (bytes : List ℕ) → is_whole bytes ≡ false → frames bytes ≡ []
none_whole bytes is = unrolled bytes ∙ if_false (is_whole bytes) _ _ is

pub closed : (bytes : List ℕ) → (slice_index bytes 0 ≡ 2 → ⊥) → frames bytes ≡ []
closed bytes shut = none_whole bytes (⊎_elim (λ whole. absurd (shut (whole_parts bytes whole).gate)) (λ not. not) (cases_Bool (is_whole bytes)))

pub of_zeros : (n : ℕ) → frames (replicate n 0) ≡ []
of_zeros zero = refl
of_zeros (suc n) = closed (replicate (suc n) 0) (λ is. absurd (omega (arith, is)))

-- bytes that are one whole frame
pub record IsFrame (f : List ℕ) : Type 0 where
  pub whole : Whole f
  pub all : frame_length f ≡ length f

pub length_prefix : (f x : List ℕ) → 9 ≤ length f → frame_length (f ++ x) ≡ frame_length f
length_prefix f x long = λ i. 9 + ((index_prefix f x 1 (omega (arith, long)) i - 2) + (254 * (index_prefix f x 2 (omega (arith, long)) i - 2) + 64516 * (index_prefix f x 3 (omega (arith, long)) i - 2)))

-- the same frame, whatever is behind it
pub frame_prefix : (f x : List ℕ) → IsFrame f → frames (f ++ x) ≡ f ∷ frames x
frame_prefix f x is =
    let long : 9 ≤ length f = omega (arith, is.all) in
    let k_is : frame_length (f ++ x) ≡ length f = length_prefix f x long ∙ is.all in
    let prefix : take (frame_length (f ++ x)) (f ++ x) ≡ f = take_at f x (frame_length (f ++ x)) (sym k_is) in
    let behind : drop (frame_length (f ++ x)) (f ++ x) ≡ x = drop_at f x (frame_length (f ++ x)) (sym k_is) in
    let same : take (frame_length f) f ≡ f = take_all (frame_length f) f (omega (arith, is.all)) in
    let whole : Whole (f ++ x) = record {
      gate = index_prefix f x 0 (omega (arith, long)) ∙ is.whole.gate;
      mark = ap is_mark (index_prefix f x 8 (omega (arith, long))) ∙ is.whole.mark;
      head = ap is_plain (take-append-le 8 f x (omega (arith, long))) ∙ is.whole.head;
      within = omega (arith, k_is, length-append f x);
      text = ap (λ (l : List ℕ). is_plain (drop 9 l)) (prefix ∙ sym same) ∙ is.whole.text;
    } in
    first_whole (f ++ x) (whole_from (f ++ x) whole) ∙ (λ i. prefix i ∷ frames (behind i))

-- the frame that bytes begin with is one
pub taken : (bytes : List ℕ) → is_whole bytes ≡ true → IsFrame (take (frame_length bytes) bytes)
taken bytes is =
    let w = whole_parts bytes is in
    let k = frame_length bytes in
    let f = take k bytes in
    let long : length f ≡ k = omega (arith, length-take k bytes, w.within) in
    let again : f ++ drop k bytes ≡ bytes = take-append-drop k bytes in
    let k_is : frame_length f ≡ k = sym (length_prefix f (drop k bytes) (omega (arith, long))) ∙ ap frame_length again in
    record {
      whole = record {
        gate = index_taken k bytes 0 (omega arith) w.within ∙ w.gate;
        mark = ap is_mark (index_taken k bytes 8 (omega arith) w.within) ∙ w.mark;
        head = ap is_plain (take_take 8 k bytes (omega arith)) ∙ w.head;
        within = omega (arith, k_is, long);
        text = ap (λ (l : List ℕ). is_plain (drop 9 l)) (take_all (frame_length f) f (omega (arith, k_is, long))) ∙ w.text;
      };
      all = k_is ∙ sym long;
    }

abbrev pub AllFrames : List (List ℕ) → Type 0
AllFrames [] = ⊤
AllFrames (f ∷ fs) = IsFrame f × AllFrames fs

no_frames : AllFrames []
no_frames = search rules

all_in : (n : ℕ) (bytes : List ℕ) → AllFrames (frames_in n bytes)
all_in zero bytes = no_frames
all_in (suc n) bytes = elim (cases_Bool (is_whole bytes)) [
  | inl whole ↦ subst AllFrames (sym (if_true (is_whole bytes) _ _ whole)) (taken bytes whole, all_in n (drop (frame_length bytes) bytes))
  | inr not ↦ subst AllFrames (sym (if_false (is_whole bytes) _ _ not)) no_frames
]

pub all_frames : (bytes : List ℕ) → AllFrames (frames bytes)
all_frames bytes = all_in (length bytes) bytes

pub frames_append : (xs ys : List (List ℕ)) → AllFrames xs → AllFrames ys → AllFrames (xs ++ ys)
frames_append [] ys p q = q
frames_append (x ∷ xs) ys p q = (p.0, frames_append xs ys p.1 q)

pub sound_append : (xs ys : List (List ℕ)) → all_sound xs ≡ true → all_sound ys ≡ true → all_sound (xs ++ ys) ≡ true
sound_append [] ys p q = q
sound_append (x ∷ xs) ys p q =
    let parts = and_parts (is_sound x) (all_sound xs) p in
    and_from (is_sound x) (all_sound (xs ++ ys)) parts.0 (sound_append xs ys parts.1 q)

pub joined_append : (xs ys : List (List ℕ)) → joined (xs ++ ys) ≡ joined xs ++ joined ys
joined_append [] ys = refl
joined_append (x ∷ xs) ys = ap (λ (l : List ℕ). x ++ l) (joined_append xs ys) ∙ sym (append_assoc x (joined xs) (joined ys))

-- frames, and whatever is behind them
pub frames_joined : (fs : List (List ℕ)) (x : List ℕ) → AllFrames fs → frames (joined fs ++ x) ≡ fs ++ frames x
frames_joined [] x are = refl
frames_joined (f ∷ fs) x are =
    ap frames (append_assoc f (joined fs) x) ∙ frame_prefix f (joined fs ++ x) are.0 ∙ ap (λ (l : List (List ℕ)). f ∷ l) (frames_joined fs x are.1)

-- what comes behind the frames of bytes that begin with some
pub skip : (fs : List (List ℕ)) (front x : List ℕ) → frames (front ++ x) ≡ fs ++ frames x → joined fs ≡ front → drop (frames_end (front ++ x)) (front ++ x) ≡ drop (frames_end x) x
skip fs front x is all =
    let end : frames_end (front ++ x) ≡ length front + frames_end x =
    ap (λ (gs : List (List ℕ)). length (joined gs)) is ∙ ap length (joined_append fs (frames x)) ∙ length-append (joined fs) (joined (frames x)) ∙ ap (λ (l : List ℕ). length l + frames_end x) all in
    ap (λ (k : ℕ). drop k (front ++ x)) end ∙ sym (drop-drop (frames_end x) (length front) (front ++ x)) ∙ ap (λ (l : List ℕ). drop (frames_end x) l) (drop_at front x (length front) refl)

pub behind_frames : (fs : List (List ℕ)) (x : List ℕ) → AllFrames fs → drop (frames_end (joined fs ++ x)) (joined fs ++ x) ≡ drop (frames_end x) x
behind_frames fs x are = skip fs (joined fs) x (frames_joined fs x are) refl

pub behind_frame : (f x : List ℕ) → IsFrame f → drop (frames_end (f ++ x)) (f ++ x) ≡ drop (frames_end x) x
behind_frame f x is = skip (f ∷ []) f x (frame_prefix f x is) (append-nil f)
