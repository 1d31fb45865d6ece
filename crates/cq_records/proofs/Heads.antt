-- The frame that a log's rest begins with, read as its head and its text.
use Rattle.std.proofs.Common.{◌≡◌, ◌≢◌, ⊎_elim, ℕ, ◌+◌, ◌-◌, ◌*◌, ◌<◌, ◌≤◌, true, false, List, [], ◌∷◌, ◌++◌, length, take, drop, sym, ◌∙◌, ap, arith, length-append, append_assoc, length-drop, length-take, take-append-drop, le-leb}
use Rattle.std.specs.Prelude.{◌==◌, ◌&&◌, nat_le, slice_index}
use Rattle.std.proofs.lemmas.Bool.{cases_Bool, and_parts, and_from, true≢false}
use Rattle.std.proofs.lemmas.Bool.Decides.{nat_tests}
use Rattle.std.proofs.lemmas.List.{take_at, drop_at}
use Rattle.cq_records.specs.Frames.{is_plain, is_mark, is_head, short_sum, text_length, frame_length, text_of, stored_sum, is_sound, is_whole, frames, BeginsWith, IsDamaged}
use Rattle.cq_records.proofs.Frames.{whole_parts, take_take, index_prefix, first_whole, none_whole}

pub no_room : (rest : List ℕ) → length rest < 9 → frames rest ≡ []
no_room rest short = none_whole rest (⊎_elim (λ whole. absurd (omega (arith, (whole_parts rest whole).within, short))) (λ shut. shut) (cases_Bool (is_whole rest)))

module _ (rest head : List ℕ) (head_is : head ≡ take 9 rest) (nine : 9 ≤ length rest) where
  head_long : length head ≡ 9
  head_long = ap length head_is ∙ omega (arith, length-take 9 rest, nine)

  split : rest ≡ head ++ drop 9 rest
  split = sym (take-append-drop 9 rest) ∙ ap (λ (l : List ℕ). l ++ drop 9 rest) (sym head_is)

  pub in_head : (i : ℕ) → i < 9 → slice_index rest i ≡ slice_index head i
  in_head i below = ap (λ (l : List ℕ). slice_index l i) split ∙ index_prefix head (drop 9 rest) i (omega (arith, head_long, below))

  not_whole : (is_whole rest ≡ true → ⊥) → frames rest ≡ []
  not_whole never = none_whole rest (⊎_elim (λ whole. absurd (never whole)) (λ shut. shut) (cases_Bool (is_whole rest)))

  same_head : is_head rest ≡ is_head head
  same_head = λ i. (in_head 0 (omega arith) i == 2) && (is_mark (in_head 8 (omega arith) i) && is_plain (front i))
    where
      front : take 8 rest ≡ take 8 head
      front = sym (take_take 8 9 rest (omega arith)) ∙ ap (λ (l : List ℕ). take 8 l) (sym head_is)

  -- the gate is shut, the mark is none, or the head lacks a byte
  pub no_head : is_head head ≡ false → frames rest ≡ []
  no_head none = not_whole (λ whole. true≢false (sym (and_parts (is_head rest) (nat_le (frame_length rest) (length rest) && is_plain (drop 9 (take (frame_length rest) rest))) whole).0 ∙ same_head ∙ none))

  same_length : text_length rest ≡ text_length head
  same_length = λ i. (in_head 1 (omega arith) i - 2) + (254 * (in_head 2 (omega arith) i - 2) + 64516 * (in_head 3 (omega arith) i - 2))

  -- the text would go beyond the end
  pub cut_short : (t : ℕ) → t ≡ text_length head → length rest < 9 + t → frames rest ≡ []
  cut_short t t_is beyond = not_whole (λ whole. omega (arith, (whole_parts rest whole).within, same_length, t_is, beyond))

  module _ (text : List ℕ) (t : ℕ) (t_is : t ≡ text_length head) (text_is : text ≡ take t (drop 9 rest)) (room : 9 + t ≤ length rest) where
    k_is : frame_length rest ≡ 9 + t
    k_is = omega (arith, same_length, t_is)

    text_long : length text ≡ t
    text_long = ap length text_is ∙ omega (arith, length-take t (drop 9 rest), length-drop 9 rest, room)

    frame_is : take (9 + length text) rest ≡ head ++ text
    frame_is =
        ap (λ (n : ℕ). take (9 + n) rest) text_long ∙ ap (λ (l : List ℕ). take (9 + t) l) (split ∙ ap (λ (l : List ℕ). head ++ l) (sym (take-append-drop t (drop 9 rest))) ∙ ap (λ (l : List ℕ). head ++ (l ++ drop t (drop 9 rest))) (sym text_is) ∙ sym (assoc head text (drop t (drop 9 rest))))
        ∙ take_at (head ++ text) (drop t (drop 9 rest)) (9 + t) (omega (arith, length-append head text, head_long, text_long))
      where
        assoc : (xs ys zs : List ℕ) → (xs ++ ys) ++ zs ≡ xs ++ (ys ++ zs)
        assoc xs ys zs = append_assoc xs ys zs

    same : frame_length rest ≡ 9 + length text
    same = omega (arith, k_is, text_long)

    reads : text ≡ text_of (take (9 + length text) rest)
    reads = sym (ap (λ (l : List ℕ). drop 9 l) frame_is ∙ drop_at head text 9 head_long)

    same_text : is_plain (drop 9 (take (frame_length rest) rest)) ≡ is_plain text
    same_text = ap (λ (n : ℕ). is_plain (drop 9 (take n rest))) same ∙ ap is_plain (sym reads)

    pub zero_in_text : is_plain text ≡ false → frames rest ≡ []
    zero_in_text lost = not_whole (λ whole. true≢false (sym (whole_parts rest whole).text ∙ same_text ∙ lost))

    module _ (full_head : is_head head ≡ true) (full_text : is_plain text ≡ true) where
      pub whole : is_whole rest ≡ true
      whole =
          and_from (is_head rest) (nat_le (frame_length rest) (length rest) && is_plain (drop 9 (take (frame_length rest) rest))) (same_head ∙ full_head)
          (and_from (nat_le (frame_length rest) (length rest)) (is_plain (drop 9 (take (frame_length rest) rest))) (le-leb (frame_length rest) (length rest) (omega (arith, k_is, room))) (same_text ∙ full_text))

      in_frame : (i : ℕ) → i < 9 → slice_index (take (9 + length text) rest) i ≡ slice_index head i
      in_frame i below = ap (λ (l : List ℕ). slice_index l i) frame_is ∙ index_prefix head text i (omega (arith, head_long, below))

      same_sum : stored_sum (take (9 + length text) rest) ≡ stored_sum head
      same_sum = λ i. (in_frame 4 (omega arith) i - 2) + (254 * (in_frame 5 (omega arith) i - 2) + (64516 * (in_frame 6 (omega arith) i - 2) + 16387064 * (in_frame 7 (omega arith) i - 2)))

      pub begins : stored_sum head ≡ short_sum text → BeginsWith text rest
      begins sum = record {
        whole = first_whole rest whole ∙ (λ i. take (same i) rest ∷ frames (drop (same i) rest));
        reads = reads;
        sound = let right : stored_sum (take (9 + length text) rest) ≡ short_sum (text_of (take (9 + length text) rest)) = same_sum ∙ sum ∙ ap short_sum reads in grind (arith, nat_tests, right);
      }

      pub damaged : stored_sum head ≢ short_sum text → IsDamaged rest
      damaged wrong = record {
        whole = whole;
        unsound = ap (λ (n : ℕ). is_sound (take n rest)) same ∙ (let other : stored_sum (take (9 + length text) rest) ≢ short_sum (text_of (take (9 + length text) rest)) = λ is. wrong (sym same_sum ∙ is ∙ sym (ap short_sum reads)) in grind (arith, nat_tests, other));
      }
