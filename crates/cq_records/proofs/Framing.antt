-- The frame of a text is whole, and has its checksum.
use Rattle.std.proofs.Common.{rules, ◌≡◌, ℕ, ◌+◌, ◌/◌, ◌%◌, ◌<◌, ◌≤◌, true, List, [], ◌∷◌, ◌++◌, length, drop, take, refl, sym, ◌∙◌, ap, subst, arith, leb-true, le-leb, length-append}
use Rattle.std.specs.Prelude.{nat_le, map, Result, Ok, Err, OnOk, OnErr}
use Rattle.std.proofs.lemmas.Bool.{and_parts, and_from}
use Rattle.std.proofs.lemmas.Bool.Decides.{nat_tests}
use Rattle.std.proofs.Math.Seq.{drop-append-add, take-append_seam, take-length}
use Rattle.std.proofs.lemmas.List.{append-nil, take_all}
use Rattle.cq_records.specs.Frames.{is_plain, is_mark, is_text, next_mark, short_sum, framed, text_of, frame_length, stored_sum, is_sound, has_no_one, frames, records, joined, all_sound}
use Rattle.cq_records.specs.within.Batches.{HasLast, IsBatch}
use Rattle.cq_records.proofs.Zeros.{no_one_plain, no_one_drop_append}
use Rattle.cq_records.proofs.Frames.{IsFrame, AllFrames, all_frames, frames_append, sound_append, joined_append, frames_joined, frame_prefix}

above : (x : ℕ) → nat_le 2 (x + 2) ≡ true
above x = le-leb 2 (x + 2) (omega arith)

short_of : (text : List ℕ) → is_text text ≡ true → length text ≤ 16387063
short_of text is = leb-true (length text) 16387063 (and_parts (nat_le (length text) 16387063) (is_plain text) is).0

pub plain_of : (text : List ℕ) → is_text text ≡ true → is_plain text ≡ true
plain_of text is = (and_parts (nat_le (length text) 16387063) (is_plain text) is).1

module _ (mark : ℕ) (text : List ℕ) (marked : is_mark mark ≡ true) (is : is_text text ≡ true) where
  short : length text ≤ 16387063
  short = short_of text is

  small : short_sum text < 4162314256
  small = omega arith

  all : frame_length (framed mark text) ≡ length (framed mark text)
  all = omega (arith, short)

  digits : (behind : List ℕ) → is_plain behind ≡ true → is_plain (2 ∷ (length text % 254 + 2) ∷ (length text / 254 % 254 + 2) ∷ (length text / 64516 + 2)
      ∷ (short_sum text % 254 + 2) ∷ (short_sum text / 254 % 254 + 2) ∷ (short_sum text / 64516 % 254 + 2) ∷ (short_sum text / 16387064 + 2) ∷ behind) ≡ true
  digits behind plain =
      let n = length text in
      let sum = short_sum text in
      and_from _ _ refl (and_from _ _ (above (n % 254)) (and_from _ _ (above (n / 254 % 254)) (and_from _ _ (above (n / 64516))
      (and_from _ _ (above (sum % 254)) (and_from _ _ (above (sum / 254 % 254)) (and_from _ _ (above (sum / 64516 % 254)) (and_from _ _ (above (sum / 16387064)) plain)))))))

  pub one_frame : IsFrame (framed mark text)
  one_frame = record {
    whole = record {
      gate = refl;
      mark = marked;
      head = digits [] refl;
      within = omega (arith, all);
      text = ap (λ (l : List ℕ). is_plain (drop 9 l)) (take_all (frame_length (framed mark text)) (framed mark text) (omega (arith, all))) ∙ plain_of text is;
    };
    all = all;
  }

  same_sum : stored_sum (framed mark text) ≡ short_sum text
  same_sum = omega (arith, small)

  pub sound : is_sound (framed mark text) ≡ true
  sound = grind (arith, nat_tests, same_sum)

  pub frames_of : frames (framed mark text) ≡ framed mark text ∷ []
  frames_of = ap frames (sym (append-nil (framed mark text))) ∙ frame_prefix (framed mark text) [] one_frame

  -- a batch, and one frame more, by which it has no second mark of a begin
  one_added : (batch new : List ℕ) → new ≡ batch ++ framed mark text → has_no_one (drop 9 (batch ++ framed mark text)) ≡ true → IsBatch batch → IsBatch new × (records new ≡ records batch ++ text ∷ [])
  one_added batch new new_is one_mark b =
      let fs : List (List ℕ) = frames batch in
      let more : List (List ℕ) = fs ++ framed mark text ∷ [] in
      let bytes : new ≡ joined more = new_is ∙ ap (λ (l : List ℕ). l ++ framed mark text) b.whole ∙ ap (λ (l : List ℕ). joined fs ++ l) (sym (append-nil (framed mark text))) ∙ sym (joined_append fs (framed mark text ∷ [])) in
      let last : AllFrames (framed mark text ∷ []) = (one_frame, search rules) in
      let frames_new : frames new ≡ more = ap frames (bytes ∙ sym (append-nil (joined more))) ∙ frames_joined more [] (frames_append fs (framed mark text ∷ []) (all_frames batch) last) ∙ append-nil more in
      let sound_last : all_sound (framed mark text ∷ []) ≡ true = and_from (is_sound (framed mark text)) true sound refl in (
        record { whole = bytes ∙ ap joined (sym frames_new); sound = ap all_sound frames_new ∙ sound_append fs (framed mark text ∷ []) b.sound sound_last; one_mark = ap (λ (l : List ℕ). has_no_one (drop 9 l)) new_is ∙ one_mark },
        ap (λ (l : List (List ℕ)). map text_of l) frames_new ∙ map_push fs,
      )
    where
      map_push : (xs : List (List ℕ)) → map text_of (xs ++ framed mark text ∷ []) ≡ map text_of xs ++ text ∷ []
      map_push [] = refl
      map_push (x ∷ xs) = ap (λ (l : List (List ℕ)). text_of x ∷ l) (map_push xs)

-- a batch, and one frame more
pub one_more : (text : List ℕ) → is_text text ≡ true → (batch new : List ℕ) → new ≡ batch ++ framed (next_mark batch) text → IsBatch batch → IsBatch new × (records new ≡ records batch ++ text ∷ [])
one_more text is [] new new_is b = one_added 1 text refl is [] new new_is (no_one_plain text (plain_of text is)) b
one_more text is (x ∷ batch) new new_is b =
    let next : is_plain (framed 2 text) ≡ true = digits 2 text refl is (2 ∷ text) (and_from _ _ refl (plain_of text is)) in
    one_added 2 text refl is (x ∷ batch) new new_is (no_one_drop_append 9 (x ∷ batch) (framed 2 text) b.one_mark (no_one_plain (framed 2 text) next)) b

-- also where there was no memory for it
pub still_a_batch : {T E : Type 0} (text : List ℕ) → is_text text ≡ true → (batch new : List ℕ) (result : Result T E) → OnOk result (new ≡ batch ++ framed (next_mark batch) text) → OnErr result (new ≡ batch) → IsBatch batch → IsBatch new
still_a_batch text is batch new (Ok x) ok err b = (one_more text is batch new ok b).0
still_a_batch text is batch new (Err e) ok err b = subst IsBatch (sym err) b

-- its last frame begins behind the batch from before
pub ends_with_one : {T E : Type 0} (text : List ℕ) → is_text text ≡ true → (batch new : List ℕ) (result : Result T E) → OnOk result (new ≡ batch ++ framed (next_mark batch) text) → OnErr result (new ≡ batch) → IsBatch batch → HasLast new (length batch)
ends_with_one text is batch new (Ok x) ok err b =
    let frame : List ℕ = framed (next_mark batch) text in
    let front : take (length batch) new ≡ batch = ap (take (length batch)) ok ∙ take-append_seam batch frame in
    let rest : drop (length batch + 9) new ≡ text = ap (drop (length batch + 9)) ok ∙ drop-append-add batch frame 9 in
    record {
      front = subst IsBatch (sym front) b;
      head = λ _. omega (arith, ap length ok, length-append batch frame);
      text = λ _. ap is_text rest ∙ is;
      records = λ _. (one_more text is batch new ok b).1 ∙ (λ i. records (sym front i) ++ sym rest i ∷ []);
    }
ends_with_one text is batch new (Err e) ok err b =
    let all : take (length batch) new ≡ batch = ap (take (length batch)) err ∙ take-length batch in
    record {
      front = subst IsBatch (sym all) b;
      head = λ below. absurd (omega (arith, below, ap length err));
      text = λ below. absurd (omega (arith, below, ap length err));
      records = λ below. absurd (omega (arith, below, ap length err));
    }
