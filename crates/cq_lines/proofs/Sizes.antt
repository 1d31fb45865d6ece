-- Where an overlong line is a fault, a text without a fault has no more bytes than its limits allow.
use Rattle.std.proofs.Common.{◌≡◌, ℕ, ◌+◌, ◌-◌, ◌*◌, ◌<◌, ◌≤◌, Bool, true, false, List, [], ◌∷◌, ◌++◌, length, Option, None, Some, Result, Ok, Err, nat_eq, nat_lt, refl, sym, ap, ◌∙◌, subst, length-append, arith}
use Rattle.std.proofs.Math.Nat.{mul-add}
use Rattle.std.proofs.lemmas.Bool.{eqb-true, ltb-true, ltb-false}
use Rattle.cq_lines.specs.Lines.{lines_of, has_line_feed, ended_part}
use Rattle.cq_lines.specs.Grammars.{Grammar, Parsed, IsOpen, value_or_fault, parse_line, parsed_before, parse_from, parse_text}
use Rattle.cq_lines.specs.Texts.{HasNoFaultYet}
use Rattle.cq_lines.specs.Progress.{partial_before}
use Rattle.cq_lines.specs.declared.fault.ScriptFault.{ScriptFault}
use Rattle.cq_lines.specs.declared.fault.ScriptFault.TheVariants.{BadLine, LineTooLong, TooManyLines}
use Rattle.cq_lines.specs.declared.limits.Limits.{Limits}
use Rattle.cq_lines.proofs.Cutting.{lines_of-line_feed, lines_of-other_byte, parse_from-many, parse_from-line, parse_line-long, parse_line-short}
use Rattle.cq_lines.proofs.Chunks.{or-right, ended_part-more}

times-one_more : (a k : ℕ) → 0 < k → a * k ≡ a * (k - 1) + a
times-one_more a k some =
    let whole : k ≡ (k - 1) + 1 = omega (arith, some) in
    let once : a * 1 ≡ a = omega arith in
    ap (λ n. a * n) whole ∙ mul-add a (k - 1) 1 ∙ ap (λ x. a * (k - 1) + x) once

ended_part-line_feed : (bs : List ℕ) → ended_part (10 ∷ bs) ≡ 10 ∷ ended_part bs
ended_part-line_feed bs = ended_part-more 10 bs refl

module _ {T : Type 0} (grammar : Grammar T) (limits : Limits) (strict : (n : ℕ) → grammar.overlong_value n ≡ None) where
  -- Line n is no fault: it is within the limits, and the fault of the text is that of the lines behind it.
  record PassesLine (n : ℕ) (line : List ℕ) : Type 0 where
    few : n ≤ limits.line_count
    short : length line ≤ limits.line_len
    later : (lines : List (List ℕ)) → (parse_from grammar limits n (line ∷ lines)).fault ≡ (parse_from grammar limits (n + 1) lines).fault

  fault_of_line : (n : ℕ) (line : List ℕ) (lines : List (List ℕ)) (outcome : Result (Option T) ScriptFault) → n ≤ limits.line_count → parse_line grammar limits.line_len n line ≡ outcome
      → (parse_from grammar limits n (line ∷ lines)).fault ≡ (parsed_before outcome (parse_from grammar limits (n + 1) lines)).fault
  fault_of_line n line lines outcome few is =
      ap (λ (x : Parsed T). x.fault) (parse_from-line grammar limits n line lines few ∙ ap (λ v. parsed_before v (parse_from grammar limits (n + 1) lines)) is)

  passes-value : (n : ℕ) (line : List ℕ) (lines : List (List ℕ)) (value : Option (Option T)) → n ≤ limits.line_count → length line ≤ limits.line_len → grammar.line_value n line ≡ value
      → (parse_from grammar limits n (line ∷ lines)).fault ≡ None → PassesLine n line
  passes-value n line lines None few short is none =
      let never : Some (BadLine n) ≡ None = sym (fault_of_line n line lines (Err (BadLine n)) few (parse_line-short grammar limits n line short ∙ ap (value_or_fault (BadLine n)) is)) ∙ none in
      cc
  passes-value n line lines (Some value) few short is none = record {
    few = few;
    short = short;
    later = λ others. fault_of_line n line others (Ok value) few (parse_line-short grammar limits n line short ∙ ap (value_or_fault (BadLine n)) is);
  }

  fault_of_long : (n : ℕ) (line : List ℕ) (lines : List (List ℕ)) → n ≤ limits.line_count → limits.line_len < length line
      → (parse_from grammar limits n (line ∷ lines)).fault ≡ Some (LineTooLong n)
  fault_of_long n line lines few long = fault_of_line n line lines (Err (LineTooLong n)) few (parse_line-long grammar limits n line long ∙ ap (value_or_fault (LineTooLong n)) (strict n))

  fault_of_many : (n : ℕ) (line : List ℕ) (lines : List (List ℕ)) → limits.line_count < n → (parse_from grammar limits n (line ∷ lines)).fault ≡ Some TooManyLines
  fault_of_many n line lines many = ap (λ (x : Parsed T). x.fault) (parse_from-many grammar limits n line lines many)

  passes-cases : (n : ℕ) (line : List ℕ) (lines : List (List ℕ)) (many long : Bool) → nat_lt limits.line_count n ≡ many → nat_lt limits.line_len (length line) ≡ long
      → (parse_from grammar limits n (line ∷ lines)).fault ≡ None → PassesLine n line
  passes-cases n line lines true long is_many is_long none =
      let never = sym (fault_of_many n line lines (ltb-true limits.line_count n is_many)) ∙ none in
      cc
  passes-cases n line lines false true is_many is_long none =
      let never = sym (fault_of_long n line lines (ltb-false limits.line_count n is_many) (ltb-true limits.line_len (length line) is_long)) ∙ none in
      cc
  passes-cases n line lines false false is_many is_long none =
      passes-value n line lines (grammar.line_value n line) (ltb-false limits.line_count n is_many) (ltb-false limits.line_len (length line) is_long) refl none

  -- The last line is within the limits. It may be bad.
  record KeepsLimits (n : ℕ) (line : List ℕ) : Type 0 where
    few : n ≤ limits.line_count
    short : length line ≤ limits.line_len

  keeps_limits-cases : (n : ℕ) (line : List ℕ) (many long : Bool) → nat_lt limits.line_count n ≡ many → nat_lt limits.line_len (length line) ≡ long
      → IsOpen (parse_from grammar limits n (line ∷ [])).fault → KeepsLimits n line
  keeps_limits-cases n line true long is_many is_long yet = absurd (rw (fault_of_many n line [] (ltb-true limits.line_count n is_many)) at yet)
  keeps_limits-cases n line false true is_many is_long yet =
      absurd (rw (fault_of_long n line [] (ltb-false limits.line_count n is_many) (ltb-true limits.line_len (length line) is_long)) at yet)
  keeps_limits-cases n line false false is_many is_long yet = record { few = ltb-false limits.line_count n is_many; short = ltb-false limits.line_len (length line) is_long }

  -- ---- one byte after another

  -- The bytes pass no limit behind the partial line n, and the lines that end in them are no fault.
  record KeepsOn (n : ℕ) (partial bytes : List ℕ) : Type 0 where
    goes_on : IsOpen (parse_from grammar limits n (partial_before partial (lines_of bytes))).fault
    ended : has_line_feed bytes ≡ true → (parse_from grammar limits n (partial_before partial (lines_of (ended_part bytes)))).fault ≡ None

  size_at_end : (n k : ℕ) (partial : List ℕ) → n + k ≡ limits.line_count + 1 → KeepsOn n partial [] → length partial + length {A = ℕ} [] ≤ (limits.line_len + 1) * k
  unfolding lines_of
  size_at_end n k [] rest keeps = omega arith
  size_at_end n k (b ∷ bs) rest keeps =
      let last = keeps_limits-cases n (b ∷ bs) _ _ refl refl keeps.goes_on in
      let more = times-one_more (limits.line_len + 1) k (omega (arith, rest, last.few)) in
      omega (arith, last.short, more)

  keeps_on-byte : (n b : ℕ) (partial bs : List ℕ) → nat_eq b 10 ≡ false → KeepsOn n partial (b ∷ bs) → KeepsOn n (partial ++ b ∷ []) bs
  keeps_on-byte n b partial bs other keeps = record {
    goes_on = rw (lines_of-other_byte partial b bs other) at keeps.goes_on;
    ended = λ some.
        let feed : has_line_feed (b ∷ bs) ≡ true = or-right (nat_eq b 10) (has_line_feed bs) some in
        ap (λ lines. (parse_from grammar limits n lines).fault) (sym (ap (λ bytes. partial_before partial (lines_of bytes)) (ended_part-more b bs feed) ∙ lines_of-other_byte partial b (ended_part bs) other))
        ∙ keeps.ended feed;
  }

  passes-line_feed : (n : ℕ) (partial bs : List ℕ) → KeepsOn n partial (10 ∷ bs) → (parse_from grammar limits n (partial ∷ lines_of (ended_part bs))).fault ≡ None
  passes-line_feed n partial bs keeps =
      ap (λ lines. (parse_from grammar limits n lines).fault) (sym (ap (λ bytes. partial_before partial (lines_of bytes)) (ended_part-line_feed bs) ∙ lines_of-line_feed partial (ended_part bs)))
      ∙ keeps.ended refl

  keeps_on-line_feed : (n : ℕ) (partial bs : List ℕ) → PassesLine n partial → KeepsOn n partial (10 ∷ bs) → KeepsOn (n + 1) [] bs
  keeps_on-line_feed n partial bs fine keeps = record {
    goes_on = rw (lines_of-line_feed partial bs, fine.later (lines_of bs)) at keeps.goes_on;
    ended = λ some. sym (fine.later (lines_of (ended_part bs))) ∙ passes-line_feed n partial bs keeps;
  }

  -- with any partial line, these bytes are no more than the rest of the limits allows
  abbrev IsSmall : List ℕ → Type 0
  IsSmall bytes = (n k : ℕ) (partial : List ℕ) → n + k ≡ limits.line_count + 1 → KeepsOn n partial bytes → length partial + length bytes ≤ (limits.line_len + 1) * k

  size_at_line_feed : (bs : List ℕ) → IsSmall bs → IsSmall (10 ∷ bs)
  size_at_line_feed bs few n k partial rest keeps =
      let fine = passes-cases n partial (lines_of (ended_part bs)) _ _ refl refl (passes-line_feed n partial bs keeps) in
      let more = times-one_more (limits.line_len + 1) k (omega (arith, rest, fine.few)) in
      let later = few (n + 1) (k - 1) [] (omega (arith, rest, fine.few)) (keeps_on-line_feed n partial bs fine keeps) in
      omega (arith, fine.short, more, later)

  size_at_byte : (b : ℕ) (bs : List ℕ) (is_feed : Bool) → nat_eq b 10 ≡ is_feed → IsSmall bs → IsSmall (b ∷ bs)
  size_at_byte b bs true is few = subst (λ x. IsSmall (x ∷ bs)) (sym (eqb-true b 10 is)) (size_at_line_feed bs few)
  size_at_byte b bs false is few = λ n k partial rest keeps.
      let later = few n k (partial ++ b ∷ []) rest (keeps_on-byte n b partial bs is keeps) in
      omega (arith, later, length-append partial (b ∷ []))

  size_of_bytes : (bytes : List ℕ) → IsSmall bytes
  size_of_bytes [] = size_at_end
  size_of_bytes (b ∷ bs) = size_at_byte b bs _ refl (size_of_bytes bs)

  -- a text from its first byte on
  pub strict_size : (input : List ℕ) → HasNoFaultYet grammar limits input → length input ≤ (limits.line_len + 1) * limits.line_count
  unfolding parse_text
  strict_size input yet =
      let few = size_of_bytes input 1 limits.line_count [] (omega arith) (record { goes_on = yet.goes_on; ended = λ some. yet.ended }) in
      omega (arith, few)
