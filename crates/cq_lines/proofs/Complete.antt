-- Grammars in which no line is a fault: then nothing but too many lines ends a text, and its values are those of all lines.
use Rattle.std.proofs.Common.{◌≡◌, ℕ, ◌+◌, ◌<◌, ◌≤◌, Bool, true, false, List, [], ◌∷◌, ◌++◌, length, Option, None, Some, Ok, nat_eq, nat_lt, refl, sym, ap, ◌∙◌, append_assoc, arith}
use Rattle.std.proofs.lemmas.Bool.{ltb-true, ltb-false}
use Rattle.cq_lines.specs.Lines.{lines_of, put_first}
use Rattle.cq_base.specs.Relations.{IsPrefix}
use Rattle.cq_lines.specs.Grammars.{Grammar, Parsed, values_of, value_or_fault, parse_line, parsed_before, parse_from, parse_text, values_from}
use Rattle.cq_lines.specs.declared.fault.ScriptFault.{ScriptFault}
use Rattle.cq_lines.specs.declared.fault.ScriptFault.TheVariants.{BadLine, LineTooLong, TooManyLines}
use Rattle.cq_lines.specs.declared.limits.Limits.{Limits}
use Rattle.cq_lines.proofs.Cutting.{parse_from-nil, parse_from-many, parse_from-line}

put_first-length : (b : ℕ) (lines : List (List ℕ)) → length (put_first b lines) ≤ length lines + 1
put_first-length b [] = omega arith
put_first-length b (line ∷ lines) = omega arith

lines_of-cases : (b : ℕ) (bs : List ℕ) (is_feed : Bool) → nat_eq b 10 ≡ is_feed → length (lines_of bs) ≤ length bs → length (lines_of (b ∷ bs)) ≤ length (b ∷ bs)
unfolding lines_of
lines_of-cases b bs true is few = rw is (omega (arith, few))
lines_of-cases b bs false is few = rw is (omega (arith, few, put_first-length b (lines_of bs)))

-- each line takes a byte at least
lines_of-length : (bytes : List ℕ) → length (lines_of bytes) ≤ length bytes
unfolding lines_of
lines_of-length [] = omega arith
lines_of-length (b ∷ bs) = lines_of-cases b bs _ refl (lines_of-length bs)

module _ {T : Type 0} (grammar : Grammar T) (limits : Limits)
    (all_lines : (n : ℕ) (line : List ℕ) → (value : Option T) × (grammar.line_value n line ≡ Some value)) (all_long : (n : ℕ) → (value : Option T) × (grammar.overlong_value n ≡ Some value)) where
  parse_line-some : (n : ℕ) (line : List ℕ) (long : Bool) → nat_lt limits.line_len (length line) ≡ long → (value : Option T) × (parse_line grammar limits.line_len n line ≡ Ok value)
  parse_line-some n line true is = ((all_long n).0, rw is (ap (value_or_fault (LineTooLong n)) (all_long n).1))
  parse_line-some n line false is = ((all_lines n line).0, rw is (ap (value_or_fault (BadLine n)) (all_lines n line).1))

  fault_behind : (n : ℕ) (line : List ℕ) (lines : List (List ℕ)) → n ≤ limits.line_count → (parse_from grammar limits n (line ∷ lines)).fault ≡ (parse_from grammar limits (n + 1) lines).fault
  fault_behind n line lines few =
      ap (λ (x : Parsed T). x.fault)
      (parse_from-line grammar limits n line lines few ∙ ap (λ v. parsed_before v (parse_from grammar limits (n + 1) lines)) (parse_line-some n line _ refl).1)

  -- these lines end with a fault only where they are too many
  abbrev EndsByMany : List (List ℕ) → Type 0
  EndsByMany lines = (n : ℕ) (f : ScriptFault) → (parse_from grammar limits n lines).fault ≡ Some f → (f ≡ TooManyLines) × (limits.line_count < n + length lines)

  ends_by_many-cases : (line : List ℕ) (lines : List (List ℕ)) (n : ℕ) (f : ScriptFault) (many : Bool) → nat_lt limits.line_count n ≡ many → EndsByMany lines
      → (parse_from grammar limits n (line ∷ lines)).fault ≡ Some f → (f ≡ TooManyLines) × (limits.line_count < n + length (line ∷ lines))
  ends_by_many-cases line lines n f true is later ends =
      let past = ltb-true limits.line_count n is in
      let same : Some TooManyLines ≡ Some f = sym (ap (λ (x : Parsed T). x.fault) (parse_from-many grammar limits n line lines past)) ∙ ends in
      let fault : f ≡ TooManyLines = cc in
      (fault, omega (arith, past))
  ends_by_many-cases line lines n f false is later ends =
      let few = ltb-false limits.line_count n is in
      let rest = later (n + 1) f (sym (fault_behind n line lines few) ∙ ends) in
      (rest.0, omega (arith, rest.1))

  ends_by_many : (lines : List (List ℕ)) → EndsByMany lines
  ends_by_many [] = λ n f ends.
      let never : None ≡ Some f = sym (ap (λ (x : Parsed T). x.fault) (parse_from-nil grammar limits n)) ∙ ends in
      cc
  ends_by_many (line ∷ lines) = λ n f ends. ends_by_many-cases line lines n f _ refl (ends_by_many lines) ends

  pub complete_ends : (input : List ℕ) (f : ScriptFault) → (parse_text grammar limits input).fault ≡ Some f → (f ≡ TooManyLines) × (limits.line_count ≤ length input)
  unfolding parse_text
  complete_ends input f ends =
      let many = ends_by_many (lines_of input) 1 f ends in
      (many.0, omega (arith, many.1, lines_of-length input))

  -- ---- the values of all lines

  -- what the limit lets through are the first of all values, and all of them where the limit isn't met
  record Covers (n : ℕ) (lines : List (List ℕ)) : Type 0 where
    first : IsPrefix (parse_from grammar limits n lines).values (values_from grammar limits.line_len n lines)
    all : (parse_from grammar limits n lines).fault ≡ None → values_from grammar limits.line_len n lines ≡ (parse_from grammar limits n lines).values

  covers_line : (n : ℕ) (line : List ℕ) (lines : List (List ℕ)) (value : Option T) → n ≤ limits.line_count → parse_line grammar limits.line_len n line ≡ Ok value → Covers (n + 1) lines
      → Covers n (line ∷ lines)
  unfolding values_from
  covers_line n line lines value few is later = record {
    first = rw (parse_from-line grammar limits n line lines few, is)
        (later.first.0, ap (λ values. values_of value ++ values) later.first.1 ∙ sym (append_assoc (values_of value) (parse_from grammar limits (n + 1) lines).values later.first.0));
    all = λ none.
        let rest = later.all (sym (fault_behind n line lines few) ∙ none) in
        rw (parse_from-line grammar limits n line lines few, is) (ap (λ values. values_of value ++ values) rest);
  }

  covers-cases : (n : ℕ) (line : List ℕ) (lines : List (List ℕ)) (many : Bool) → nat_lt limits.line_count n ≡ many → Covers (n + 1) lines → Covers n (line ∷ lines)
  covers-cases n line lines true is later = record {
    first = rw (parse_from-many grammar limits n line lines (ltb-true limits.line_count n is)) (_, refl);
    all = λ none.
        let never : Some TooManyLines ≡ None = sym (ap (λ (x : Parsed T). x.fault) (parse_from-many grammar limits n line lines (ltb-true limits.line_count n is))) ∙ none in
        cc;
  }
  covers-cases n line lines false is later =
      let some = parse_line-some n line _ refl in
      covers_line n line lines some.0 (ltb-false limits.line_count n is) some.1 later

  covers : (n : ℕ) (lines : List (List ℕ)) → Covers n lines
  unfolding values_from
  covers n [] = record { first = rw (parse_from-nil grammar limits n) (_, refl); all = λ none. rw (parse_from-nil grammar limits n) refl }
  covers n (line ∷ lines) = covers-cases n line lines _ refl (covers (n + 1) lines)

  pub first_of_all : (bytes : List ℕ) → IsPrefix (parse_text grammar limits bytes).values (values_from grammar limits.line_len 1 (lines_of bytes))
  unfolding parse_text
  first_of_all bytes = (covers 1 (lines_of bytes)).first

  pub all_of_them : (bytes : List ℕ) → (parse_text grammar limits bytes).fault ≡ None → values_from grammar limits.line_len 1 (lines_of bytes) ≡ (parse_text grammar limits bytes).values
  unfolding parse_text
  all_of_them bytes none = (covers 1 (lines_of bytes)).all none
