-- Each step of the reader changes its state so that the text stays the same.
use Rattle.std.proofs.Common.{◌≡◌, ℕ, ◌+◌, ◌<◌, ◌≤◌, Bool, true, false, List, [], ◌∷◌, ◌++◌, length, Option, None, Some, Result, Ok, Err, nat_le, nat_lt, refl, sym, ap, ◌∙◌, append_assoc, append-nil, length-append, arith}
use Rattle.std.proofs.lemmas.Bool.{leb-true, leb-false, ltb-true, ltb-false}
use Rattle.cq_lines.specs.Lines.{lines_of, has_line_feed}
use Rattle.cq_lines.specs.Grammars.{Grammar, Parsed, IsOpen, Yields, faulty, values_of, value_or_fault, parse_line, parsed_before, with_prefix, parse_from}
use Rattle.cq_lines.specs.Progress.{Progress, overlong, partial_before, parse_after, Continues}
use Rattle.cq_lines.specs.within.Steps.{Next, goes, stops, with_partial, line_completed, partial_overlong, overlong_outcome, part_of, line_end, Follows}
use Rattle.cq_lines.specs.declared.fault.ScriptFault.{ScriptFault}
use Rattle.cq_lines.specs.declared.fault.ScriptFault.TheVariants.{BadLine, LineTooLong, TooManyLines, ReadFailed, WriteFailed, NoMemory}
use Rattle.cq_lines.proofs.Cutting.{lines_of-part, lines_of-line, partial_before-HasFirstLine, partial_before-nil, length-overlong, parse_from-nil, parse_from-many, parse_from-line, parse_line-long, parse_line-short, parse_from-partial_long}

module _ {T : Type 0} where
  pub empty_text : Parsed T
  empty_text = record { values = []; fault = None }

  pub with_prefix-faulty : (values : List T) (f : ScriptFault) → with_prefix values (faulty f) ≡ record { values = values; fault = Some f }
  with_prefix-faulty values f = rw (append-nil values) refl

  pub with_prefix-twice : (xs ys : List T) (parsed : Parsed T) → with_prefix xs (with_prefix ys parsed) ≡ with_prefix (xs ++ ys) parsed
  with_prefix-twice xs ys parsed = rw (append_assoc xs ys parsed.values) refl

module _ {T : Type 0} (grammar : Grammar T) where
  -- The text stays the same from `s` with these bytes to the next state with what is left of them.
  abbrev pub ContinuesTo : Progress T → List ℕ → List ℕ → Next T → Type 0
  ContinuesTo s bytes left (goes t) = Continues grammar s bytes t left
  ContinuesTo s bytes left (stops parsed) = (more : List ℕ) → parse_after grammar s (bytes ++ more) ≡ parsed

  parse_after-line : (s : Progress T) (part later more : List ℕ) → has_line_feed part ≡ false
      → parse_after grammar s ((part ++ 10 ∷ later) ++ more) ≡ with_prefix s.values (parse_from grammar s.limits (s.lines + 1) ((s.partial ++ part) ∷ lines_of (later ++ more)))
  unfolding parse_after
  parse_after-line s part later more none =
      ap (λ lines. with_prefix s.values (parse_from grammar s.limits (s.lines + 1) lines))
      (ap (λ bytes. partial_before s.partial (lines_of bytes)) (append_assoc part (10 ∷ later) more) ∙ lines_of-line s.partial part (later ++ more) none)

  parse_after-part : (s : Progress T) (part more : List ℕ) → has_line_feed part ≡ false
      → parse_after grammar s (part ++ more) ≡ with_prefix s.values (parse_from grammar s.limits (s.lines + 1) (partial_before (s.partial ++ part) (lines_of more)))
  unfolding parse_after
  parse_after-part s part more none = ap (λ lines. with_prefix s.values (parse_from grammar s.limits (s.lines + 1) lines)) (lines_of-part s.partial part more none)

  -- the next line is one too many
  line_too_many : (s : Progress T) (line : List ℕ) (lines : List (List ℕ)) → nat_le s.limits.line_count s.lines ≡ true
      → with_prefix s.values (parse_from grammar s.limits (s.lines + 1) (line ∷ lines)) ≡ record { values = s.values; fault = Some TooManyLines }
  line_too_many s line lines many =
      let past = leb-true s.limits.line_count s.lines many in
      ap (with_prefix s.values) (parse_from-many grammar s.limits (s.lines + 1) line lines (omega (arith, past))) ∙ with_prefix-faulty s.values TooManyLines

  -- the next line is parsed so
  line_parsed : (s : Progress T) (line : List ℕ) (lines : List (List ℕ)) (outcome : Result (Option T) ScriptFault) → s.lines + 1 ≤ s.limits.line_count
      → parse_line grammar s.limits.line_len (s.lines + 1) line ≡ outcome
      → with_prefix s.values (parse_from grammar s.limits (s.lines + 1) (line ∷ lines))
      ≡ with_prefix s.values (parsed_before outcome (parse_from grammar s.limits (s.lines + 1 + 1) lines))
  line_parsed s line lines outcome few is =
      ap (with_prefix s.values) (parse_from-line grammar s.limits (s.lines + 1) line lines few ∙ ap (λ v. parsed_before v (parse_from grammar s.limits (s.lines + 1 + 1) lines)) is)

  -- ---- a line that ends

  -- a value that is added, and the lines behind it
  parse_after-value : (s : Progress T) (value : Option T) (bytes : List ℕ)
      → with_prefix s.values (with_prefix (values_of value) (parse_from grammar s.limits (s.lines + 1 + 1) (lines_of bytes)))
      ≡ parse_after grammar (record { limits = s.limits; values = s.values ++ values_of value; lines = s.lines + 1; partial = [] }) bytes
  unfolding parse_after
  parse_after-value s value bytes = with_prefix-twice s.values (values_of value) (parse_from grammar s.limits (s.lines + 1 + 1) (lines_of bytes))

  line_completed-continues : (s : Progress T) (part later : List ℕ) (outcome : Result (Option T) ScriptFault) → has_line_feed part ≡ false → s.lines + 1 ≤ s.limits.line_count
      → parse_line grammar s.limits.line_len (s.lines + 1) (s.partial ++ part) ≡ outcome → ContinuesTo s (part ++ 10 ∷ later) later (line_completed s outcome)
  line_completed-continues s part later (Err f) none few is = λ more.
      parse_after-line s part later more none ∙ line_parsed s (s.partial ++ part) (lines_of (later ++ more)) (Err f) few is ∙ with_prefix-faulty s.values f
  line_completed-continues s part later (Ok value) none few is = λ more.
      parse_after-line s part later more none ∙ line_parsed s (s.partial ++ part) (lines_of (later ++ more)) (Ok value) few is ∙ parse_after-value s value (later ++ more)

  line_end-cases : (s : Progress T) (part later : List ℕ) (many : Bool) → nat_le s.limits.line_count s.lines ≡ many → has_line_feed part ≡ false
      → ContinuesTo s (part ++ 10 ∷ later) later (line_end grammar s part)
  unfolding line_end
  line_end-cases s part later true is none = rw is (λ more. parse_after-line s part later more none ∙ line_too_many s (s.partial ++ part) (lines_of (later ++ more)) is)
  line_end-cases s part later false is none =
      let under = leb-false s.limits.line_count s.lines is in
      rw is (line_completed-continues s part later (parse_line grammar s.limits.line_len (s.lines + 1) (s.partial ++ part)) none (omega (arith, under)) refl)

  line_end-continues : (s : Progress T) (part later : List ℕ) → has_line_feed part ≡ false → ContinuesTo s (part ++ 10 ∷ later) later (line_end grammar s part)
  line_end-continues s part later none = line_end-cases s part later _ refl none

  -- ---- bytes in which no line ends

  -- with them the partial line is overlong
  partial_overlong-continues : (s : Progress T) (b : ℕ) (bs : List ℕ) (outcome : Result (Option T) ScriptFault) → has_line_feed (b ∷ bs) ≡ false → s.lines + 1 ≤ s.limits.line_count
      → s.limits.line_len < length s.partial + length (b ∷ bs) → overlong_outcome grammar s ≡ outcome → ContinuesTo s (b ∷ bs) [] (partial_overlong s outcome)
  unfolding parse_after
  partial_overlong-continues s b bs (Err f) none few long is = λ more.
      let first = partial_before-HasFirstLine s.partial b bs (lines_of more) in
      let longer : s.limits.line_len < length ((s.partial ++ b ∷ bs) ++ first.rest) = omega (arith, long, length-append s.partial (b ∷ bs), length-append (s.partial ++ b ∷ bs) first.rest) in
      parse_after-part s (b ∷ bs) more none
      ∙ ap (λ lines. with_prefix s.values (parse_from grammar s.limits (s.lines + 1) lines)) first.is
      ∙ line_parsed s ((s.partial ++ b ∷ bs) ++ first.rest) first.later (Err f) few (parse_line-long grammar s.limits (s.lines + 1) ((s.partial ++ b ∷ bs) ++ first.rest) longer ∙ is)
      ∙ with_prefix-faulty s.values f
  partial_overlong-continues s b bs (Ok value) none few long is = λ more.
      parse_after-part s (b ∷ bs) more none
      ∙ ap (with_prefix s.values) (parse_from-partial_long grammar s.limits (s.lines + 1) (s.partial ++ b ∷ bs) (overlong s.limits.line_len) (lines_of more) few
      (omega (arith, long, length-append s.partial (b ∷ bs))) (omega (arith, length-overlong s.limits.line_len)))

  -- they are added to the partial line
  parse_after-partial : (s : Progress T) (part : List ℕ) → has_line_feed part ≡ false → Continues grammar s part (with_partial s (s.partial ++ part)) []
  unfolding parse_after
  parse_after-partial s part none = λ more. parse_after-part s part more none

  part_of-cases : (s : Progress T) (b : ℕ) (bs : List ℕ) (many long : Bool) → nat_le s.limits.line_count s.lines ≡ many
      → nat_lt s.limits.line_len (length s.partial + length (b ∷ bs)) ≡ long → has_line_feed (b ∷ bs) ≡ false → ContinuesTo s (b ∷ bs) [] (part_of grammar s (b ∷ bs))
  unfolding part_of
  part_of-cases s b bs true long is_many is_long none = rw is_many (λ more.
      let first = partial_before-HasFirstLine s.partial b bs (lines_of more) in
      parse_after-part s (b ∷ bs) more none ∙ ap (λ lines. with_prefix s.values (parse_from grammar s.limits (s.lines + 1) lines)) first.is
      ∙ line_too_many s ((s.partial ++ b ∷ bs) ++ first.rest) first.later is_many)
  part_of-cases s b bs false true is_many is_long none =
      let under = leb-false s.limits.line_count s.lines is_many in
      let long = ltb-true s.limits.line_len (length s.partial + length (b ∷ bs)) is_long in
      rw (is_many, is_long) (partial_overlong-continues s b bs (overlong_outcome grammar s) none (omega (arith, under)) long refl)
  part_of-cases s b bs false false is_many is_long none = rw (is_many, is_long) (parse_after-partial s (b ∷ bs) none)

  part_of-continues : (s : Progress T) (part : List ℕ) → has_line_feed part ≡ false → ContinuesTo s part [] (part_of grammar s part)
  unfolding part_of
  part_of-continues s [] none = λ more. refl
  part_of-continues s (b ∷ bs) none = part_of-cases s b bs _ _ refl refl none

  -- ---- one step after another

  pub Continues-trans : (a b c : Progress T) (xs ys zs : List ℕ) → Continues grammar a xs b ys → Continues grammar b ys c zs → Continues grammar a xs c zs
  Continues-trans a b c xs ys zs p q = λ more. p more ∙ q more

  pub Continues-append : (a b c : Progress T) (xs ys : List ℕ) → Continues grammar a xs b [] → Continues grammar b ys c [] → Continues grammar a (xs ++ ys) c []
  Continues-append a b c xs ys p q = λ more. ap (parse_after grammar a) (append_assoc xs ys more) ∙ p (ys ++ more) ∙ q more

  -- whatever comes, the text has this fault, and the values so far before it
  abbrev pub StopsWith : ScriptFault → Progress T → List ℕ → Progress T → Type 0
  StopsWith f a xs new = (more : List ℕ) → Yields (Err f) new.values (parse_after grammar a (xs ++ more))

  -- a step that answers a fault
  stops_at_next : (f : ScriptFault) (a s new : Progress T) (xs ys left : List ℕ) (next : Next T) → Continues grammar a xs s ys → ContinuesTo s ys left next
      → Follows (Err f) new next → StopsWith f a xs new
  stops_at_next (BadLine n) a s new xs ys left next p q is = λ more. p more ∙ (rw is at q) more
  stops_at_next (LineTooLong n) a s new xs ys left next p q is = λ more. p more ∙ (rw is at q) more
  stops_at_next TooManyLines a s new xs ys left next p q is = λ more. p more ∙ (rw is at q) more
  stops_at_next ReadFailed a s new xs ys left next p q is = absurd is
  stops_at_next WriteFailed a s new xs ys left next p q is = absurd is
  stops_at_next NoMemory a s new xs ys left next p q is = λ more. tt

  -- at the end of a line
  pub stops_at_line : (f : ScriptFault) (a s new : Progress T) (xs line later : List ℕ) → Continues grammar a xs s (line ++ 10 ∷ later) → has_line_feed line ≡ false
      → Follows (Err f) new (line_end grammar s line) → StopsWith f a xs new
  stops_at_line f a s new xs line later p none is = stops_at_next f a s new xs (line ++ 10 ∷ later) later (line_end grammar s line) p (line_end-continues s line later none) is

  -- in a part of one
  pub stops_at_part : (f : ScriptFault) (a s new : Progress T) (xs part : List ℕ) → Continues grammar a xs s part → has_line_feed part ≡ false
      → Follows (Err f) new (part_of grammar s part) → StopsWith f a xs new
  stops_at_part f a s new xs part p none is = stops_at_next f a s new xs part [] (part_of grammar s part) p (part_of-continues s part none) is

  -- a step over a line
  pub continues_by_line : (s new : Progress T) (line later : List ℕ) → has_line_feed line ≡ false → line_end grammar s line ≡ goes new → Continues grammar s (line ++ 10 ∷ later) new later
  continues_by_line s new line later none is =
      let next : ContinuesTo s (line ++ 10 ∷ later) later (goes new) = rw is at (line_end-continues s line later none) in
      next

  -- a step over a part of one
  pub continues_by_part : (s new : Progress T) (part : List ℕ) → has_line_feed part ≡ false → part_of grammar s part ≡ goes new → Continues grammar s part new []
  continues_by_part s new part none is =
      let next : ContinuesTo s part [] (goes new) = rw is at (part_of-continues s part none) in
      next

  -- ---- where the text ends

  -- there is no partial line
  pub end_between_lines : (s : Progress T) → s.partial ≡ [] → parse_after grammar s [] ≡ record { values = s.values; fault = None }
  unfolding parse_after lines_of
  end_between_lines s none = rw (none, parse_from-nil grammar s.limits (s.lines + 1), append-nil s.values) refl

  -- there is one
  end_in_line : (s : Progress T) → 0 < length s.partial → s.lines + 1 ≤ s.limits.line_count
      → parse_after grammar s [] ≡ with_prefix s.values (parsed_before (parse_line grammar s.limits.line_len (s.lines + 1) s.partial) empty_text)
  unfolding parse_after lines_of empty_text
  end_in_line s some few =
      ap (λ lines. with_prefix s.values (parse_from grammar s.limits (s.lines + 1) lines)) (partial_before-nil s.partial some)
      ∙ line_parsed s s.partial [] (parse_line grammar s.limits.line_len (s.lines + 1) s.partial) few refl
      ∙ rw (parse_from-nil grammar s.limits (s.lines + 1 + 1)) refl

  stops-same : (x y : Parsed T) → stops x ≡ stops y → x ≡ y
  stops-same x y is = cc

  last_line-fault : (s : Progress T) (new : Progress T) (f g : ScriptFault) → stops (record { values = s.values; fault = Some g }) ≡ stops (record { values = new.values; fault = Some f })
      → with_prefix s.values (faulty g) ≡ record { values = new.values; fault = Some f }
  last_line-fault s new f g is = with_prefix-faulty s.values g ∙ stops-same (record { values = s.values; fault = Some g }) (record { values = new.values; fault = Some f }) is

  last_line-value : (s new : Progress T) (value : Option T) → line_completed s (Ok value) ≡ goes new
      → with_prefix s.values (parsed_before (Ok value) empty_text) ≡ record { values = new.values; fault = None }
  unfolding empty_text
  last_line-value s new value is =
      let next : new ≡ record { limits = s.limits; values = s.values ++ values_of value; lines = s.lines + 1; partial = [] } = cc in
      rw (next, append-nil (values_of value)) refl

  last_line-yields : (r : Result (Unit {0}) ScriptFault) (s new : Progress T) (outcome : Result (Option T) ScriptFault) → Follows r new (line_completed s outcome)
      → Yields r new.values (with_prefix s.values (parsed_before outcome empty_text))
  last_line-yields (Ok _) s new (Err g) is = cc
  last_line-yields (Ok _) s new (Ok value) is = last_line-value s new value is
  last_line-yields (Err (BadLine n)) s new (Err g) is = last_line-fault s new (BadLine n) g is
  last_line-yields (Err (BadLine n)) s new (Ok value) is = cc
  last_line-yields (Err (LineTooLong n)) s new (Err g) is = last_line-fault s new (LineTooLong n) g is
  last_line-yields (Err (LineTooLong n)) s new (Ok value) is = cc
  last_line-yields (Err TooManyLines) s new (Err g) is = last_line-fault s new TooManyLines g is
  last_line-yields (Err TooManyLines) s new (Ok value) is = cc
  last_line-yields (Err ReadFailed) s new outcome is = absurd is
  last_line-yields (Err WriteFailed) s new outcome is = absurd is
  last_line-yields (Err NoMemory) s new outcome is = tt

  -- which is the last one, and parsed so
  pub end_at_line : (r : Result (Unit {0}) ScriptFault) (s new : Progress T) → 0 < length s.partial → s.lines + 1 ≤ s.limits.line_count
      → Follows r new (line_completed s (parse_line grammar s.limits.line_len (s.lines + 1) s.partial)) → Yields r new.values (parse_after grammar s [])
  end_at_line r s new some few is = rw (end_in_line s some few) (last_line-yields r s new (parse_line grammar s.limits.line_len (s.lines + 1) s.partial) is)

  -- it is overlong
  pub end_at_long_line : (r : Result (Unit {0}) ScriptFault) (s new : Progress T) (n : ℕ) → n ≡ s.lines + 1 → s.lines + 1 ≤ s.limits.line_count → s.limits.line_len < length s.partial
      → Follows r new (line_completed s (value_or_fault (LineTooLong n) (grammar.overlong_value n))) → Yields r new.values (parse_after grammar s [])
  end_at_long_line r s new n at few long is =
      let outcome : Follows r new (line_completed s (value_or_fault (LineTooLong (s.lines + 1)) (grammar.overlong_value (s.lines + 1)))) = rw at at is in
      end_at_line r s new (omega (arith, long)) few (rw (parse_line-long grammar s.limits (s.lines + 1) s.partial long) outcome)

  -- it isn't
  pub end_at_short_line : (r : Result (Unit {0}) ScriptFault) (s new : Progress T) (n : ℕ) → n ≡ s.lines + 1 → s.lines + 1 ≤ s.limits.line_count → 0 < length s.partial
      → length s.partial ≤ s.limits.line_len → Follows r new (line_completed s (value_or_fault (BadLine n) (grammar.line_value n s.partial))) → Yields r new.values (parse_after grammar s [])
  end_at_short_line r s new n at few some short is =
      let outcome : Follows r new (line_completed s (value_or_fault (BadLine (s.lines + 1)) (grammar.line_value (s.lines + 1) s.partial))) = rw at at is in
      end_at_line r s new some few (rw (parse_line-short grammar s.limits (s.lines + 1) s.partial short) outcome)

  -- ---- the partial line passes no limit

  open-outcome : (s : Progress T) (value : Option (Option T)) → IsOpen (with_prefix s.values (parsed_before (value_or_fault (BadLine (s.lines + 1)) value) empty_text)).fault
  unfolding empty_text
  open-outcome s None = tt
  open-outcome s (Some value) = tt

  open-short : (s : Progress T) → 0 < length s.partial → s.lines + 1 ≤ s.limits.line_count → length s.partial ≤ s.limits.line_len → IsOpen (parse_after grammar s []).fault
  open-short s some few short =
      rw (end_in_line s some few, parse_line-short grammar s.limits (s.lines + 1) s.partial short) (open-outcome s (grammar.line_value (s.lines + 1) s.partial))

  open-long : (s : Progress T) (value : Option T) → 0 < length s.partial → s.lines + 1 ≤ s.limits.line_count → s.limits.line_len < length s.partial → overlong_outcome grammar s ≡ Ok value
      → IsOpen (parse_after grammar s []).fault
  unfolding empty_text
  open-long s value some few long is = rw (end_in_line s some few, parse_line-long grammar s.limits (s.lines + 1) s.partial long, is) tt

  open-overlong : (s new : Progress T) (outcome : Result (Option T) ScriptFault) → s.lines + 1 ≤ s.limits.line_count → overlong_outcome grammar s ≡ outcome → partial_overlong s outcome ≡ goes new
      → IsOpen (parse_after grammar new []).fault
  open-overlong s new (Err f) few is goes_on = cc
  open-overlong s new (Ok value) few is goes_on =
      let next : new ≡ with_partial s (overlong s.limits.line_len) = cc in
      rw next (open-long (with_partial s (overlong s.limits.line_len)) value (omega (arith, length-overlong s.limits.line_len)) few (omega (arith, length-overlong s.limits.line_len)) is)

  open_part-cases : (s new : Progress T) (b : ℕ) (bs : List ℕ) (many long : Bool) → nat_le s.limits.line_count s.lines ≡ many
      → nat_lt s.limits.line_len (length s.partial + length (b ∷ bs)) ≡ long → part_of grammar s (b ∷ bs) ≡ goes new → IsOpen (parse_after grammar new []).fault
  unfolding part_of
  open_part-cases s new b bs true long is_many is_long is =
      let never = rw is_many at is in
      cc
  open_part-cases s new b bs false true is_many is_long is =
      let under = leb-false s.limits.line_count s.lines is_many in
      open-overlong s new (overlong_outcome grammar s) (omega (arith, under)) refl (rw (is_many, is_long) at is)
  open_part-cases s new b bs false false is_many is_long is =
      let under = leb-false s.limits.line_count s.lines is_many in
      let short = ltb-false s.limits.line_len (length s.partial + length (b ∷ bs)) is_long in
      let grown = rw (is_many, is_long) at is in
      let next : new ≡ with_partial s (s.partial ++ b ∷ bs) = cc in
      rw next (open-short (with_partial s (s.partial ++ b ∷ bs)) (omega (arith, length-append s.partial (b ∷ bs))) (omega (arith, under)) (omega (arith, short, length-append s.partial (b ∷ bs))))

  -- so it is behind a part that has no fault
  pub open_part : (s new : Progress T) (part : List ℕ) → part_of grammar s part ≡ goes new → IsOpen (parse_after grammar s []).fault → IsOpen (parse_after grammar new []).fault
  unfolding part_of
  open_part s new [] is yet =
      let next : new ≡ s = cc in
      rw next yet
  open_part s new (b ∷ bs) is yet = open_part-cases s new b bs _ _ refl refl is

  values-overlong : (s new : Progress T) (outcome : Result (Option T) ScriptFault) → partial_overlong s outcome ≡ goes new → new.values ≡ s.values
  values-overlong s new (Err f) is = cc
  values-overlong s new (Ok value) is = cc

  values_part-cases : (s new : Progress T) (b : ℕ) (bs : List ℕ) (many long : Bool) → nat_le s.limits.line_count s.lines ≡ many
      → nat_lt s.limits.line_len (length s.partial + length (b ∷ bs)) ≡ long → part_of grammar s (b ∷ bs) ≡ goes new → new.values ≡ s.values
  unfolding part_of
  values_part-cases s new b bs true long is_many is_long is =
      let never = rw is_many at is in
      cc
  values_part-cases s new b bs false true is_many is_long is = values-overlong s new (overlong_outcome grammar s) (rw (is_many, is_long) at is)
  values_part-cases s new b bs false false is_many is_long is =
      let grown = rw (is_many, is_long) at is in
      cc

  -- which adds no value
  pub values_part : (s new : Progress T) (part : List ℕ) → part_of grammar s part ≡ goes new → new.values ≡ s.values
  unfolding part_of
  values_part s new [] is = cc
  values_part s new (b ∷ bs) is = values_part-cases s new b bs _ _ refl refl is

  values-of_stops : (s new : Progress T) (g f : ScriptFault) → stops (record { values = s.values; fault = Some g }) ≡ stops (record { values = new.values; fault = Some f }) → new.values ≡ s.values
  values-of_stops s new g f is = ap (λ (x : Parsed T). x.values) (sym (stops-same (record { values = s.values; fault = Some g }) (record { values = new.values; fault = Some f }) is))

  fault_values-overlong : (s new : Progress T) (f : ScriptFault) (outcome : Result (Option T) ScriptFault) → partial_overlong s outcome ≡ stops (record { values = new.values; fault = Some f })
      → new.values ≡ s.values
  fault_values-overlong s new f (Err g) is = values-of_stops s new g f is
  fault_values-overlong s new f (Ok value) is = cc

  fault_values_part-cases : (s new : Progress T) (f : ScriptFault) (b : ℕ) (bs : List ℕ) (many long : Bool) → nat_le s.limits.line_count s.lines ≡ many
      → nat_lt s.limits.line_len (length s.partial + length (b ∷ bs)) ≡ long → part_of grammar s (b ∷ bs) ≡ stops (record { values = new.values; fault = Some f }) → new.values ≡ s.values
  unfolding part_of
  fault_values_part-cases s new f b bs true long is_many is_long is =
      let same = rw is_many at is in
      values-of_stops s new TooManyLines f same
  fault_values_part-cases s new f b bs false true is_many is_long is = fault_values-overlong s new f (overlong_outcome grammar s) (rw (is_many, is_long) at is)
  fault_values_part-cases s new f b bs false false is_many is_long is =
      let never = rw (is_many, is_long) at is in
      cc

  -- nor does one that has a fault
  pub fault_values_part : (s new : Progress T) (f : ScriptFault) (part : List ℕ) → part_of grammar s part ≡ stops (record { values = new.values; fault = Some f }) → new.values ≡ s.values
  unfolding part_of
  fault_values_part s new f [] is = cc
  fault_values_part s new f (b ∷ bs) is = fault_values_part-cases s new f b bs _ _ refl refl is
