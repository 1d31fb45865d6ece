-- Bytes before the lines of others, where the first line feed stands, and how the first line of a text is parsed.
use Rattle.std.proofs.Common.{◌≡◌, ℕ, ◌+◌, ◌<◌, ◌≤◌, ◌||◌, true, false, Bool, List, [], ◌∷◌, ◌++◌, length, take, drop, slice_index, nat_eq, refl, sym, ap, ◌∙◌, append_assoc, append-nil, length-append, None, suc, zero, arith}
use Rattle.std.proofs.lemmas.Bool.{lt-ltb, le-ltb, eqb-true}
use Rattle.std.proofs.lemmas.List.{length-replicate}
use Rattle.cq_lines.specs.Lines.{put_first, lines_of, has_line_feed}
use Rattle.cq_lines.specs.Grammars.{Grammar, faulty, parse_line, value_or_fault, parsed_before, parse_from}
use Rattle.cq_lines.specs.Progress.{partial_before, overlong}
use Rattle.cq_lines.specs.declared.fault.ScriptFault.TheVariants.{BadLine, LineTooLong, TooManyLines}
use Rattle.cq_lines.specs.declared.limits.Limits.{Limits}

-- the partial line begins the first one
partial_before-line : (partial line : List ℕ) (lines : List (List ℕ)) → partial_before partial (line ∷ lines) ≡ (partial ++ line) ∷ lines
partial_before-line [] line lines = refl
partial_before-line (b ∷ bs) line lines = refl

-- at a line feed it ends
pub lines_of-line_feed : (partial bs : List ℕ) → partial_before partial (lines_of (10 ∷ bs)) ≡ partial ∷ lines_of bs
unfolding lines_of
lines_of-line_feed partial bs = partial_before-line partial [] (lines_of bs) ∙ ap (λ line. line ∷ lines_of bs) (append-nil partial)

put_first-partial : (partial : List ℕ) (b : ℕ) (lines : List (List ℕ)) → partial_before partial (put_first b lines) ≡ partial_before (partial ++ b ∷ []) lines
put_first-partial [] b [] = refl
put_first-partial [] b (line ∷ lines) = refl
put_first-partial (x ∷ xs) b [] = refl
put_first-partial (x ∷ xs) b (line ∷ lines) = ap (λ rest. (x ∷ rest) ∷ lines) (sym (append_assoc xs (b ∷ []) line))

-- and goes on at any other byte
pub lines_of-other_byte : (partial : List ℕ) (b : ℕ) (bs : List ℕ) → nat_eq b 10 ≡ false
    → partial_before partial (lines_of (b ∷ bs)) ≡ partial_before (partial ++ b ∷ []) (lines_of bs)
unfolding lines_of
lines_of-other_byte partial b bs is = rw is (put_first-partial partial b (lines_of bs))

neither_of : (here later : Bool) → (here || later) ≡ false → (here ≡ false) × (later ≡ false)
neither_of true later none = cc
neither_of false later none = (refl, none)

-- or at several of them
pub lines_of-part : (partial part bytes : List ℕ) → has_line_feed part ≡ false
    → partial_before partial (lines_of (part ++ bytes)) ≡ partial_before (partial ++ part) (lines_of bytes)
lines_of-part partial [] bytes none = ap (λ line. partial_before line (lines_of bytes)) (sym (append-nil partial))
lines_of-part partial (b ∷ bs) bytes none =
    let split = neither_of (nat_eq b 10) (has_line_feed bs) none in
    lines_of-other_byte partial b (bs ++ bytes) split.0 ∙ lines_of-part (partial ++ b ∷ []) bs bytes split.1
    ∙ ap (λ line. partial_before line (lines_of bytes)) (append_assoc partial (b ∷ []) bs)

-- behind which it ends at a line feed
pub lines_of-line : (partial part bytes : List ℕ) → has_line_feed part ≡ false
    → partial_before partial (lines_of (part ++ 10 ∷ bytes)) ≡ (partial ++ part) ∷ lines_of bytes
lines_of-line partial part bytes none = lines_of-part partial part (10 ∷ bytes) none ∙ lines_of-line_feed (partial ++ part) bytes

-- There is a first line, and it begins with the partial one.
pub record HasFirstLine (partial : List ℕ) (lines : List (List ℕ)) : Type 0 where
  pub rest : List ℕ
  pub later : List (List ℕ)
  pub is : lines ≡ (partial ++ rest) ∷ later

partial-HasFirstLine : (b : ℕ) (bs : List ℕ) (lines : List (List ℕ)) → HasFirstLine (b ∷ bs) (partial_before (b ∷ bs) lines)
partial-HasFirstLine b bs [] = record { rest = []; later = []; is = ap (λ l. l ∷ []) (sym (append-nil (b ∷ bs))) }
partial-HasFirstLine b bs (line ∷ lines) = record { rest = line; later = lines; is = refl }

-- so it is where the partial one has a byte
pub partial_before-HasFirstLine : (partial : List ℕ) (b : ℕ) (bs : List ℕ) (lines : List (List ℕ)) → HasFirstLine (partial ++ b ∷ bs) (partial_before (partial ++ b ∷ bs) lines)
partial_before-HasFirstLine [] b bs lines = partial-HasFirstLine b bs lines
partial_before-HasFirstLine (x ∷ xs) b bs lines = partial-HasFirstLine x (xs ++ b ∷ bs) lines

pub partial_before-nil : (partial : List ℕ) → 0 < length partial → partial_before partial [] ≡ partial ∷ []
partial_before-nil [] some = absurd (omega (arith, some))
partial_before-nil (b ∷ bs) some = refl

-- the bytes for an overlong line are more than a line may have
pub length-overlong : (limit : ℕ) → length (overlong limit) ≡ limit + 1
length-overlong limit = length-replicate {A = ℕ} (limit + 1) 0

-- ---- the first line feed

pub no_line_feed : (bytes : List ℕ) → ((k : ℕ) → 0 ≤ k → k < length bytes → ¬ (nat_eq (slice_index bytes k) 10 ≡ true)) → has_line_feed bytes ≡ false
no_line_feed [] nowhere = refl
no_line_feed (b ∷ bs) nowhere = first (nat_eq b 10) refl (no_line_feed bs (λ k low high. nowhere (suc k) (omega arith) (omega (arith, high)))) where
  first : (here : Bool) → nat_eq b 10 ≡ here → has_line_feed bs ≡ false → has_line_feed (b ∷ bs) ≡ false
  first true is none = absurd (nowhere 0 (omega arith) (omega arith) is)
  first false is none = rw is none

pub cut_at : (bytes : List ℕ) (place : ℕ) → place < length bytes → ((k : ℕ) → 0 ≤ k → k < place → ¬ (nat_eq (slice_index bytes k) 10 ≡ true))
    → nat_eq (slice_index bytes place) 10 ≡ true → (has_line_feed (take place bytes) ≡ false) × (bytes ≡ take place bytes ++ 10 ∷ drop 1 (drop place bytes))
cut_at [] place inside before here = absurd (omega (arith, inside))
cut_at (b ∷ bs) zero inside before here = (refl, ap (λ x. x ∷ bs) (eqb-true b 10 here))
cut_at (b ∷ bs) (suc k) inside before here =
    let later = cut_at bs k (omega (arith, inside)) (λ j low high. before (suc j) (omega arith) (omega (arith, high))) here in
    (first (nat_eq b 10) refl later.0, ap (λ xs. b ∷ xs) later.1) where
      first : (is_feed : Bool) → nat_eq b 10 ≡ is_feed → has_line_feed (take k bs) ≡ false → has_line_feed (b ∷ take k bs) ≡ false
      first true is none = absurd (before 0 (omega arith) (omega arith) is)
      first false is none = rw is none

-- ---- the first line

module _ {T : Type 0} (grammar : Grammar T) (limits : Limits) where
  pub parse_from-nil : (n : ℕ) → parse_from grammar limits n [] ≡ record { values = []; fault = None }
  unfolding parse_from
  parse_from-nil n = refl

  pub parse_from-many : (n : ℕ) (line : List ℕ) (lines : List (List ℕ)) → limits.line_count < n → parse_from grammar limits n (line ∷ lines) ≡ faulty TooManyLines
  unfolding parse_from
  parse_from-many n line lines more = rw (lt-ltb limits.line_count n more) refl

  pub parse_from-line : (n : ℕ) (line : List ℕ) (lines : List (List ℕ)) → n ≤ limits.line_count
      → parse_from grammar limits n (line ∷ lines) ≡ parsed_before (parse_line grammar limits.line_len n line) (parse_from grammar limits (n + 1) lines)
  unfolding parse_from
  parse_from-line n line lines few = rw (le-ltb limits.line_count n few) refl

  pub parse_line-long : (n : ℕ) (line : List ℕ) → limits.line_len < length line → parse_line grammar limits.line_len n line ≡ value_or_fault (LineTooLong n) (grammar.overlong_value n)
  parse_line-long n line long = rw (lt-ltb limits.line_len (length line) long) refl

  pub parse_line-short : (n : ℕ) (line : List ℕ) → length line ≤ limits.line_len → parse_line grammar limits.line_len n line ≡ value_or_fault (BadLine n) (grammar.line_value n line)
  parse_line-short n line short = rw (le-ltb limits.line_len (length line) short) refl

  -- overlong lines are parsed alike
  pub parse_from-long : (n : ℕ) (one other : List ℕ) (lines : List (List ℕ)) → n ≤ limits.line_count → limits.line_len < length one → limits.line_len < length other
      → parse_from grammar limits n (one ∷ lines) ≡ parse_from grammar limits n (other ∷ lines)
  parse_from-long n one other lines few long too =
      parse_from-line n one lines few
      ∙ ap (λ outcome. parsed_before outcome (parse_from grammar limits (n + 1) lines)) (parse_line-long n one long ∙ sym (parse_line-long n other too))
      ∙ sym (parse_from-line n other lines few)

  partial-long : (n : ℕ) (b : ℕ) (bs : List ℕ) (c : ℕ) (cs : List ℕ) (lines : List (List ℕ)) → n ≤ limits.line_count → limits.line_len < length (b ∷ bs) → limits.line_len < length (c ∷ cs)
      → parse_from grammar limits n (partial_before (b ∷ bs) lines) ≡ parse_from grammar limits n (partial_before (c ∷ cs) lines)
  partial-long n b bs c cs [] few long too = parse_from-long n (b ∷ bs) (c ∷ cs) [] few long too
  partial-long n b bs c cs (line ∷ lines) few long too =
      parse_from-long n ((b ∷ bs) ++ line) ((c ∷ cs) ++ line) lines few (omega (arith, long, length-append (b ∷ bs) line)) (omega (arith, too, length-append (c ∷ cs) line))

  -- and so are lines that begin with them
  pub parse_from-partial_long : (n : ℕ) (one other : List ℕ) (lines : List (List ℕ)) → n ≤ limits.line_count → limits.line_len < length one → limits.line_len < length other
      → parse_from grammar limits n (partial_before one lines) ≡ parse_from grammar limits n (partial_before other lines)
  parse_from-partial_long n [] other lines few long too = absurd (omega (arith, long))
  parse_from-partial_long n (b ∷ bs) [] lines few long too = absurd (omega (arith, too))
  parse_from-partial_long n (b ∷ bs) (c ∷ cs) lines few long too = partial-long n b bs c cs lines few long too
