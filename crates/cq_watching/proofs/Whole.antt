-- What a session was given are whole lines, and what it wrote of them is its text.
use Rattle.std.proofs.Common.{◌≡◌, ℕ, ◌==◌, ◌∙◌, ◌++◌, List, [], ◌∷◌, Bool, true, false, ap, sym, refl, subst, drop, length, append_assoc, append-nil, if◌then◌else◌}
use Rattle.std.specs.Prelude.{◌||◌}
use Rattle.std.proofs.Math.Seq.{drop-append_seam}
use Rattle.cq_base.specs.Relations.{IsPrefix}
use Rattle.cq_lines.specs.Lines.{ended_part, has_line_feed, lines_of}
use Rattle.cq_lines.proofs.Chunks.{ended_part-line_feed, has_line_feed-append}
use Rattle.cq_lines.proofs.Cutting.{lines_of-line}
use Rattle.cq_watching.specs.Coming.{Come, after_byte, after_bytes, after_end, after_part, asks, by_byte, by_bytes, nothing_yet, plain}
use Rattle.cq_watching.specs.Watching.{answered_text, ended_text, plain_text}
use Rattle.cq_watching.proofs.Prefixes.{Parts, nothing-answered, text-more}

-- what was given are lines that have ended, and in the line that has begun none ends
pub record IsWhole (come : Come) : Type 0 where
  pub parts : Parts come.given
  pub ended : ended_part come.given ≡ come.given
  pub none : has_line_feed come.line ≡ false

whole-begin : IsWhole nothing_yet
unfolding ended_part lines_of
whole-begin = record { parts = λ ys. refl; ended = refl; none = refl }

-- ---- one more line

one-line : (line : List ℕ) → has_line_feed line ≡ false → lines_of (line ++ 10 ∷ []) ≡ line ∷ []
unfolding lines_of
one-line line none = lines_of-line [] line [] none

parts-line : (xs line : List ℕ) → has_line_feed line ≡ false → Parts xs → Parts (xs ++ (line ++ 10 ∷ []))
parts-line xs line none parts = λ ys.
    ap lines_of (append_assoc xs (line ++ 10 ∷ []) ys ∙ ap (λ t. xs ++ t) (append_assoc line (10 ∷ []) ys))
    ∙ parts (line ++ 10 ∷ ys)
    ∙ ap (λ t. lines_of xs ++ t) (lines_of-line [] line ys none)
    ∙ sym (append_assoc (lines_of xs) (line ∷ []) (lines_of ys))
    ∙ ap (λ t. t ++ lines_of ys) (sym (parts (line ++ 10 ∷ []) ∙ ap (λ t. lines_of xs ++ t) (one-line line none)))

plain-none : (line : List ℕ) → has_line_feed line ≡ false → has_line_feed (plain line) ≡ false
plain-none line none = go (asks line)
  where
    go : (is : Bool) → has_line_feed (if is then [] else line) ≡ false
    go true = refl
    go false = none

whole-end : (come : Come) → IsWhole come → IsWhole (after_end come)
whole-end come whole = record {
  parts = parts-line come.given (plain come.line) (plain-none come.line whole.none) whole.parts;
  ended = ap ended_part (sym (append_assoc come.given (plain come.line) (10 ∷ []))) ∙ ended_part-line_feed (come.given ++ plain come.line) ∙ append_assoc come.given (plain come.line) (10 ∷ []);
  none = refl;
}

-- ---- one more byte

or-false : (x : Bool) → x ≡ false → (x || false) ≡ false
or-false true is = is
or-false false is = refl

part-none : (line : List ℕ) (b : ℕ) → has_line_feed line ≡ false → (b == 10) ≡ false → has_line_feed (line ++ b ∷ []) ≡ false
part-none line b none is = has_line_feed-append line (b ∷ []) ∙ ap (λ x. x || has_line_feed (b ∷ [])) none ∙ or-false (b == 10) is

whole-byte : (come : Come) (b : ℕ) (is : Bool) → (b == 10) ≡ is → IsWhole come → IsWhole (if is then after_end come else after_part come (b ∷ []))
whole-byte come b true is whole = whole-end come whole
whole-byte come b false is whole = record { parts = whole.parts; ended = whole.ended; none = part-none come.line b whole.none is }

-- ---- what was written

prefix-drop : (xs ys : List ℕ) → IsPrefix xs ys → xs ++ drop (length xs) ys ≡ ys
prefix-drop xs ys part = ap (λ t. xs ++ drop (length xs) t) part.1 ∙ ap (λ t. xs ++ t) (drop-append_seam xs part.0) ∙ sym part.1

ends-text : (size : ℕ) (come : Come) → IsWhole come → ended_text size come.given ++ plain_text size come ≡ ended_text size (after_end come).given
ends-text size come whole =
    prefix-drop (ended_text size come.given) (ended_text size (after_end come).given)
    (text-more size come.given (plain come.line ++ 10 ∷ []) whole.parts whole.ended (whole-end come whole).ended)

byte-text : (size : ℕ) (come : Come) (b : ℕ) (is : Bool) → IsWhole come
    → ended_text size come.given ++ (if is then plain_text size come else []) ≡ ended_text size (if is then after_end come else after_part come (b ∷ [])).given
byte-text size come b true whole = ends-text size come whole
byte-text size come b false whole = append-nil (ended_text size come.given)

bytes-text : (size : ℕ) (come : Come) (bytes : List ℕ) → IsWhole come → ended_text size come.given ++ by_bytes (plain_text size) come bytes ≡ ended_text size (after_bytes come bytes).given
unfolding by_bytes after_bytes
bytes-text size come [] whole = append-nil (ended_text size come.given)
bytes-text size come (b ∷ bs) whole =
    sym (append_assoc (ended_text size come.given) (by_byte (plain_text size) come b) (by_bytes (plain_text size) (after_byte come b) bs))
    ∙ ap (λ t. t ++ by_bytes (plain_text size) (after_byte come b) bs) (byte-text size come b (b == 10) whole)
    ∙ bytes-text size (after_byte come b) bs (whole-byte come b (b == 10) refl whole)

pub all-text : (size : ℕ) (bytes : List ℕ) → by_bytes (plain_text size) nothing_yet bytes ≡ ended_text size (after_bytes nothing_yet bytes).given
all-text size bytes = ap (λ t. t ++ by_bytes (plain_text size) nothing_yet bytes) (sym (nothing-answered size)) ∙ bytes-text size nothing_yet bytes whole-begin
