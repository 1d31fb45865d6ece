-- Bytes that come in parts.
use Rattle.std.proofs.Common.{◌≡◌, ℕ, ◌==◌, ◌∙◌, ◌++◌, List, [], ◌∷◌, Bool, true, false, ap, sym, refl, append_assoc, append-nil, if◌then◌else◌}
use Rattle.std.specs.Prelude.{◌||◌}
use Rattle.std.proofs.lemmas.Bool.{true≢false}
use Rattle.cq_lines.specs.Lines.{has_line_feed}
use Rattle.cq_watching.specs.Coming.{Come, after_byte, after_bytes, after_end, after_part, by_byte, by_bytes}

first-none : (x y : Bool) → (x || y) ≡ false → x ≡ false
first-none true y is = is
first-none false y is = refl

later-none : (x y : Bool) → (x || y) ≡ false → y ≡ false
later-none true y is = absurd (true≢false is)
later-none false y is = is

-- ---- parts, one behind the other

pub after-append : (come : Come) (xs ys : List ℕ) → after_bytes come (xs ++ ys) ≡ after_bytes (after_bytes come xs) ys
unfolding after_bytes
after-append come [] ys = refl
after-append come (x ∷ xs) ys = after-append (after_byte come x) xs ys

pub by-append : (of_line : Come → List ℕ) (come : Come) (xs ys : List ℕ)
    → by_bytes of_line come (xs ++ ys) ≡ by_bytes of_line come xs ++ by_bytes of_line (after_bytes come xs) ys
unfolding by_bytes after_bytes
by-append of_line come [] ys = refl
by-append of_line come (x ∷ xs) ys =
    ap (λ t. by_byte of_line come x ++ t) (by-append of_line (after_byte come x) xs ys)
    ∙ sym (append_assoc (by_byte of_line come x) (by_bytes of_line (after_byte come x) xs) (by_bytes of_line (after_bytes (after_byte come x) xs) ys))

-- ---- a part in which no line ends

part-more : (come : Come) (b : ℕ) (bs : List ℕ) → after_part (after_part come (b ∷ [])) bs ≡ after_part come (b ∷ bs)
part-more come b bs = ap (λ line. record { given = come.given; line = line }) (append_assoc come.line (b ∷ []) bs)

pub after-part : (come : Come) (part : List ℕ) → has_line_feed part ≡ false → after_bytes come part ≡ after_part come part
unfolding after_bytes
after-part come [] none = ap (λ line. record { given = come.given; line = line }) (sym (append-nil come.line))
after-part come (b ∷ bs) none =
    ap (λ is. after_bytes (if is then after_end come else after_part come (b ∷ [])) bs) (first-none (b == 10) (has_line_feed bs) none)
    ∙ after-part (after_part come (b ∷ [])) bs (later-none (b == 10) (has_line_feed bs) none)
    ∙ part-more come b bs

pub by-part : (of_line : Come → List ℕ) (come : Come) (part : List ℕ) → has_line_feed part ≡ false → by_bytes of_line come part ≡ []
unfolding by_bytes
by-part of_line come [] none = refl
by-part of_line come (b ∷ bs) none =
    ap (λ is. (if is then of_line come else []) ++ by_bytes of_line (if is then after_end come else after_part come (b ∷ [])) bs) (first-none (b == 10) (has_line_feed bs) none)
    ∙ by-part of_line (after_part come (b ∷ [])) bs (later-none (b == 10) (has_line_feed bs) none)

-- ---- the end of a line

pub after-end : (come : Come) → after_bytes come (10 ∷ []) ≡ after_end come
unfolding after_bytes
after-end come = refl

pub by-end : (of_line : Come → List ℕ) (come : Come) → by_bytes of_line come (10 ∷ []) ≡ of_line come
unfolding by_bytes
by-end of_line come = append-nil (of_line come)

-- the rest of a line and its end
pub after-line : (come : Come) (rest : List ℕ) → has_line_feed rest ≡ false → after_end (after_bytes come rest) ≡ after_bytes come (rest ++ 10 ∷ [])
after-line come rest none = sym (after-append come rest (10 ∷ []) ∙ after-end (after_bytes come rest))

pub by-line : (of_line : Come → List ℕ) (come : Come) (rest : List ℕ) → has_line_feed rest ≡ false
    → of_line (after_bytes come rest) ≡ by_bytes of_line come (rest ++ 10 ∷ [])
by-line of_line come rest none =
    sym (by-append of_line come rest (10 ∷ [])
    ∙ ap (λ t. t ++ by_bytes of_line (after_bytes come rest) (10 ∷ [])) (by-part of_line come rest none)
    ∙ by-end of_line (after_bytes come rest))

-- ---- parts of a chunk

-- what is behind some of the bytes
pub by-rest : (of_line : Come → List ℕ) (come : Come) (bytes done rest : List ℕ) → bytes ≡ done ++ rest
    → by_bytes of_line come done ++ by_bytes of_line (after_bytes come done) rest ≡ by_bytes of_line come bytes
by-rest of_line come bytes done rest is = sym (ap (by_bytes of_line come) is ∙ by-append of_line come done rest)

-- a line ends in what is left
pub left-line : (line later : List ℕ) → line ++ 10 ∷ later ≡ (line ++ 10 ∷ []) ++ later
left-line line later = sym (append_assoc line (10 ∷ []) later)

pub more-done : (bytes done rest line later : List ℕ) → bytes ≡ done ++ rest → rest ≡ line ++ 10 ∷ later → bytes ≡ (done ++ (line ++ 10 ∷ [])) ++ later
more-done bytes done rest line later is cut = is ∙ ap (λ xs. done ++ xs) (cut ∙ left-line line later) ∙ sym (append_assoc done (line ++ 10 ∷ []) later)
