-- What is kept, with more bytes behind it.
use Rattle.std.proofs.Common.{◌≡◌, ℕ, List, [], ◌∷◌, ◌++◌, None, refl, sym, ◌∙◌, ap, subst, append_assoc, append-nil}
use Rattle.std.specs.Prelude.{◌==◌, Bool, true, false, cond}
use Rattle.cq_store_wire.specs.declared.build.State.TheVariants as states
use Rattle.cq_kept_session.specs.Bases.{AreLines, AreOf, Means, Stage, Start, alone, bad, based, fresh, is_of, lined, marked, read, resumed, several, sized, step}
use Rattle.cq_kept_session.specs.Texts.{has_mark, is_mark}
use Rattle.cq_kept_session.proofs.Chunks.{neither}

pub read_both : (stage : Stage) (a b : List ℕ) → read stage (a ++ b) ≡ read (read stage a) b
read_both stage [] b = refl
read_both stage (x ∷ a) b = read_both (step stage x) a b

pub read_lines : (start : Start) (lines more : List ℕ) → read (lined start lines) more ≡ lined start (lines ++ more)
read_lines start lines [] = ap (λ (l : List ℕ). lined start l) (sym (append-nil lines))
read_lines start lines (b ∷ more) = read_lines start (lines ++ b ∷ []) more ∙ ap (λ (l : List ℕ). lined start l) (append_assoc lines (b ∷ []) more)

-- the first byte of a text without marks
first_is : (b : ℕ) (bytes : List ℕ) → has_mark (b ∷ bytes) ≡ false → ((b == 2) ≡ false) × ((b == 3) ≡ false)
first_is b bytes unmarked = neither (b == 2) (b == 3) (neither (is_mark b) (has_mark bytes) unmarked).0

pub choice : {A : Type 0} (b : Bool) (x y : A) → b ≡ false → cond b x y ≡ y
choice true x y is = absurd cc
choice false x y is = refl

pub first_lines : (b : ℕ) (bytes : List ℕ) → (b == 2) ≡ false → (b == 3) ≡ false → read fresh (b ∷ bytes) ≡ lined alone (b ∷ bytes)
first_lines b bytes two three =
    let lines : Stage = lined alone (b ∷ []) in
    ap (λ stage. read stage bytes) (choice (b == 2) (based [] None states.Empty) (cond (b == 3) marked lines) two ∙ choice (b == 3) marked lines three) ∙ read_lines alone (b ∷ []) bytes

-- ---- lines behind what stands for others

lines_on : (size : ℕ) (start : Start) (lines bytes chunk : List ℕ) → AreLines size start lines bytes → AreLines size start (lines ++ chunk) (bytes ++ chunk)
lines_on size alone lines bytes chunk is = ap (λ (l : List ℕ). l ++ chunk) is
lines_on size (several servers) lines bytes chunk is = ap (λ (l : List ℕ). l ++ chunk) is
lines_on size (resumed header kept) lines bytes chunk is = record { before = is.before; is_base = is.is_base; are = ap (λ (l : List ℕ). l ++ chunk) is.are ∙ append_assoc is.before lines chunk }

pub lines_back : (size : ℕ) (start : Start) (lines chunk all : List ℕ) → AreLines size start (lines ++ chunk) all → (bytes : List ℕ) × AreLines size start lines bytes × (all ≡ bytes ++ chunk)
lines_back size alone lines chunk all is = (lines, refl, is)
lines_back size (several servers) lines chunk all is = (lines, refl, is)
lines_back size (resumed header kept) lines chunk all is =
    (is.before ++ lines, record { before = is.before; is_base = is.is_base; are = refl }, is.are ∙ sym (append_assoc is.before lines chunk))

means_on : (size : ℕ) (stage : Stage) (chunk bytes : List ℕ) → has_mark chunk ≡ false → Means size stage bytes → Means size (read stage chunk) (bytes ++ chunk)
means_on size fresh [] bytes unmarked is = ap (λ (l : List ℕ). l ++ []) is
means_on size fresh (b ∷ chunk) bytes unmarked is =
    let first = first_is b chunk unmarked in
    subst (λ s. Means size s (bytes ++ b ∷ chunk)) (sym (first_lines b chunk first.0 first.1)) (ap (λ (l : List ℕ). l ++ b ∷ chunk) is)
means_on size marked chunk bytes unmarked is = absurd is
means_on size (sized servers) chunk bytes unmarked is = absurd is
means_on size (based piece header state) chunk bytes unmarked is = absurd is
means_on size (lined start lines) chunk bytes unmarked is =
    subst (λ s. Means size s (bytes ++ chunk)) (sym (read_lines start lines chunk)) (lines_on size start lines bytes chunk is)
means_on size bad chunk bytes unmarked is = absurd is

means_back : (size : ℕ) (stage : Stage) (chunk all : List ℕ) → is_of size stage ≡ true → has_mark chunk ≡ false → Means size (read stage chunk) all → (bytes : List ℕ) × Means size stage bytes × (all ≡ bytes ++ chunk)
means_back size fresh [] all fits unmarked is = ([], refl, is)
means_back size fresh (b ∷ chunk) all fits unmarked is =
    let first = first_is b chunk unmarked in
    ([], refl, subst (λ s. Means size s all) (first_lines b chunk first.0 first.1) is)
means_back size marked chunk all fits unmarked is = absurd cc
means_back size (sized servers) chunk all fits unmarked is = absurd cc
means_back size (based piece header state) chunk all fits unmarked is = absurd cc
means_back size (lined start lines) chunk all fits unmarked is =
    lines_back size start lines chunk all (subst (λ s. Means size s all) (read_lines start lines chunk) is)
means_back size bad chunk all fits unmarked is = absurd cc

of_on : (size : ℕ) (stage : Stage) (chunk : List ℕ) → is_of size stage ≡ true → has_mark chunk ≡ false → is_of size (read stage chunk) ≡ true
of_on size fresh [] fits unmarked = fits
of_on size fresh (b ∷ chunk) fits unmarked = let first = first_is b chunk unmarked in ap (is_of size) (first_lines b chunk first.0 first.1) ∙ fits
of_on size marked chunk fits unmarked = absurd cc
of_on size (sized servers) chunk fits unmarked = absurd cc
of_on size (based piece header state) chunk fits unmarked = absurd cc
of_on size (lined start lines) chunk fits unmarked = ap (is_of size) (read_lines start lines chunk) ∙ fits
of_on size bad chunk fits unmarked = absurd cc

pub are_on : (size : ℕ) (kept chunk bytes : List ℕ) → has_mark chunk ≡ false → AreOf size kept bytes → AreOf size (kept ++ chunk) (bytes ++ chunk)
are_on size kept chunk bytes unmarked is =
    subst (λ s. Means size s (bytes ++ chunk)) (sym (read_both fresh kept chunk)) (means_on size (read fresh kept) chunk bytes unmarked is)

pub are_back : (size : ℕ) (kept chunk all : List ℕ) → is_of size (read fresh kept) ≡ true → has_mark chunk ≡ false → AreOf size (kept ++ chunk) all → (bytes : List ℕ) × AreOf size kept bytes × (all ≡ bytes ++ chunk)
are_back size kept chunk all fits unmarked is =
    means_back size (read fresh kept) chunk all fits unmarked (subst (λ s. Means size s all) (read_both fresh kept chunk) is)

pub fits_on : (size : ℕ) (kept chunk : List ℕ) → is_of size (read fresh kept) ≡ true → has_mark chunk ≡ false → is_of size (read fresh (kept ++ chunk)) ≡ true
fits_on size kept chunk fits unmarked = ap (is_of size) (read_both fresh kept chunk) ∙ of_on size (read fresh kept) chunk fits unmarked
