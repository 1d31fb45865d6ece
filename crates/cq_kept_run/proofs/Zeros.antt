-- Bytes in which a journal is still to be made have none.
use Rattle.std.proofs.Common.{◌≡◌, ℕ, zero, suc, ◌+◌, ◌-◌, ◌≤◌, length, Bool, true, false, List, [], ◌∷◌, ◌++◌, None, Some, Result, Ok, Err, take, drop, refl, sym, ap, ◌∙◌, subst, arith, drop-drop, take-append-drop}
use Rattle.std.specs.Prelude.{◌==◌, ◌&&◌, IfOk, map, slice_index}
use lib.Seq.{take-nil}
use mathlib.Core.Bool.{true≢false}
use Rattle.std.proofs.lemmas.Bool.{and_left, and_parts, and_right}
use Rattle.std.proofs.lemmas.List.Folds.{list_all-append}
use Rattle.cq_base.specs.declared.ask.Entry.{Entry}
use Rattle.cq_disk.specs.Region.{part}
use Rattle.cq_records.specs.Frames.{all_sound, are_zeros, frames, text_of}
use Rattle.cq_records.proofs.Frames.{closed}
use Rattle.cq_journal.specs.Intact.{IsIntact}
use Rattle.cq_journal.specs.Regions.{Each, kept, named_records}
use Rattle.cq_journal.specs.Roots.{first_of, half_of, later, root_of}
use Rattle.cq_kept_entries.specs.Kept.{BytesStandFor}
use Rattle.cq_kept_run.specs.declared.sizes.TheConstants.{FIRST_ROOT}
use Rattle.cq_kept_run.specs.within.Unmade.{IsUnmade}

-- ---- a part of bytes

zeros_split : (n : ℕ) (xs : List ℕ) → are_zeros xs ≡ (are_zeros (take n xs) && are_zeros (drop n xs))
zeros_split n xs = ap are_zeros (sym (take-append-drop n xs)) ∙ list_all-append (λ b. b == 0) (take n xs) (drop n xs)

zeros_part : (start len : ℕ) (xs : List ℕ) → are_zeros xs ≡ true → are_zeros (part start len xs) ≡ true
zeros_part start len xs is =
    let behind : are_zeros (drop start xs) ≡ true = (and_parts (are_zeros (take start xs)) (are_zeros (drop start xs)) (sym (zeros_split start xs) ∙ is)).1 in
    (and_parts (are_zeros (take len (drop start xs))) (are_zeros (drop len (drop start xs))) (sym (zeros_split len (drop start xs)) ∙ behind)).0

not_zeros : (start len : ℕ) (xs : List ℕ) → are_zeros (part start len xs) ≡ false → are_zeros xs ≡ false
not_zeros start len xs is =
    let behind : are_zeros (drop start xs) ≡ false = zeros_split len (drop start xs) ∙ and_left (are_zeros (take len (drop start xs))) (are_zeros (drop len (drop start xs))) is in
    zeros_split start xs ∙ and_right (are_zeros (take start xs)) (are_zeros (drop start xs)) behind

take_two : (a b : ℕ) (xs : List ℕ) → take (b + a) xs ≡ take a xs ++ part a b xs
take_two zero b xs =
    let is : b + 0 ≡ b = omega arith in
    ap (λ n. take n xs) is
take_two (suc a) b [] = take-nil (b + suc a) ∙ sym (take-nil b)
take_two (suc a) b (x ∷ xs) =
    let is : b + suc a ≡ suc (b + a) = omega arith in
    ap (λ n. take n (x ∷ xs)) is ∙ ap (λ l. x ∷ l) (take_two a b xs)

-- one part more
next_zeros : (a b : ℕ) (xs : List ℕ) → are_zeros (take a xs) ≡ true → are_zeros (part a b xs) ≡ true → are_zeros (take (a + b) xs) ≡ true
next_zeros a b xs first next =
    let turned : a + b ≡ b + a = omega arith in
    ap (λ n. are_zeros (take n xs)) turned ∙ ap are_zeros (take_two a b xs) ∙ list_all-append (λ b. b == 0) (take a xs) (part a b xs) ∙ (λ i. (first i) && (next i))

-- what a read of the part tells
pub zeros_read : (a len : ℕ) (xs ys : List ℕ) (is : Bool) → ys ≡ xs → is ≡ are_zeros (part a len ys) → is ≡ true → are_zeros (take a xs) ≡ true → are_zeros (take (a + len) xs) ≡ true
zeros_read a len xs ys is same found holds first = next_zeros a len xs first (ap (λ (l : List ℕ). are_zeros (part a len l)) (sym same) ∙ sym found ∙ holds)

pub other_read : (a len : ℕ) (xs ys : List ℕ) (is : Bool) → ys ≡ xs → is ≡ are_zeros (part a len ys) → is ≡ false → are_zeros xs ≡ false
other_read a len xs ys is same found fails = not_zeros a len xs (ap (λ (l : List ℕ). are_zeros (part a len l)) (sym same) ∙ sym found ∙ fails)

-- ---- a journal

frames_none : (xs : List ℕ) → are_zeros xs ≡ true → frames xs ≡ []
frames_none [] is = refl
frames_none (b ∷ xs) is = closed (b ∷ xs) (λ gate. absurd (true≢false (sym (subst (λ (n : ℕ). (n == 0) ≡ true) gate (and_parts (b == 0) (are_zeros xs) is).0))))

-- the part behind some bytes, counted from their end
pub part_behind : (from start len : ℕ) (xs : List ℕ) → from ≤ start → part start len xs ≡ part (start - from) len (drop from xs)
part_behind from start len xs le =
    let is : from + (start - from) ≡ start = omega (arith, le) in
    ap (λ n. take len (drop n xs)) (sym is) ∙ ap (λ (l : List ℕ). take len l) (sym (drop-drop (start - from) from xs))

second_none : (half : ℕ) (bytes : List ℕ) → FIRST_ROOT ≤ half → are_zeros (drop FIRST_ROOT bytes) ≡ true → half_of half half bytes ≡ None
second_none half bytes fits is =
    let zeros : are_zeros (part half half bytes) ≡ true = ap are_zeros (part_behind FIRST_ROOT half half bytes fits) ∙ zeros_part (half - FIRST_ROOT) half (drop FIRST_ROOT bytes) is in
    ap (λ (fs : List (List ℕ)). first_of (map text_of fs)) (frames_none (part half half bytes) zeros)

root_none : (half : ℕ) (bytes : List ℕ) → FIRST_ROOT ≤ half → IsUnmade half bytes → root_of half bytes ≡ None
root_none half bytes fits is = λ i. later (is.rootless i) (second_none half bytes fits is.blank i)

pub kept_none : (half len : ℕ) (bytes : List ℕ) (records : List (List ℕ)) → FIRST_ROOT ≤ half → IsUnmade half bytes → kept half len bytes ≡ Some records → ⊥
kept_none half len bytes records fits is has = let none : Some records ≡ None = sym has ∙ ap (named_records len bytes) (root_none half bytes fits is) in cc

-- so they stand for no entries
pub stand_for_none : (half len : ℕ) (bytes : List ℕ) (all : List Entry) → FIRST_ROOT ≤ half → IsUnmade half bytes → BytesStandFor half len bytes all → ⊥
stand_for_none half len bytes all fits is stand = kept_none half len bytes stand.records fits is stand.has

-- where there is no record, none is damaged
none_sound : (fs : List (List ℕ)) → first_of (map text_of fs) ≡ None → all_sound fs ≡ true
none_sound [] none = refl
none_sound (f ∷ fs) none = absurd cc

pub damaged_made : (half : ℕ) (bytes : List ℕ) → all_sound (frames (part 0 half bytes)) ≡ false → IsUnmade half bytes → ⊥
damaged_made half bytes damaged is = true≢false (sym (none_sound (frames (part 0 half bytes)) is.rootless) ∙ damaged)

-- what is told of such bytes, by whether zeros were read behind the place of a root
pub yes_unmade : {E : Type 0} (r : Result Bool E) (H : Type 0) (half : ℕ) (bytes now : List ℕ) → now ≡ bytes → (H → half_of 0 half bytes ≡ None) → IfOk r (λ is. H → is ≡ are_zeros (drop FIRST_ROOT now))
    → IfOk r (λ is. H → is ≡ true → IsUnmade half bytes)
yes_unmade (Ok b) H half bytes now same rootless blank = λ honest yes.
    record { rootless = rootless honest; blank = ap (λ (l : List ℕ). are_zeros (drop FIRST_ROOT l)) (sym same) ∙ sym (blank honest) ∙ yes }
yes_unmade (Err e) H half bytes now same rootless blank = tt

pub no_unmade : {E : Type 0} (r : Result Bool E) (H : Type 0) (half : ℕ) (bytes now : List ℕ) → now ≡ bytes → IfOk r (λ is. H → is ≡ are_zeros (drop FIRST_ROOT now))
    → IfOk r (λ is. H → is ≡ false → IsUnmade half bytes → ⊥)
no_unmade (Ok b) H half bytes now same blank = λ honest no it.
    true≢false (sym it.blank ∙ ap (λ (l : List ℕ). are_zeros (drop FIRST_ROOT l)) (sym same) ∙ sym (blank honest) ∙ no)
no_unmade (Err e) H half bytes now same blank = tt

-- ---- an intact one

pub intact_some : (half len : ℕ) (bytes : List ℕ) → FIRST_ROOT ≤ half → IsUnmade half bytes → IsIntact half len bytes → ⊥
intact_some half len bytes fits is intact = let none = sym intact.4.names ∙ root_none half bytes fits is in cc

last_of : (P : ℕ → Type 0) (ns : List ℕ) (n : ℕ) → Each P (ns ++ n ∷ []) → P n
last_of P [] n each = each.0
last_of P (m ∷ ns) n each = last_of P ns n each.1

-- it has its root, and a region behind that
pub intact_long : (half len : ℕ) (bytes : List ℕ) → IsIntact half len bytes → half + half ≤ length bytes
intact_long half len bytes intact =
    let at = intact.4 in
    let closed_ones = intact.1 in
    let growing = intact.2 in
    let behind = last_of (λ n. half + half ≤ n) closed_ones growing at.behind in
    let within = last_of (λ n. n + len ≤ length bytes) closed_ones growing at.within in
    omega (arith, behind, within)
