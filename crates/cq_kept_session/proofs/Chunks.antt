-- Texts that are kept, one behind the other.
use Rattle.std.proofs.Common.{◌≡◌, ℕ, zero, suc, ◌+◌, ◌<◌, ◌≤◌, Bool, true, false, List, [], ◌∷◌, ◌++◌, length, take, Option, None, Some, refl, ◌∙◌, ap, arith, append-nil, le-leb}
use Rattle.std.specs.Prelude.{◌||◌, nat_eq, nat_le, not, get_or, is_some, slice_index}
use Rattle.std.proofs.lemmas.Bool.{and_parts, and_from, true≢false}
use Rattle.std.proofs.lemmas.Bool.Decides.{nat_tests}
use Rattle.memchr.specs.Find.{IsFirstByte, is_byte2}
use Rattle.cq_records.specs.Frames.{is_plain, is_text, joined}
use Rattle.cq_records.specs.declared.frame.TheConstants.{TEXT_LIMIT}
use Rattle.cq_records.proofs.Frames.{joined_append}
use Rattle.cq_kept_session.specs.Texts.{as_kept, has_mark, is_mark, kept_byte}

pub joined_more : (rs : List (List ℕ)) (r : List ℕ) → joined (rs ++ r ∷ []) ≡ joined rs ++ r
joined_more rs r = joined_append rs (r ∷ []) ∙ ap (λ (l : List ℕ). joined rs ++ l) (append-nil r)

-- ---- bytes as they are kept

kept_long : (bytes : List ℕ) → length (as_kept bytes) ≡ length bytes
kept_long [] = refl
kept_long (b ∷ bytes) = omega (arith, kept_long bytes)

above_one : (b : ℕ) → nat_le 2 (kept_byte b) ≡ true
above_one b = grind (arith, nat_tests)

no_mark : (b : ℕ) → is_mark (kept_byte b) ≡ false
no_mark b = grind (arith, nat_tests)

low_gone : (bytes : List ℕ) → is_plain (as_kept bytes) ≡ true
low_gone [] = refl
low_gone (b ∷ bytes) = and_from _ _ (above_one b) (low_gone bytes)

pub text_kept : (bytes : List ℕ) → length bytes ≤ TEXT_LIMIT → is_text (as_kept bytes) ≡ true
text_kept bytes short = and_from _ _ (le-leb _ _ (omega (arith, kept_long bytes, short))) (low_gone bytes)

pub unmarked_kept : (bytes : List ℕ) → has_mark (as_kept bytes) ≡ false
unmarked_kept [] = refl
unmarked_kept (b ∷ bytes) = rw (no_mark b) (unmarked_kept bytes)

pub neither : (here later : Bool) → (here || later) ≡ false → (here ≡ false) × (later ≡ false)
neither true later none = absurd (true≢false none)
neither false later none = (refl, none)

same_above : (b : ℕ) → nat_le 2 b ≡ true → nat_eq b 2 ≡ false → nat_eq b 3 ≡ false → kept_byte b ≡ b
same_above b above two three = grind (arith, nat_tests)

none_changed : (bytes : List ℕ) → is_plain bytes ≡ true → has_mark bytes ≡ false → as_kept bytes ≡ bytes
none_changed [] full unmarked = refl
none_changed (b ∷ bytes) full unmarked =
    let parts = and_parts (nat_le 2 b) (is_plain bytes) full in
    let both = neither (is_mark b) (has_mark bytes) unmarked in
    let here = neither (nat_eq b 2) (nat_eq b 3) both.0 in
    λ i. (same_above b parts.0 here.0 here.1 i) ∷ (none_changed bytes parts.1 both.1 i)

pub text_is_same : (bytes : List ℕ) → is_text bytes ≡ true → has_mark bytes ≡ false → as_kept bytes ≡ bytes
text_is_same bytes is unmarked = none_changed bytes (and_parts (nat_le (length bytes) TEXT_LIMIT) (is_plain bytes) is).1 unmarked

pub kept_next : (bytes : List ℕ) (i : ℕ) → i < length bytes → as_kept (take (i + 1) bytes) ≡ as_kept (take i bytes) ++ kept_byte (get_or bytes i 0) ∷ []
kept_next bytes i below = ap (λ (k : ℕ). as_kept (take k bytes)) next ∙ go bytes i below
  where
    next : i + 1 ≡ suc i
    next = omega arith

    go : (bytes : List ℕ) (i : ℕ) → i < length bytes → as_kept (take (suc i) bytes) ≡ as_kept (take i bytes) ++ kept_byte (get_or bytes i 0) ∷ []
    go [] i below = absurd (omega (arith, below))
    go (b ∷ bytes) zero below = refl
    go (b ∷ bytes) (suc i) below = ap (λ (more : List ℕ). kept_byte b ∷ more) (go bytes i (omega (arith, below)))

-- ---- a search for a mark

nowhere_none : (bytes : List ℕ) → ((k : ℕ) → 0 ≤ k → k < length bytes → ¬ (is_mark (slice_index bytes k) ≡ true)) → has_mark bytes ≡ false
nowhere_none [] nowhere = refl
nowhere_none (b ∷ bs) nowhere = first (is_mark b) refl (nowhere_none bs (λ k low high. nowhere (suc k) (omega arith) (omega (arith, high))))
  where
    first : (here : Bool) → is_mark b ≡ here → has_mark bs ≡ false → has_mark (b ∷ bs) ≡ false
    first true is none = absurd (nowhere 0 (omega arith) (omega arith) is)
    first false is none = rw is none

pub found_none : (bytes : List ℕ) (found : Option ℕ) (none : Bool) → IsFirstByte (is_byte2 2 3) bytes found → is_some found ≡ not none → none ≡ true → has_mark bytes ≡ false
found_none bytes None none is are all = nowhere_none bytes is
found_none bytes (Some place) none is are all = absurd (true≢false (are ∙ ap not all))
