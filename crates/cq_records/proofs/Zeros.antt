-- Bytes of which none is zero, or 0 or 1, and those that were written over zeros.
use Rattle.std.proofs.Common.{rules, ◌≡◌, ◌⊎◌, ⊎_elim, ℕ, zero, suc, ◌<◌, ◌≤◌, Bool, true, false, List, [], ◌∷◌, ◌++◌, length, take, drop, refl, sym, ◌∙◌, ap, arith, leb-true, le-leb}
use Rattle.std.specs.Prelude.{nat_le, ◌&&◌, ◌||◌, ◌==◌, replicate, slice_index, Option, Some, None, is_some, not, ⊤}
use Rattle.std.proofs.lemmas.Bool.{cases_Bool, cases_eq, and_parts, and_from, true≢false}
use Rattle.std.proofs.lemmas.Bool.Decides.{nat_tests}
use Rattle.memchr.specs.Find.{Nowhere, Passes, IsFirstByte, is_byte, is_byte2}
use Rattle.cq_disk.specs.Device.{EachOldOrNew}
use Rattle.cq_records.specs.Frames.{is_plain, has_no_one}

abbrev pub has_no_zero : List ℕ → Bool
has_no_zero [] = true
has_no_zero (b ∷ bytes) = nat_le 1 b && has_no_zero bytes

pub no_zero_at : (bytes : List ℕ) (i : ℕ) → has_no_zero bytes ≡ true → i < length bytes → 1 ≤ slice_index bytes i
no_zero_at [] i full below = absurd (omega (arith, below))
no_zero_at (b ∷ bytes) zero full below = leb-true 1 b (and_parts (nat_le 1 b) (has_no_zero bytes) full).0
no_zero_at (b ∷ bytes) (suc i) full below = no_zero_at bytes i (and_parts (nat_le 1 b) (has_no_zero bytes) full).1 (omega (arith, below))

pub no_zero_append : (xs ys : List ℕ) → has_no_zero xs ≡ true → has_no_zero ys ≡ true → has_no_zero (xs ++ ys) ≡ true
no_zero_append [] ys full_xs full_ys = full_ys
no_zero_append (x ∷ xs) ys full_xs full_ys =
    let parts = and_parts (nat_le 1 x) (has_no_zero xs) full_xs in
    and_from (nat_le 1 x) (has_no_zero (xs ++ ys)) parts.0 (no_zero_append xs ys parts.1 full_ys)

-- bytes that were written over zeros, some of them lost
abbrev pub Faded : List ℕ → List ℕ → Type 0
Faded [] [] = ⊤
Faded (b ∷ bs) (c ∷ cs) = ((c ≡ 0) ⊎ (c ≡ b)) × Faded bs cs
Faded bs cs = ⊥

pub faded : (n : ℕ) (bs cs : List ℕ) → EachOldOrNew (replicate n 0) bs cs → Faded bs cs
faded zero [] [] m = m
faded zero [] (c ∷ cs) m = absurd m
faded zero (b ∷ bs) cs m = absurd m
faded (suc n) [] cs m = absurd m
faded (suc n) (b ∷ bs) [] m = absurd m
faded (suc n) (b ∷ bs) (c ∷ cs) m = (m.0, faded n bs cs m.1)

pub faded_long : (bs cs : List ℕ) → Faded bs cs → length cs ≡ length bs
faded_long [] [] f = refl
faded_long [] (c ∷ cs) f = absurd f
faded_long (b ∷ bs) [] f = absurd f
faded_long (b ∷ bs) (c ∷ cs) f = omega (arith, faded_long bs cs f.1)

-- where no byte is zero, none was lost
pub unfaded : (bs cs : List ℕ) → Faded bs cs → has_no_zero cs ≡ true → cs ≡ bs
unfaded [] [] f full = refl
unfaded [] (c ∷ cs) f full = absurd f
unfaded (b ∷ bs) [] f full = absurd f
unfaded (b ∷ bs) (c ∷ cs) f full =
    let both = and_parts (nat_le 1 c) (has_no_zero cs) full in
    let here : c ≡ b = ⊎_elim (λ (lost : c ≡ 0). absurd (omega (arith, lost, leb-true 1 c both.0))) (λ (e : c ≡ b). e) f.0 in
    let there : cs ≡ bs = unfaded bs cs f.1 both.1 in
    λ i. here i ∷ there i

pub faded_at : (bs cs : List ℕ) (i : ℕ) → Faded bs cs → i < length bs → 1 ≤ slice_index cs i → slice_index cs i ≡ slice_index bs i
faded_at [] cs i f below some = absurd (omega (arith, below))
faded_at (b ∷ bs) [] i f below some = absurd f
faded_at (b ∷ bs) (c ∷ cs) zero f below some = ⊎_elim (λ (lost : c ≡ 0). absurd (omega (arith, lost, some))) (λ (e : c ≡ b). e) f.0
faded_at (b ∷ bs) (c ∷ cs) (suc i) f below some = faded_at bs cs i f.1 (omega (arith, below)) some

pub faded_parts : (xs ys cs : List ℕ) → Faded (xs ++ ys) cs → Faded xs (take (length xs) cs) × Faded ys (drop (length xs) cs)
faded_parts [] ys cs f = (none, f)
  where
    none : Faded [] []
    none = search rules
faded_parts (x ∷ xs) ys [] f = absurd f
faded_parts (x ∷ xs) ys (c ∷ cs) f = let more = faded_parts xs ys cs f.1 in ((f.0, more.0), more.1)

-- ---- plain bytes

pub plain_at : (bytes : List ℕ) (i : ℕ) → is_plain bytes ≡ true → i < length bytes → 2 ≤ slice_index bytes i
plain_at [] i plain below = absurd (omega (arith, below))
plain_at (b ∷ bytes) zero plain below = leb-true 2 b (and_parts (nat_le 2 b) (is_plain bytes) plain).0
plain_at (b ∷ bytes) (suc i) plain below = plain_at bytes i (and_parts (nat_le 2 b) (is_plain bytes) plain).1 (omega (arith, below))

pub plain_no_zero : (bytes : List ℕ) → is_plain bytes ≡ true → has_no_zero bytes ≡ true
plain_no_zero [] plain = refl
plain_no_zero (b ∷ bytes) plain =
    let parts = and_parts (nat_le 2 b) (is_plain bytes) plain in
    and_from (nat_le 1 b) (has_no_zero bytes) (le-leb 1 b (omega (arith, leb-true 2 b parts.0))) (plain_no_zero bytes parts.1)

-- a search for the two tells whether there is one
none_nowhere : (bytes : List ℕ) → Nowhere (Passes (is_byte2 0 1) bytes) 0 (length bytes) → is_plain bytes ≡ true
none_nowhere [] nowhere = refl
none_nowhere (b ∷ bytes) nowhere =
    let not_zero : b ≡ 0 → ⊥ = λ is. nowhere 0 (omega arith) (omega arith) (ap (is_byte2 0 1) is) in
    let not_one : b ≡ 1 → ⊥ = λ is. nowhere 0 (omega arith) (omega arith) (ap (is_byte2 0 1) is) in
    let here : 2 ≤ b = omega (arith, not_zero, not_one) in
    and_from (nat_le 2 b) (is_plain bytes) (le-leb 2 b here) (none_nowhere bytes (λ k low high is. nowhere (suc k) (omega arith) (omega (arith, high)) is))

small : (x : ℕ) → is_byte2 0 1 x ≡ true → x < 2
small x is = ⊎_elim (λ (e : x ≡ 0). omega (arith, e)) (λ (not_zero : x ≡ 0 → ⊥). ⊎_elim (λ (e : x ≡ 1). omega (arith, e)) (λ (not_one : x ≡ 1 → ⊥). absurd (true≢false (sym is ∙ neither not_zero not_one))) (cases_eq x 1)) (cases_eq x 0)
  where
    neither : (x ≡ 0 → ⊥) → (x ≡ 1 → ⊥) → is_byte2 0 1 x ≡ false
    neither not_zero not_one =
        let no_zero : (x == 0) ≡ false = grind (arith, nat_tests, not_zero) in
        let no_one : (x == 1) ≡ false = grind (arith, nat_tests, not_one) in
        λ i. no_zero i || no_one i

some_low : (bytes : List ℕ) (k : ℕ) → k < length bytes → slice_index bytes k < 2 → is_plain bytes ≡ false
some_low bytes k below low = ⊎_elim (λ (plain : is_plain bytes ≡ true). absurd (omega (arith, plain_at bytes k plain below, low))) (λ (e : is_plain bytes ≡ false). e) (cases_Bool (is_plain bytes))

pub found_none : (bytes : List ℕ) (found : Option ℕ) (answer : Bool) → IsFirstByte (is_byte2 0 1) bytes found → is_some found ≡ not answer → answer ≡ is_plain bytes
found_none bytes None true nowhere is = sym (none_nowhere bytes nowhere)
found_none bytes None false nowhere is = absurd (true≢false (sym is))
found_none bytes (Some k) true first is = absurd (true≢false is)
found_none bytes (Some k) false first is = sym (some_low bytes k first.0.high (small (slice_index bytes k) first.1))

pub plain_behind : (n : ℕ) (bytes : List ℕ) → is_plain bytes ≡ true → is_plain (drop n bytes) ≡ true
plain_behind zero bytes plain = plain
plain_behind (suc n) [] plain = refl
plain_behind (suc n) (b ∷ bytes) plain = plain_behind n bytes (and_parts (nat_le 2 b) (is_plain bytes) plain).1

-- ---- bytes of which none is 1

not_one_from : (b : ℕ) → (b ≡ 1 → ⊥) → not (b == 1) ≡ true
not_one_from b never =
    let other : (b == 1) ≡ false = grind (arith, nat_tests, never) in
    ap not other

not_one_of : (b : ℕ) → not (b == 1) ≡ true → b ≡ 1 → ⊥
not_one_of b is one = true≢false (sym is ∙ ap (λ (x : ℕ). not (x == 1)) one)

pub no_one_zeros : (n : ℕ) → has_no_one (replicate n 0) ≡ true
no_one_zeros zero = refl
no_one_zeros (suc n) = no_one_zeros n

pub no_one_plain : (bytes : List ℕ) → is_plain bytes ≡ true → has_no_one bytes ≡ true
no_one_plain [] plain = refl
no_one_plain (b ∷ bytes) plain =
    let parts = and_parts (nat_le 2 b) (is_plain bytes) plain in
    and_from (not (b == 1)) (has_no_one bytes) (not_one_from b (λ one. omega (arith, one, leb-true 2 b parts.0))) (no_one_plain bytes parts.1)

pub no_one_append : (xs ys : List ℕ) → has_no_one xs ≡ true → has_no_one ys ≡ true → has_no_one (xs ++ ys) ≡ true
no_one_append [] ys none_xs none_ys = none_ys
no_one_append (x ∷ xs) ys none_xs none_ys =
    let parts = and_parts (not (x == 1)) (has_no_one xs) none_xs in
    and_from (not (x == 1)) (has_no_one (xs ++ ys)) parts.0 (no_one_append xs ys parts.1 none_ys)

pub no_one_behind : (n : ℕ) (bytes : List ℕ) → has_no_one bytes ≡ true → has_no_one (drop n bytes) ≡ true
no_one_behind zero bytes none = none
no_one_behind (suc n) [] none = refl
no_one_behind (suc n) (b ∷ bytes) none = no_one_behind n bytes (and_parts (not (b == 1)) (has_no_one bytes) none).1

pub no_one_drop_append : (n : ℕ) (xs ys : List ℕ) → has_no_one (drop n xs) ≡ true → has_no_one ys ≡ true → has_no_one (drop n (xs ++ ys)) ≡ true
no_one_drop_append zero xs ys none_xs none_ys = no_one_append xs ys none_xs none_ys
no_one_drop_append (suc n) [] ys none_xs none_ys = no_one_behind (suc n) ys none_ys
no_one_drop_append (suc n) (x ∷ xs) ys none_xs none_ys = no_one_drop_append n xs ys none_xs none_ys

-- of those behind some place a crash makes none 1
pub no_one_faded : (n : ℕ) (bs cs : List ℕ) → Faded bs cs → has_no_one (drop n bs) ≡ true → has_no_one (drop n cs) ≡ true
no_one_faded n [] [] f none = none
no_one_faded n [] (c ∷ cs) f none = absurd f
no_one_faded n (b ∷ bs) [] f none = absurd f
no_one_faded zero (b ∷ bs) (c ∷ cs) f none =
    let parts = and_parts (not (b == 1)) (has_no_one bs) none in
    let here : not (c == 1) ≡ true = ⊎_elim (λ (lost : c ≡ 0). ap (λ (x : ℕ). not (x == 1)) lost) (λ (e : c ≡ b). ap (λ (x : ℕ). not (x == 1)) e ∙ parts.0) f.0 in
    and_from (not (c == 1)) (has_no_one cs) here (no_one_faded zero bs cs f.1 parts.1)
no_one_faded (suc n) (b ∷ bs) (c ∷ cs) f none = no_one_faded n bs cs f.1 none

-- a search for a 1
no_one_nowhere : (bytes : List ℕ) → Nowhere (Passes (is_byte 1) bytes) 0 (length bytes) → has_no_one bytes ≡ true
no_one_nowhere [] nowhere = refl
no_one_nowhere (b ∷ bytes) nowhere =
    and_from (not (b == 1)) (has_no_one bytes) (not_one_from b (λ is. nowhere 0 (omega arith) (omega arith) (ap (is_byte 1) is))) (no_one_nowhere bytes (λ k low high is. nowhere (suc k) (omega arith) (omega (arith, high)) is))

no_one_at : (bytes : List ℕ) (i : ℕ) → has_no_one bytes ≡ true → i < length bytes → slice_index bytes i ≡ 1 → ⊥
no_one_at [] i none below is = omega (arith, below)
no_one_at (b ∷ bytes) zero none below is = not_one_of b (and_parts (not (b == 1)) (has_no_one bytes) none).0 is
no_one_at (b ∷ bytes) (suc i) none below is = no_one_at bytes i (and_parts (not (b == 1)) (has_no_one bytes) none).1 (omega (arith, below)) is

is_one : (x : ℕ) → is_byte 1 x ≡ true → x ≡ 1
is_one x is = grind (arith, nat_tests, is)

pub found_no_one : (bytes : List ℕ) (found : Option ℕ) (answer : Bool) → IsFirstByte (is_byte 1) bytes found → is_some found ≡ not answer → answer ≡ has_no_one bytes
found_no_one bytes None true nowhere is = sym (no_one_nowhere bytes nowhere)
found_no_one bytes None false nowhere is = absurd (true≢false (sym is))
found_no_one bytes (Some k) true first is = absurd (true≢false is)
found_no_one bytes (Some k) false first is =
    sym (⊎_elim (λ (none : has_no_one bytes ≡ true). absurd (no_one_at bytes k none first.0.high (is_one (slice_index bytes k) first.1))) (λ (e : has_no_one bytes ≡ false). e) (cases_Bool (has_no_one bytes)))
