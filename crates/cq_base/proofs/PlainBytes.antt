-- The bytes of a text tell that a body may have each of its characters.
use Rattle.std.proofs.Common.{◌≡◌, ℕ, ap, ◌+◌, ◌-◌, ◌<◌, ◌≤◌, List, [], ◌∷◌, ◌++◌, true, length, get_or, refl, subst, sym, ◌∙◌, ⊎_elim, arith, length-append}
use Rattle.std.proofs.lemmas.Bool.Decides.{nat_tests}
use Rattle.std.proofs.lemmas.Bool.{and_from, and_parts, cases_lt}
use Rattle.std.proofs.lemmas.List.{get_or-append-add, get_or_append_left}
use Rattle.std.proofs.lemmas.Str.{length-encode, len_utf8_bounds, encodes-chars, scalars-chars}
use Rattle.std.proofs.Math.Utf8.{encode, encodes, scalar, scalars}
use Rattle.std.specs.List.{list_all}
use Rattle.std.specs.Str.{IsUtf8, chars}
use Rattle.cq_base.specs.Texts.{is_body_character, has_body_characters}
use Rattle.cq_base.specs.within.PlainBytes.{IsPlain}

-- the byte at k is plain, behind those before it
abbrev pub IsPlainAt : List ℕ → ℕ → Type 0
IsPlainAt bytes k = (is_body_character (get_or bytes k 0) ≡ true)
    × (2 ≤ k → get_or bytes (k - 2) 0 ≡ 0xEF → get_or bytes (k - 1) 0 ≡ 0xBF → 0xBE ≤ get_or bytes k 0 → get_or bytes k 0 ≤ 0xBF → ⊥)

-- so are the first n bytes
abbrev pub ArePlain : List ℕ → ℕ → Type 0
ArePlain bytes n = (k : ℕ) → k < n → IsPlainAt bytes k

not_fffe : (rest : List ℕ) → ArePlain (encode 0xFFFE ++ rest) 3 → ⊥
unfolding encode
not_fffe rest plain = (plain 2 (omega arith)).1 (omega arith) refl refl (omega arith) (omega arith)

not_ffff : (rest : List ℕ) → ArePlain (encode 0xFFFF ++ rest) 3 → ⊥
unfolding encode
not_ffff rest plain = (plain 2 (omega arith)).1 (omega arith) refl refl (omega arith) (omega arith)

long_enough : (c : ℕ) → 0xFFFE ≤ c → c ≤ 0xFFFF → length (encode c) ≡ 3
unfolding encode
long_enough c low high = grind (arith, nat_tests)

-- a character that begins with a byte that isn't a bad control
other : (c : ℕ) → scalar c ≡ true → is_body_character (get_or (encode c) 0 0) ≡ true → (c ≡ 0xFFFE → ⊥) → (c ≡ 0xFFFF → ⊥) → is_body_character c ≡ true
unfolding encode
other c s good low high = grind (arith, nat_tests)

first : (c : ℕ) (rest : List ℕ) → scalar c ≡ true → ArePlain (encode c ++ rest) (length (encode c)) → is_body_character c ≡ true
first c rest s plain =
    let some : 0 < length (encode c) = omega (arith, length-encode c, len_utf8_bounds c) in
    let prefix : get_or (encode c ++ rest) 0 0 ≡ get_or (encode c) 0 0 = get_or_append_left (encode c) rest 0 0 some in
    let of_length = λ (d : ℕ) (is : c ≡ d) (long : length (encode c) ≡ 3). subst (λ n. ArePlain (encode d ++ rest) n) long
    (subst (λ x. ArePlain (encode x ++ rest) (length (encode c))) is plain) in
    other c s (subst (λ b. is_body_character b ≡ true) prefix (plain 0 some).0)
    (λ is. not_fffe rest (of_length 0xFFFE is (long_enough c (omega (arith, is)) (omega (arith, is)))))
    (λ is. not_ffff rest (of_length 0xFFFF is (long_enough c (omega (arith, is)) (omega (arith, is)))))

-- a plain byte behind a character is plain in what follows the character
shifted : (e rest : List ℕ) (k : ℕ) → IsPlainAt (e ++ rest) (length e + k) → IsPlainAt rest k
shifted e rest k plain =
    let at = get_or-append-add e rest k 0 in (
      subst (λ b. is_body_character b ≡ true) at plain.0,
      λ two one_before zero_before low high. plain.1 (omega (arith, two))
          (ap (λ n. get_or (e ++ rest) n 0) (omega (arith, two)) ∙ get_or-append-add e rest (k - 2) 0 ∙ one_before)
          (ap (λ n. get_or (e ++ rest) n 0) (omega (arith, two)) ∙ get_or-append-add e rest (k - 1) 0 ∙ zero_before)
          (omega (arith, at, low))
          (omega (arith, at, high)),
    )

of_characters : (cs : List ℕ) → scalars cs ≡ true → ArePlain (encodes cs) (length (encodes cs)) → list_all is_body_character cs ≡ true
of_characters [] s plain = refl
of_characters (c ∷ cs) s plain =
    let parts = and_parts (scalar c) (scalars cs) s in
    let e = encode c in
    let rest = encodes cs in
    let long = length-append e rest in
    and_from (is_body_character c) (list_all is_body_character cs)
    (first c rest parts.0 (λ k below. plain k (omega (arith, below, long))))
    (of_characters cs parts.1 (λ k below. shifted e rest k (plain (length e + k) (omega (arith, below, long)))))

-- a text of plain bytes alone
pub plain_text : (bytes : List ℕ) → IsUtf8 bytes → ArePlain bytes (length bytes) → has_body_characters bytes ≡ true
plain_text bytes utf8 plain = of_characters (chars bytes) (scalars-chars bytes utf8) (subst (λ t. ArePlain t (length t)) (sym (encodes-chars bytes utf8)) plain)

-- where the first byte may stand in a body
pub first_plain : (bytes : List ℕ) → is_body_character (get_or bytes 0 0) ≡ true → ArePlain bytes 1
first_plain bytes good k below =
    let is : 0 ≡ k = omega (arith, below) in
    (subst (λ n. is_body_character (get_or bytes n 0) ≡ true) is good, λ two. absurd (omega (arith, two, below)))

-- where the first bytes are plain, and those behind them up to a place
pub with_more : (bytes : List ℕ) (from to : ℕ) → ArePlain bytes from
    → ((k : ℕ) → from ≤ k → k < to → IsPlain (get_or bytes (k - 2) 0) (get_or bytes (k - 1) 0) (get_or bytes k 0)) → ArePlain bytes to
with_more bytes from to before more k below = ⊎_elim
    (λ early. before k early)
    (λ late. let plain = more k late below in (plain.0, λ two. plain.1))
    (cases_lt k from)
