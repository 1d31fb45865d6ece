-- An id that is made of a body keeps the rule of ids: it is 64 letters and digits.
use Rattle.std.proofs.Common.{◌≡◌, ℕ, zero, suc, ◌*◌, ◌/◌, ◌%◌, ◌<◌, ◌∙◌, ap, List, [], ◌∷◌, ◌++◌, length, Bool, ◌&&◌, true, inl, inr, refl, arith}
use Rattle.std.specs.Prelude.{slice_index}
use Rattle.std.specs.Int.{to_be_bytes, w32}
use Rattle.std.specs.List.{list_all}
use Rattle.std.proofs.lemmas.Bool.{and_parts, and_from, cases_lt}
use Rattle.hex.specs.Hex.{lower_digits, encode_with, encode_lower}
use Rattle.hex.proofs.HexLemmas.{length-encode_with}
use Rattle.sha2.specs.Sha256.{initial_hash_256, digest_bytes, final_hash, sha256}
use Rattle.sha2.proofs.Facts256.{length-sha256}
use Rattle.cq_base.specs.Texts.{is_within, is_id, made_id}

-- each of the list is a byte
abbrev AreBytes : List ℕ → Type 0
AreBytes [] = Unit
AreBytes (b ∷ rest) = (b < 256) × AreBytes rest

bytes-append : (xs ys : List ℕ) → AreBytes xs → AreBytes ys → AreBytes (xs ++ ys)
bytes-append [] ys left right = right
bytes-append (x ∷ xs) ys left right = (left.0, bytes-append xs ys left.1 right)

-- the bytes of a word
word_bytes : (x : ℕ) → AreBytes (to_be_bytes w32 x)
word_bytes x = (omega arith, (omega arith, (omega arith, (omega arith, tt))))

-- those of the words of a hash value
hash_bytes : (h : List ℕ) (n : ℕ) → AreBytes (digest_bytes h n)
unfolding digest_bytes
hash_bytes h zero = tt
hash_bytes h (suc n) = bytes-append (digest_bytes h n) (to_be_bytes w32 (slice_index h n)) (hash_bytes h n) (word_bytes (slice_index h n))

-- those of a digest
digest_has_bytes : (message : List ℕ) → AreBytes (sha256 message)
unfolding sha256
digest_has_bytes message = hash_bytes (final_hash initial_hash_256 message) 8

-- the digit at that place is a byte of an id
abbrev is_good : ℕ → Bool
is_good d = is_within 33 126 (slice_index lower_digits d)

-- so are the first n digits
abbrev are_good : ℕ → Bool
are_good zero = true
are_good (suc n) = is_good n && are_good n

good_below : (n d : ℕ) → are_good n ≡ true → d < n → is_good d ≡ true
good_below zero d all less = absurd (omega arith)
good_below (suc n) d all less =
    let parts = and_parts (is_good n) (are_good n) all in
    elim (cases_lt d n) [
      | inl below ↦ good_below n d parts.1 below
      | inr top ↦ let e : d ≡ n = omega arith in rw e parts.0
    ]

good : (d : ℕ) → d < 16 → is_good d ≡ true
good d less = good_below 16 d refl less

-- the digits of bytes are bytes of an id
good_digits : (bytes : List ℕ) → AreBytes bytes → list_all (is_within 33 126) (encode_lower bytes) ≡ true
unfolding encode_with
good_digits [] fits = refl
good_digits (b ∷ rest) fits =
    let small : b < 256 = fits.0 in
    let high : b / 16 < 16 = omega arith in
    let low : b % 16 < 16 = omega arith in
    and_from _ _ (good (b / 16) high) (and_from _ _ (good (b % 16) low) (good_digits rest fits.1))

-- it has 64 bytes
length-made : (body : List ℕ) → length (made_id body) ≡ 64
length-made body = length-encode_with lower_digits (sha256 body) ∙ ap (λ n. 2 * n) (length-sha256 body)

-- it is an id
pub made_is_id : (body : List ℕ) → is_id (made_id body) ≡ true
made_is_id body = let long = length-made body in
    rw long (good_digits (sha256 body) (digest_has_bytes body))
