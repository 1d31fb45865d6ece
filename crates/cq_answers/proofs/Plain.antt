-- Texts that JSON writes as they stand.
use Rattle.std.proofs.Common.{◌≡◌, ℕ, ◌+◌, ◌%◌, ◌<◌, ◌≤◌, ◌^◌, List, [], ◌∷◌, ◌++◌, decimal, refl, ap, sym, ◌∙◌, append_assoc, append-nil, arith}
use Rattle.std.proofs.lemmas.Fmt.{decimal_by_steps}
use Rattle.json.specs.Print.{escape, escape_byte}
use Rattle.json.proofs.Printed.Strings.{escape_byte_plain}

pub escape-more : (xs ys : List ℕ) → escape (xs ++ ys) ≡ escape xs ++ escape ys
escape-more [] ys = refl
escape-more (x ∷ xs) ys = ap (λ t. escape_byte x ++ t) (escape-more xs ys) ∙ sym (append_assoc (escape_byte x) (escape xs) (escape ys))

-- one byte more
pub plain-more : (xs : List ℕ) (x : ℕ) → escape xs ≡ xs → (x ≡ 34 → ⊥) → (x ≡ 92 → ⊥) → 32 ≤ x → escape (xs ++ x ∷ []) ≡ xs ++ x ∷ []
plain-more xs x is quote slash low =
    escape-more xs (x ∷ []) ∙ ap (λ t. t ++ (escape_byte x ++ [])) is
    ∙ ap (λ t. xs ++ t) (append-nil (escape_byte x) ∙ escape_byte_plain x quote slash low)

pub plain-decimal : (n : ℕ) → n < 2 ^ 64 → escape (decimal n) ≡ decimal n
plain-decimal = decimal_by_steps (λ m ds. escape ds ≡ ds)
    (λ m small. plain-more [] (48 + m) refl (λ e. omega arith) (λ e. omega arith) (omega arith))
    (λ m ds large is. plain-more ds (48 + m % 10) is (λ e. omega arith) (λ e. omega arith) (omega arith))

-- three texts with `-` between them, as a string
pub quoted-dashes : (a b c : List ℕ)
    → 34 ∷ (escape a ++ 45 ∷ (escape b ++ 45 ∷ (escape c ++ 34 ∷ []))) ≡ 34 ∷ (escape (a ++ 45 ∷ (b ++ 45 ∷ c)) ++ 34 ∷ [])
unfolding escape_byte
quoted-dashes a b c =
    ap (λ t. 34 ∷ t) (
    ap (λ t. escape a ++ 45 ∷ t) (
    sym (append_assoc (escape b) (45 ∷ escape c) (34 ∷ []))
    ∙ ap (λ t. t ++ 34 ∷ []) (sym (escape-more b (45 ∷ c))))
    ∙ sym (append_assoc (escape a) (45 ∷ escape (b ++ 45 ∷ c)) (34 ∷ []))
    ∙ ap (λ t. t ++ 34 ∷ []) (sym (escape-more a (45 ∷ (b ++ 45 ∷ c)))))
