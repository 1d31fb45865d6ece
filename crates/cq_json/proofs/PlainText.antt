-- Bytes that stand for themselves in a string.
use Rattle.std.proofs.Common.{◌≡◌, ℕ, suc, ◌+◌, ◌≤◌, List, [], ◌∷◌, ◌++◌, length, take, Bool, true, false, cond, refl, sym, ap, ap₂, ◌∙◌, arith}
use Rattle.std.proofs.lemmas.Bool.{or_parts, not-true, eqb-false, ltb-false}
use Rattle.std.proofs.lemmas.List.Sums.{prefix_len-le-length}
use Rattle.std.specs.List.{prefix_len}
use Rattle.json.specs.Run.{is_plain}
use Rattle.json.specs.Print.{escape}
use Rattle.json.proofs.Printed.Strings.{escape_byte_plain}

plain_step : (p : Bool) (x n : ℕ) (xs : List ℕ) → p ≡ is_plain x → escape (take n xs) ≡ take n xs → escape (take (cond p (1 + n) 0) (x ∷ xs)) ≡ take (cond p (1 + n) 0) (x ∷ xs)
plain_step false x n xs e prefix = refl
plain_step true x n xs e prefix =
    let next : 1 + n ≡ suc n = omega arith in
    let stops = or_parts _ _ (not-true _ (sym e)) in
    let quotes = or_parts _ _ stops.0 in
    ap (λ k. escape (take k (x ∷ xs))) next
    ∙ ap₂ (λ a b. a ++ b) (escape_byte_plain x (eqb-false x 34 quotes.0) (eqb-false x 92 quotes.1) (ltb-false x 32 stops.1)) prefix
    ∙ ap (λ k. take k (x ∷ xs)) (sym next)

-- the prefix of plain bytes is written as it stands
pub escape_plain : (xs : List ℕ) → escape (take (prefix_len is_plain xs) xs) ≡ take (prefix_len is_plain xs) xs
escape_plain [] = refl
escape_plain (x ∷ xs) = plain_step (is_plain x) x (prefix_len is_plain xs) xs refl (escape_plain xs)

-- it is no longer than the text
pub plain_within : (xs : List ℕ) → prefix_len is_plain xs ≤ length xs
plain_within = prefix_len-le-length is_plain
