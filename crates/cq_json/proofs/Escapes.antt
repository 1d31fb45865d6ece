-- The escapes of a string, read one after the other.
use Rattle.std.proofs.Common.{◌≡◌, ℕ, suc, ◌+◌, ◌*◌, ◌<◌, ◌≤◌, ◌&&◌, List, [], ◌∷◌, ◌++◌, length, take, drop, get_or, Bool, true, false, cond, Option, Some, None, refl, sym, ap, ap₂, ◌∙◌, arith, append_assoc, append-nil}
use Rattle.std.proofs.lemmas.Bool.{or_parts, and_parts, not-true, eqb-false, ltb-false, ne_eqb, le-ltb, lt-ltb}
use Rattle.std.proofs.lemmas.List.{drop_more}
use Rattle.std.proofs.lemmas.Str.{encode_ascii}
use Rattle.std.specs.Char.{is_digit, digit_value, encode_utf8}
use Rattle.std.specs.List.{prefix_len}
use Rattle.json.specs.Word.{is_operator, is_space}
use Rattle.json.specs.Text.{content, plain, after_u, after_high, prepend, code_unit, short_escape, is_high_surrogate, is_low_surrogate, surrogate_pair}
use Rattle.json.specs.Run.{is_plain}
use Rattle.json.specs.Lex.{Lexeme, Mode, token, string_token, lex, lex_byte, in_string, operator, space, other}
use Rattle.json.specs.Print.{quoted}
use Rattle.cq_json.specs.within.FlatText.{Spelled, SpelledFrom, IsUnit, Same}
use Rattle.cq_json.proofs.SameText.{lex-quoted}

-- ---- a run of plain bytes

stays_inside : (o s : Bool) (x : ℕ) (r : List ℕ) (k : Mode → List Lexeme) → lex_byte in_string (cond o operator (cond s space other)) x r k ≡ k in_string
stays_inside true s x r k = refl
stays_inside false true x r k = refl
stays_inside false false x r k = refl

inside : (x : ℕ) (r : List ℕ) → (x ≡ 34 → ⊥) → (x ≡ 92 → ⊥) → lex in_string (x ∷ r) ≡ lex in_string r
unfolding lex
inside x r quote slash = rw (ne_eqb x 34 quote, ne_eqb x 92 slash) (stays_inside (is_operator x) (is_space x) x r (λ m. lex m r))

as_it_stands : (x : ℕ) (r : List ℕ) → (x ≡ 34 → ⊥) → (x ≡ 92 → ⊥) → 32 ≤ x → content plain (x ∷ r) ≡ prepend (x ∷ []) (content plain r)
unfolding content
as_it_stands x r quote slash low = rw (ne_eqb x 34 quote, ne_eqb x 92 slash, le-ltb x 32 low)

prepend-nil : (o : Option (List ℕ)) → prepend [] o ≡ o
prepend-nil None = refl
prepend-nil (Some s) = refl

prepend-prepend : (a b : List ℕ) (o : Option (List ℕ)) → prepend a (prepend b o) ≡ prepend (a ++ b) o
prepend-prepend a b None = refl
prepend-prepend a b (Some s) = ap Some (sym (append_assoc a b s))

read_step : (p : Bool) (x n : ℕ) (xs : List ℕ) → p ≡ is_plain x → content plain xs ≡ prepend (take n xs) (content plain (drop n xs))
    → content plain (x ∷ xs) ≡ prepend (take (cond p (1 + n) 0) (x ∷ xs)) (content plain (drop (cond p (1 + n) 0) (x ∷ xs)))
read_step false x n xs e more = sym (prepend-nil _)
read_step true x n xs e more =
    let next : 1 + n ≡ suc n = omega arith in
    let stops = or_parts _ _ (not-true _ (sym e)) in
    let quotes = or_parts _ _ stops.0 in
    as_it_stands x xs (eqb-false x 34 quotes.0) (eqb-false x 92 quotes.1) (ltb-false x 32 stops.1) ∙ ap (prepend (x ∷ [])) more
    ∙ prepend-prepend (x ∷ []) (take n xs) _ ∙ ap (λ k. prepend (take k (x ∷ xs)) (content plain (drop k (x ∷ xs)))) (sym next)

content-run : (xs : List ℕ) → content plain xs ≡ prepend (take (prefix_len is_plain xs) xs) (content plain (drop (prefix_len is_plain xs) xs))
content-run [] = sym (prepend-nil _)
content-run (x ∷ xs) = read_step (is_plain x) x (prefix_len is_plain xs) xs refl (content-run xs)

run_step : (p : Bool) (x n : ℕ) (xs : List ℕ) → p ≡ is_plain x → lex in_string xs ≡ lex in_string (drop n xs) → lex in_string (x ∷ xs) ≡ lex in_string (drop (cond p (1 + n) 0) (x ∷ xs))
run_step false x n xs e more = refl
run_step true x n xs e more =
    let next : 1 + n ≡ suc n = omega arith in
    let stops = or_parts _ _ (not-true _ (sym e)) in
    let quotes = or_parts _ _ stops.0 in
    inside x xs (eqb-false x 34 quotes.0) (eqb-false x 92 quotes.1) ∙ more ∙ ap (λ k. lex in_string (drop k (x ∷ xs))) (sym next)

lex-run : (xs : List ℕ) → lex in_string xs ≡ lex in_string (drop (prefix_len is_plain xs) xs)
lex-run [] = refl
lex-run (x ∷ xs) = run_step (is_plain x) x (prefix_len is_plain xs) xs refl (lex-run xs)

-- the prefix whose bytes stand for themselves
pub run_spelled : (d : List ℕ) (n : ℕ) → n ≡ prefix_len is_plain d → n < length d → Spelled d (take n d) (get_or d n 0 ∷ drop (n + 1) d)
run_spelled d n is within =
    let rest : drop (prefix_len is_plain d) d ≡ get_or d n 0 ∷ drop (n + 1) d = ap (λ k. drop k d) (sym is) ∙ drop_more d n 0 within in
    (content-run d ∙ ap₂ (λ k t. prepend (take k d) (content plain t)) (sym is) rest, lex-run d ∙ ap (lex in_string) rest)

-- ---- one after the other

pub then : (text a b middle rest : List ℕ) → Spelled text a middle → Spelled middle b rest → Spelled text (a ++ b) rest
then text a b middle rest prefix behind =
    (prefix.0 ∙ ap (prepend a) behind.0 ∙ prepend-prepend a b (content plain rest), prefix.1 ∙ behind.1)

-- ---- the end

pub closed : (text bytes rest : List ℕ) → Spelled text bytes (34 ∷ rest) → Same (34 ∷ text) (quoted bytes ++ rest)
unfolding lex content
closed text bytes rest spelled =
    ap₂ (λ o l. token (string_token o) ∷ l) (spelled.0 ∙ ap Some (append-nil bytes)) spelled.1 ∙ sym (lex-quoted bytes rest)

-- ---- escapes

pub short_spelled : (text rest : List ℕ) (letter c : ℕ) → text ≡ letter ∷ rest → short_escape letter ≡ Some c → c < 128 → (letter ≡ 117 → ⊥) → Spelled (92 ∷ text) (encode_utf8 c) rest
unfolding lex content
short_spelled text rest letter c is short ascii no_number =
    (ap (λ t. content plain (92 ∷ t)) is ∙ rw (ne_eqb letter 117 no_number, short, encode_ascii c ascii) refl, ap (λ t. lex in_string (92 ∷ t)) is)

pub numbered_spelled : (text rest bytes : List ℕ) → SpelledFrom after_u text bytes rest → Spelled (92 ∷ 117 ∷ text) bytes rest
unfolding lex content
numbered_spelled text rest bytes spelled = spelled

hex_inside : (x : ℕ) (r : List ℕ) → is_digit x 16 ≡ true → lex in_string (x ∷ r) ≡ lex in_string r
hex_inside x r digit = inside x r (λ e. grind (arith, e, digit)) (λ e. grind (arith, e, digit))

four : (d : List ℕ) → 4 ≤ length d → d ≡ get_or d 0 0 ∷ get_or d 1 0 ∷ get_or d 2 0 ∷ get_or d 3 0 ∷ drop 4 d
four [] long = absurd (omega (arith, long))
four (a ∷ []) long = absurd (omega (arith, long))
four (a ∷ b ∷ []) long = absurd (omega (arith, long))
four (a ∷ b ∷ c ∷ []) long = absurd (omega (arith, long))
four (a ∷ b ∷ c ∷ d ∷ ds) long = refl

all_hex : (b : Bool) (v u : ℕ) → cond b (Some v) None ≡ Some u → b ≡ true
all_hex true v u is = refl
all_hex false v u is = absurd (cc)

unit_inside : (a b c d u : ℕ) (r : List ℕ) → code_unit a b c d ≡ Some u → lex in_string (a ∷ b ∷ c ∷ d ∷ r) ≡ lex in_string r
unfolding code_unit
unit_inside a b c d u r is =
    let p = and_parts (is_digit a 16 && is_digit b 16 && is_digit c 16) (is_digit d 16) (all_hex _ _ u is) in
    let q = and_parts (is_digit a 16 && is_digit b 16) (is_digit c 16) p.0 in
    let o = and_parts (is_digit a 16) (is_digit b 16) q.0 in
    hex_inside a _ o.0 ∙ hex_inside b _ o.1 ∙ hex_inside c _ q.1 ∙ hex_inside d r p.1

pub unit_lexed : (text rest : List ℕ) (u : ℕ) → IsUnit text u rest → lex in_string text ≡ lex in_string rest
unit_lexed text rest u unit =
    ap (lex in_string) (four text unit.0)
    ∙ unit_inside (get_or text 0 0) (get_or text 1 0) (get_or text 2 0) (get_or text 3 0) u (drop 4 text) unit.1.0
    ∙ ap (lex in_string) (sym unit.1.1)

pub unit_of : (a b c d : ℕ) → digit_value a < 16 → digit_value b < 16 → digit_value c < 16 → digit_value d < 16
    → code_unit a b c d ≡ Some (digit_value a * 4096 + digit_value b * 256 + digit_value c * 16 + digit_value d)
unfolding code_unit
unit_of a b c d first second third fourth = rw (lt-ltb (digit_value a) 16 first, lt-ltb (digit_value b) 16 second, lt-ltb (digit_value c) 16 third, lt-ltb (digit_value d) 16 fourth) refl

pub digit_ascii : (x : ℕ) → digit_value x < 16 → x < 128
digit_ascii x digit = grind (arith, digit)

-- a unit that is a character by itself
pub alone_spelled : (text rest : List ℕ) (u : ℕ) → IsUnit text u rest → is_high_surrogate u ≡ false → is_low_surrogate u ≡ false → SpelledFrom after_u text (encode_utf8 u) rest
unfolding content
alone_spelled text rest u unit high low =
    (ap (content after_u) (four text unit.0) ∙ rw (unit.1.0, high, low) (ap (λ t. prepend (encode_utf8 u) (content plain t)) (sym unit.1.1)), unit_lexed text rest u unit)

-- the first half of a pair
pub high_spelled : (text middle rest bytes : List ℕ) (u : ℕ) → IsUnit text u middle → is_high_surrogate u ≡ true → SpelledFrom (after_high u) middle bytes rest → SpelledFrom after_u text bytes rest
unfolding content
high_spelled text middle rest bytes u unit high behind =
    (ap (content after_u) (four text unit.0) ∙ rw (unit.1.0, high) (ap (content (after_high u)) (sym unit.1.1) ∙ behind.0), unit_lexed text middle u unit ∙ behind.1)

-- and the second
pub low_spelled : (text digits rest : List ℕ) (high low : ℕ) → text ≡ 92 ∷ 117 ∷ digits → IsUnit digits low rest → is_low_surrogate low ≡ true
    → SpelledFrom (after_high high) text (encode_utf8 (surrogate_pair high low)) rest
unfolding content lex
low_spelled text digits rest high low is unit second = (
  ap (content (after_high high)) (is ∙ ap (λ t. 92 ∷ 117 ∷ t) (four digits unit.0))
      ∙ rw (unit.1.0, second) (ap (λ t. prepend (encode_utf8 (surrogate_pair high low)) (content plain t)) (sym unit.1.1)),
  ap (lex in_string) is ∙ unit_lexed digits rest low unit,
)
