-- What the numbers of a handle and its text are to `parse`, `split_once` and `from_utf8`.
use Rattle.std.proofs.Common.{◌≡◌, ◌≢◌, ℕ, ◌<◌, List, ◌∷◌, ◌++◌, length, get_or, Option, Some, None, Result, Ok, Err, MatchOption, MatchResult, IfSome, IfNone, Bor, IsUtf8, decimal, arith, ap, sym, ◌∙◌, ⊎_elim, eq-zero-or-pos}
use Rattle.std.specs.Result.{result_ok}
use Rattle.std.specs.Str.Parse.{AllDigits, digits_value, ParsesUnsigned}
use Rattle.std.proofs.lemmas.Str.{IsUtf8-from_ascii, IsAscii-append}
use Rattle.std.proofs.lemmas.Str.Ascii.{IsAscii-cons}
use Rattle.std.proofs.lemmas.Str.Parse.{IsNumeralModel, numerals_by_value, tells_digits, not_in_digits, parse_plain}
use Rattle.std.proofs.lemmas.Str.Pattern.{IsSplitOnceResult, split_after}
use Rattle.std.proofs.lemmas.Option.{same_Some}
use Rattle.std.proofs.lemmas.Fmt.{IsAscii-decimal, decimal_digit, decimal-digits_value, digits_decimal, first_decimal, parse-decimal, decimal_injective}
use Rattle.cq_base.specs.Handle.{Handle, IsHandle, IsHandleNumber, handle_text}

-- the digits of a text, and the number that they are
own : IsNumeralModel (AllDigits 10) (digits_value 10)
own = numerals_by_value (AllDigits 10) tells_digits

-- a text that begins with no `0` is not that of 0
positive : (n : ℕ) (bs : List ℕ) → bs ≡ decimal n → get_or bs 0 0 ≢ 48 → 0 < n
positive n bs e zero = ⊎_elim
    (λ z. absurd (zero (cc (ap decimal z, decimal_digit 0 (omega arith)))))
    (λ p. p)
    (eq-zero-or-pos n)

-- what is read of a text: the number of a handle that it is in decimal, or none if it is of no such number
pub record ReadsNumber (bs : List ℕ) (read : Option ℕ) : Type 0 where
  pub found : IfSome read (λ n. bs ≡ decimal n)
  pub in_range : IfSome read IsHandleNumber
  pub none : IfNone read ((n : ℕ) → IsHandleNumber n → bs ≢ decimal n)

-- `parse` reads so a text that begins with no `+` and no `0`
pub ReadsNumber-parse : {E : Type 0} (bs : List ℕ) (r : Result ℕ E) → ParsesUnsigned 64 10 bs r → get_or bs 0 0 ≢ 43 → get_or bs 0 0 ≢ 48
    → ReadsNumber bs (result_ok r)
ReadsNumber-parse {E} bs (Ok x) h plus zero =
    let read = parse_plain own {E = E} 64 bs (Ok x) h plus in
    let text : bs ≡ decimal x = rw read.1 (sym (decimal-digits_value own bs read.0.0 read.0.1 (λ e. absurd (zero e)) read.0.2)) in
    record { found = text; in_range = (positive x bs text zero, rw read.1 read.0.2); none = tt }
ReadsNumber-parse {E} bs (Err e) h plus zero = record {
  found = tt;
  in_range = tt;
  none = λ n fits text. absurd (cc (parse-decimal {E = E} 64 n bs (Err e) fits.1 fits.1 text h));
}

-- the text of such a number begins with no `+` and no `0`
pub first_byte : (n : ℕ) (bs : List ℕ) → IsHandleNumber n → bs ≡ decimal n → 48 < get_or bs 0 0
first_byte n bs fits text = rw text (first_decimal n fits.0 fits.1)

-- and has no `-`
no_dash : (n : ℕ) → IsHandleNumber n → (i : ℕ) → i < length (decimal n) → get_or (decimal n) i 0 ≢ 45
no_dash n fits = not_in_digits own (decimal n) 45 (digits_decimal own n fits.1) (λ within. absurd (omega arith))

-- `split_once` at `-` gives the first number of a text of numbers, and what follows
pub split_at_dash : (n : ℕ) (bs rest : List ℕ) (r : Option (Bor (List ℕ) × Bor (List ℕ))) → IsHandleNumber n → IsSplitOnceResult 45 bs r → bs ≡ decimal n ++ 45 ∷ rest
    → MatchOption r ⊥ (λ x. (x.0.now ≡ decimal n) × (x.1.now ≡ rest))
split_at_dash n bs rest r fits h text = split_after 45 bs (decimal n) rest r h (omega arith) text (no_dash n fits)

-- and two calls give the three numbers of a handle's text
pub split_handle : (h : Handle) (bs : List ℕ) (incarnation rest sequence handing : Bor (List ℕ)) → IsHandle h → bs ≡ handle_text h
    → IsSplitOnceResult 45 bs (Some (incarnation, rest)) → IsSplitOnceResult 45 rest.now (Some (sequence, handing))
    → (incarnation.now ≡ decimal h.incarnation) × (sequence.now ≡ decimal h.sequence) × (handing.now ≡ decimal h.handing)
split_handle h bs incarnation rest sequence handing fits text first second =
    let prefix = split_at_dash h.incarnation bs (decimal h.sequence ++ 45 ∷ decimal h.handing) (Some (incarnation, rest)) fits.incarnation first text in
    let back = split_at_dash h.sequence rest.now (decimal h.handing) (Some (sequence, handing)) fits.sequence second prefix.1 in
    (prefix.0, back.0, back.1)

-- two numbers with one text are one number
pub same_number : (m n : ℕ) (bs : List ℕ) → IsHandleNumber m → IsHandleNumber n → bs ≡ decimal m → bs ≡ decimal n → m ≡ n
same_number m n bs m_fits n_fits of_m of_n = decimal_injective m n m_fits.1 n_fits.1 (sym of_m ∙ of_n)

-- two handles with the same numbers are one handle
pub same_handle : (g h : Handle) → g.incarnation ≡ h.incarnation → g.sequence ≡ h.sequence → g.handing ≡ h.handing → g ≡ h
same_handle g h incarnation sequence handing =
    let with : ℕ → ℕ → ℕ → Handle = λ i s n. record { incarnation = i; sequence = s; handing = n } in
    let same : with g.incarnation g.sequence g.handing ≡ with h.incarnation h.sequence h.handing = cc in
    same

-- a handle's text is text
IsUtf8-handle_text : (h : Handle) → IsHandle h → IsUtf8 (handle_text h)
IsUtf8-handle_text h fits = IsUtf8-from_ascii (handle_text h)
    (IsAscii-append _ _ (IsAscii-decimal h.incarnation fits.incarnation.1) (IsAscii-cons 45 _ (omega arith)
    (IsAscii-append _ _ (IsAscii-decimal h.sequence fits.sequence.1) (IsAscii-cons 45 _ (omega arith)
    (IsAscii-decimal h.handing fits.handing.1)))))

-- the text that `from_utf8` gives of bytes that are a handle's text is that text
pub text_from_utf8 : {E : Type 0} (Q : E → Type 0) (h : Handle) (bs : List ℕ) (text : Bor (List ℕ)) (r : Result (Bor (List ℕ)) E)
    → MatchResult r (λ s. (s.now ≡ bs) × IsUtf8 bs) Q → Some text ≡ result_ok r → bs ≡ handle_text h → text.now ≡ handle_text h
text_from_utf8 Q h bs text (Ok s) read e of_handle = ap (λ (t : Bor (List ℕ)). t.now) (same_Some text s e) ∙ (read.0 ∙ of_handle)
text_from_utf8 Q h bs text (Err _) read e of_handle = cc

-- and it gives one for each handle
pub text_for_handle : {E : Type 0} (Q : E → Type 0) (h : Handle) (bs : List ℕ) (r : Result (Bor (List ℕ)) E) → IsHandle h
    → MatchResult r (λ s. (s.now ≡ bs) × IsUtf8 bs) (λ e. ¬ IsUtf8 bs × Q e) → None ≡ result_ok r → bs ≢ handle_text h
text_for_handle Q h bs (Ok s) fits read e of_handle = cc
text_for_handle Q h bs (Err e) fits read _ of_handle = read.0 (rw of_handle (IsUtf8-handle_text h fits))
