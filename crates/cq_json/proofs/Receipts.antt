-- The receipt handle that a text is, is the one whose text it is.
use Rattle.std.proofs.Common.{◌≡◌, ◌≢◌, ◌↔◌, ℕ, ◌+◌, ◌&&◌, if◌then◌else◌, List, ◌∷◌, ◌++◌, length, get_or, take, drop, Bool, true, false, Result, Ok, Err, decimal, arith, refl, ap, sym, ◌∙◌, length-append}
use Rattle.std.specs.List.{before_first, after_first, position_or_len}
use Rattle.std.specs.Str.{bytes_eq}
use Rattle.std.specs.Str.Parse.{AllDigits, digits_value}
use Rattle.std.proofs.lemmas.Str.Parse.{IsNumeralModel, numerals_by_value, tells_digits, not_in_digits}
use Rattle.std.proofs.lemmas.Fmt.{digits_decimal, digits_value-decimal}
use Rattle.std.proofs.lemmas.List.Sums.{position_or_len_is}
use Rattle.std.proofs.lemmas.List.{get_or_append_left}
use Rattle.std.proofs.Math.Seq.{get_or-append_seam, take-append_seam, drop-append-add}
use Rattle.std.proofs.lemmas.Slice.Eq.{bytes_eq-Decides}
use Rattle.std.proofs.lemmas.Bool.Decides.{nat_tests}
use borrow.Author.Tests.{ne_eqb, eq-eqb}
use Rattle.cq_base.specs.Handle.{Handle, IsHandle, IsHandleNumber, handle_text}
use Rattle.cq_base.proofs.HandleTexts.{same_handle}
use Rattle.cq_json.specs.Fields.{Reason, bad}
use Rattle.cq_json.specs.Receipts.{is_hyphen, handle_in, is_handle_number, is_handle, is_text_of, receipt_handle}

own : IsNumeralModel (AllDigits 10) (digits_value 10)
own = numerals_by_value (AllDigits 10) tells_digits

-- a number has no hyphen, so the first one stands behind it
hyphen_after : (n : ℕ) (rest : List ℕ) → IsHandleNumber n → position_or_len is_hyphen (decimal n ++ 45 ∷ rest) ≡ length (decimal n)
hyphen_after n rest fits = position_or_len_is is_hyphen (decimal n ++ 45 ∷ rest) (length (decimal n)) 0
    (omega (arith, length-append (decimal n) (45 ∷ rest)))
    (λ k l. ne_eqb (get_or (decimal n ++ 45 ∷ rest) k 0) 45 (λ e. not_in_digits own (decimal n) 45 (digits_decimal own n fits.1) (λ within. absurd (omega arith)) k l
    (sym (get_or_append_left (decimal n) (45 ∷ rest) 0 k l) ∙ e)))
    (λ _. eq-eqb _ 45 (get_or-append_seam (decimal n) 45 rest 0))

before_hyphen : (n : ℕ) (rest : List ℕ) → IsHandleNumber n → before_first is_hyphen (decimal n ++ 45 ∷ rest) ≡ decimal n
before_hyphen n rest fits = ap (λ k. take k (decimal n ++ 45 ∷ rest)) (hyphen_after n rest fits) ∙ take-append_seam (decimal n) (45 ∷ rest)

after_hyphen : (n : ℕ) (rest : List ℕ) → IsHandleNumber n → after_first is_hyphen (decimal n ++ 45 ∷ rest) ≡ rest
after_hyphen n rest fits = ap (λ k. drop (k + 1) (decimal n ++ 45 ∷ rest)) (hyphen_after n rest fits) ∙ drop-append-add (decimal n) (45 ∷ rest) 1

value_of : (n : ℕ) → IsHandleNumber n → digits_value 10 (decimal n) ≡ n
value_of n fits = digits_value-decimal own n fits.1

-- the handle that is read of a handle's text is that handle
handle_in-text : (h : Handle) → IsHandle h → handle_in (handle_text h) ≡ h
unfolding handle_in
handle_in-text h fits =
    let rest : List ℕ = decimal h.sequence ++ 45 ∷ decimal h.handing in
    let behind : after_first is_hyphen (handle_text h) ≡ rest = after_hyphen h.incarnation rest fits.incarnation in
    same_handle _ h
    (ap (λ ds. digits_value 10 ds) (before_hyphen h.incarnation rest fits.incarnation) ∙ value_of h.incarnation fits.incarnation)
    (ap (λ text. digits_value 10 (before_first is_hyphen text)) behind ∙ ap (λ ds. digits_value 10 ds) (before_hyphen h.sequence (decimal h.handing) fits.sequence) ∙ value_of h.sequence fits.sequence)
    (ap (λ text. digits_value 10 (after_first is_hyphen text)) behind ∙ ap (λ ds. digits_value 10 ds) (after_hyphen h.sequence (decimal h.handing) fits.sequence) ∙ value_of h.handing fits.handing)

-- tests and what they test
both : (a b : Bool) → (a && b) ≡ true → (a ≡ true) × (b ≡ true)
both true true e = (refl, refl)
both true false e = cc
both false b e = cc

number_passes : (n : ℕ) → IsHandleNumber n → is_handle_number n ≡ true
number_passes n fits = grind (arith, nat_tests)

number_fits : (n : ℕ) → is_handle_number n ≡ true → IsHandleNumber n
number_fits n passes = grind (arith, nat_tests)

handle_passes : (h : Handle) → IsHandle h → is_handle h ≡ true
handle_passes h fits = rw (number_passes h.incarnation fits.incarnation, number_passes h.sequence fits.sequence, number_passes h.handing fits.handing)

handle_fits : (h : Handle) → is_handle h ≡ true → IsHandle h
handle_fits h passes =
    let last = both (is_handle_number h.incarnation && is_handle_number h.sequence) (is_handle_number h.handing) passes in
    let prefix = both (is_handle_number h.incarnation) (is_handle_number h.sequence) last.0 in
    record {
      incarnation = number_fits h.incarnation prefix.0;
      sequence = number_fits h.sequence prefix.1;
      handing = number_fits h.handing last.1;
    }

text_passes : (h : Handle) (text : List ℕ) → IsHandle h → text ≡ handle_text h → is_text_of h text ≡ true
text_passes h text fits is = rw (handle_passes h fits, (bytes_eq-Decides text (handle_text h)).1 is)

text_fits : (h : Handle) (text : List ℕ) → is_text_of h text ≡ true → IsHandle h × (text ≡ handle_text h)
text_fits h text passes =
    let parts = both (is_handle h) (bytes_eq text (handle_text h)) passes in
    (handle_fits h parts.0, (bytes_eq-Decides text (handle_text h)).0 parts.1)

-- the handle, where it passes its test
abbrev if_passes : Bool → Handle → Result Handle Reason
if_passes b g = if b then Ok g else Err bad

taken : (b : Bool) (g h : Handle) → if_passes b g ≡ Ok h → (b ≡ true) × (g ≡ h)
taken true g h e = (refl, cc)
taken false g h e = cc

not_taken : (b : Bool) (g : Handle) (text : List ℕ) → is_text_of g text ≡ b → ((h : Handle) → IsHandle h → text ≢ handle_text h)
    → if_passes b g ≡ Err bad
not_taken true g text passes none = let fits = text_fits g text passes in absurd (none g fits.0 fits.1)
not_taken false g text passes none = refl

-- a text is read as the handle whose text it is
pub receipt_found : (h : Handle) (text : List ℕ) → IsHandle h → text ≡ handle_text h → receipt_handle text ≡ Ok h
unfolding receipt_handle
receipt_found h text fits is =
    let e : handle_in text ≡ h = ap handle_in is ∙ handle_in-text h fits in
    rw (e, text_passes h text fits is)

-- and as no other
pub receipt_only : (h : Handle) (text : List ℕ) → receipt_handle text ≡ Ok h → IsHandle h × (text ≡ handle_text h)
unfolding receipt_handle
receipt_only h text is =
    let read = taken (is_text_of (handle_in text) text) (handle_in text) h is in
    rw read.1 at (text_fits (handle_in text) text read.0)

-- a text of no handle is bad
pub receipt_none : (text : List ℕ) → ((h : Handle) → IsHandle h → text ≢ handle_text h) → receipt_handle text ≡ Err bad
unfolding receipt_handle
receipt_none text none = not_taken (is_text_of (handle_in text) text) (handle_in text) text refl none

pub receipt_exact : (text : List ℕ) (h : Handle) → (receipt_handle text ≡ Ok h) ↔ (IsHandle h × (text ≡ handle_text h))
receipt_exact text h = (λ is. receipt_only h text is, λ fits. receipt_found h text fits.0 fits.1)
