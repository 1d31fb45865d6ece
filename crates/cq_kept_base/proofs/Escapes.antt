-- Texts that stand for bytes.
use Rattle.std.proofs.Common.{◌≡◌, ℕ, zero, suc, ◌+◌, ◌-◌, ◌<◌, ◌≤◌, Bool, true, false, cond, List, [], ◌∷◌, ◌++◌, length, take, drop, Result, Ok, Err, refl, sym, ◌∙◌, ap, arith, append_assoc, append-nil, drop-cons, take-append-drop}
use Rattle.std.specs.Prelude.{◌==◌, ◌||◌, nat_eq, replicate, get_or, IfOk}
use Rattle.std.proofs.lemmas.Bool.Decides.{nat_tests}
use Rattle.std.proofs.lemmas.List.{take_more, replicate_more}
use Rattle.std.proofs.lemmas.List.Folds.{list_any-append}
use Rattle.cq_lines.specs.Lines.{has_line_feed}
use Rattle.cq_wire.specs.declared.fault.WireFault.{WireFault}
use Rattle.cq_kept_base.specs.Stuffed.{escaped, put_before, unstuffed}
use Rattle.cq_kept_base.specs.Stuffing.{StandsForItself, Stuffs, has_escape}
use Rattle.cq_records.proofs.Frames.{take_take}
use Rattle.memchr.specs.Find.{Nowhere, Passes, is_byte, is_byte3}

pub put_both : (a b : List ℕ) (read : Result (List ℕ) WireFault) → put_before a (put_before b read) ≡ put_before (a ++ b) read
put_both a b (Ok more) = ap (λ (l : List ℕ). Ok l) (sym (append_assoc a b more))
put_both a b (Err fault) = refl

pub put_none : (read : Result (List ℕ) WireFault) → put_before [] read ≡ read
put_none (Ok more) = refl
put_none (Err fault) = refl

either : (a b : Bool) → a ≡ false → b ≡ false → (a || b) ≡ false
either a b is are = (λ i. (is i) || b) ∙ are

pub clean_both : (a b : List ℕ) → has_line_feed a ≡ false → has_line_feed b ≡ false → has_line_feed (a ++ b) ≡ false
clean_both a b is are = list_any-append (λ x. x == 10) a b ∙ either (has_line_feed a) (has_line_feed b) is are

pub stuffs_none : (text : List ℕ) → Stuffs text text []
stuffs_none text = record { unit = []; added = sym (append-nil text); reads = λ more. sym (put_none (unstuffed false more)); clean = refl }

pub stuffs_both : (a b c x y : List ℕ) → Stuffs a b x → Stuffs b c y → Stuffs a c (x ++ y)
stuffs_both a b c x y first second = record {
  unit = first.unit ++ second.unit;
  added = second.added ∙ ap (λ (l : List ℕ). l ++ second.unit) first.added ∙ append_assoc a first.unit second.unit;
  reads = λ more. ap (λ (l : List ℕ). unstuffed false l) (append_assoc first.unit second.unit more) ∙ first.reads (second.unit ++ more) ∙ ap (λ r. put_before x r) (second.reads more) ∙ put_both x y (unstuffed false more);
  clean = clean_both first.unit second.unit first.clean second.clean;
}

-- what a text that was begun with nothing stands for
pub stuffs_all : (text bytes : List ℕ) → Stuffs [] text bytes → unstuffed false text ≡ Ok bytes
stuffs_all text bytes is =
    ap (λ (l : List ℕ). unstuffed false l) (is.added ∙ sym (append-nil is.unit)) ∙ is.reads [] ∙ ap (λ (l : List ℕ). Ok l) (append-nil bytes)

pub stuffs_clean : (text bytes : List ℕ) → Stuffs [] text bytes → has_line_feed text ≡ false
stuffs_clean text bytes is = ap has_line_feed is.added ∙ is.clean

-- ---- zeros

pub zeros_next : (bytes : List ℕ) (n : ℕ) → n < length bytes → take n bytes ≡ replicate n 0 → get_or bytes n 0 ≡ 0 → take (n + 1) bytes ≡ replicate (n + 1) 0
zeros_next bytes n below is here = take_more bytes n 0 below ∙ (λ i. (is i) ++ (here i) ∷ []) ∙ replicate_more n 0

abbrev zeros : ℕ → List ℕ
zeros n = replicate n 0

pub zeros_first : (n : ℕ) → 0 < n → 0 ∷ zeros (n - 1) ≡ zeros n
zeros_first zero above = absurd (omega (arith, above))
zeros_first (suc n) above = let e : suc n - 1 ≡ n = omega arith in ap (λ (k : ℕ). 0 ∷ zeros k) e

-- ---- units

chosen : {A : Type 0} (b : Bool) (x y : A) → b ≡ false → cond b x y ≡ y
chosen true x y is = absurd cc
chosen false x y is = refl

pub plain_reads : (b : ℕ) (more : List ℕ) → nat_eq b 3 ≡ false → unstuffed false (b ∷ more) ≡ put_before (b ∷ []) (unstuffed false more)
plain_reads b more is = chosen (nat_eq b 3) (unstuffed true more) (put_before (b ∷ []) (unstuffed false more)) is

pub escape_reads : (b : ℕ) (more : List ℕ) → nat_eq b 3 ≡ true → unstuffed false (b ∷ more) ≡ unstuffed true more
escape_reads b more is = ap (λ (c : Bool). cond c (unstuffed true more) (put_before (b ∷ []) (unstuffed false more))) is

pub clean_plain : (b : ℕ) → nat_eq b 10 ≡ false → has_line_feed (b ∷ []) ≡ false
clean_plain b is = either (nat_eq b 10) false is refl

-- an escaped byte for so many zeros
pub zeros_are : (more : ℕ) → escaped (10 + 1 + more) ≡ 0 ∷ zeros more
zeros_are more =
    let three : nat_eq (10 + 1 + more) 3 ≡ false = grind (arith, nat_tests) in
    let two : nat_eq (10 + 1 + more) 2 ≡ false = grind (arith, nat_tests) in
    let four : nat_eq (10 + 1 + more) 4 ≡ false = grind (arith, nat_tests) in
    let left : 10 + 1 + more - 10 ≡ suc more = omega arith in
    chosen (nat_eq (10 + 1 + more) 3) (3 ∷ []) (cond (nat_eq (10 + 1 + more) 2) (10 ∷ []) (cond (nat_eq (10 + 1 + more) 4) (1 ∷ []) (replicate (10 + 1 + more - 10) 0))) three
    ∙ chosen (nat_eq (10 + 1 + more) 2) (10 ∷ []) (cond (nat_eq (10 + 1 + more) 4) (1 ∷ []) (replicate (10 + 1 + more - 10) 0)) two
    ∙ chosen (nat_eq (10 + 1 + more) 4) (1 ∷ []) (replicate (10 + 1 + more - 10) 0) four ∙ ap zeros left

zeros_clean : (more : ℕ) → has_line_feed (3 ∷ (10 + 1 + more) ∷ []) ≡ false
zeros_clean more =
    let other : nat_eq (10 + 1 + more) 10 ≡ false = grind (arith, nat_tests) in
    either (nat_eq (10 + 1 + more) 10) false other refl

pub zeros_stuff : (text more_text : List ℕ) (more : ℕ) → more_text ≡ text ++ (3 ∷ (10 + 1 + more) ∷ []) → Stuffs text more_text (0 ∷ replicate more 0)
zeros_stuff text more_text more is = record {
  unit = 3 ∷ (10 + 1 + more) ∷ [];
  added = is;
  reads = λ rest. ap (λ (l : List ℕ). put_before l (unstuffed false rest)) (zeros_are more);
  clean = zeros_clean more;
}

pub plain_stuff : (text more_text : List ℕ) (b : ℕ) → nat_eq b 3 ≡ false → nat_eq b 10 ≡ false → more_text ≡ text ++ b ∷ [] → Stuffs text more_text (b ∷ [])
plain_stuff text more_text b one other is = record { unit = b ∷ []; added = is; reads = λ rest. plain_reads b rest one; clean = clean_plain b other }

pub one_stuff : (text more_text : List ℕ) → more_text ≡ text ++ 3 ∷ 4 ∷ [] → Stuffs text more_text (1 ∷ [])
one_stuff text more_text is = record { unit = 3 ∷ 4 ∷ []; added = is; reads = λ rest. refl; clean = refl }

pub escape_stuff : (text more_text : List ℕ) → more_text ≡ text ++ 3 ∷ 3 ∷ [] → Stuffs text more_text (3 ∷ [])
escape_stuff text more_text is = record { unit = 3 ∷ 3 ∷ []; added = is; reads = λ rest. refl; clean = refl }

pub line_feed_stuff : (text more_text : List ℕ) → more_text ≡ text ++ 3 ∷ 2 ∷ [] → Stuffs text more_text (10 ∷ [])
line_feed_stuff text more_text is = record { unit = 3 ∷ 2 ∷ []; added = is; reads = λ rest. refl; clean = refl }

-- the zeros that were counted, and the bytes behind them
pub zeros_parts : (more : ℕ) (behind rest : List ℕ) → take more behind ≡ replicate more 0 → rest ≡ drop more behind → (0 ∷ replicate more 0) ++ rest ≡ 0 ∷ behind
zeros_parts more behind rest zeros is = ap (λ (l : List ℕ). 0 ∷ l) ((λ i. (sym zeros i) ++ (is i)) ∙ take-append-drop more behind)

pub next_dropped : (text : List ℕ) (i : ℕ) → i < length text → drop i text ≡ get_or text i 0 ∷ drop (i + 1) text
next_dropped text i below = let next : suc i ≡ i + 1 = omega arith in drop-cons text i 0 below ∙ ap (λ (k : ℕ). get_or text i 0 ∷ drop k text) next

-- ---- bytes that stand for themselves

neither : (here later : Bool) → (here || later) ≡ false → (here ≡ false) × (later ≡ false)
neither true later none = absurd cc
neither false later none = (refl, none)

-- the byte is none of three
last_of_three : (zero_here one_here feed_here : Bool) → ((zero_here || one_here || feed_here) ≡ true → ⊥) → feed_here ≡ false
last_of_three true one_here feed_here not = absurd (not refl)
last_of_three false true feed_here not = absurd (not refl)
last_of_three false false true not = absurd (not refl)
last_of_three false false false not = refl

none_here : (here : Bool) → (here ≡ true → ⊥) → here ≡ false
none_here true not = absurd (not refl)
none_here false not = refl

-- up to the first byte that is a 0, a 1 or a line feed
pub line_until : (bytes : List ℕ) (n : ℕ) → Nowhere (Passes (is_byte3 0 1 10) bytes) 0 n → n ≤ length bytes → has_line_feed (take n bytes) ≡ false
line_until bytes zero nowhere within = refl
line_until [] (suc n) nowhere within = absurd (omega (arith, within))
line_until (b ∷ bytes) (suc n) nowhere within =
    let here = last_of_three (nat_eq b 0) (nat_eq b 1) (nat_eq b 10) (nowhere 0 (omega arith) (omega arith)) in
    let later = line_until bytes n (λ k low high is. nowhere (suc k) (omega arith) (omega (arith, high)) is) (omega (arith, within)) in
    either (nat_eq b 10) (has_line_feed (take n bytes)) here later

-- up to the first escape
pub unescaped_until : (bytes : List ℕ) (n : ℕ) → Nowhere (Passes (is_byte 3) bytes) 0 n → n ≤ length bytes → has_escape (take n bytes) ≡ false
unescaped_until bytes zero nowhere within = refl
unescaped_until [] (suc n) nowhere within = absurd (omega (arith, within))
unescaped_until (b ∷ bytes) (suc n) nowhere within =
    let here = none_here (nat_eq b 3) (nowhere 0 (omega arith) (omega arith)) in
    let later = unescaped_until bytes n (λ k low high is. nowhere (suc k) (omega arith) (omega (arith, high)) is) (omega (arith, within)) in
    either (nat_eq b 3) (has_escape (take n bytes)) here later

-- fewer of these bytes
line_prefix : (n k : ℕ) (bytes : List ℕ) → n ≤ k → has_line_feed (take k bytes) ≡ false → has_line_feed (take n bytes) ≡ false
line_prefix zero k bytes le line = refl
line_prefix (suc n) zero bytes le line = absurd (omega (arith, le))
line_prefix (suc n) (suc k) [] le line = refl
line_prefix (suc n) (suc k) (b ∷ bytes) le line =
    let parts = neither (nat_eq b 10) (has_line_feed (take k bytes)) line in
    either (nat_eq b 10) (has_line_feed (take n bytes)) parts.0 (line_prefix n k bytes (omega (arith, le)) parts.1)

pub plain_parts : (bytes : List ℕ) (n k : ℕ) → n ≤ k → has_line_feed (take k bytes) ≡ false → has_escape (take n (take k bytes)) ≡ false → StandsForItself (take n bytes)
plain_parts bytes n k le line unescaped = record { no_escape = ap has_escape (sym (take_take n k bytes le)) ∙ unescaped; no_line_feed = line_prefix n k bytes le line }

run_reads : (run more : List ℕ) → has_escape run ≡ false → unstuffed false (run ++ more) ≡ put_before run (unstuffed false more)
run_reads [] more none = sym (put_none (unstuffed false more))
run_reads (b ∷ run) more none =
    let parts = neither (nat_eq b 3) (has_escape run) none in
    plain_reads b (run ++ more) parts.0 ∙ ap (λ r. put_before (b ∷ []) r) (run_reads run more parts.1) ∙ put_both (b ∷ []) run (unstuffed false more)

pub run_stuff : (text more_text run : List ℕ) → StandsForItself run → more_text ≡ text ++ run → Stuffs text more_text run
run_stuff text more_text run plain is = record { unit = run; added = is; reads = λ more. run_reads run more plain.no_escape; clean = plain.no_line_feed }

-- ---- what calls answered

pub if_ok : {T E : Type 0} {P Q : T → Type 0} (r : Result T E) → IfOk r P → ((x : T) → P x → Q x) → IfOk r Q
if_ok (Ok x) p step = step x p
if_ok (Err e) p step = tt
