-- What a parse found says what is asked for.
use Rattle.std.proofs.Common.{ℕ, zero, suc, ◌+◌, ◌<◌, ◌&&◌, Bool, Bor, true, false, List, [], ◌∷◌, Option, Some, None, refl, codes, ap, sym, subst, inl, inr, ◌≡◌, ◌≢◌, ◌⊎◌, ◌∙◌, arith}
use Rattle.std.specs.Prelude.{IfSome, option_map, unwrap_or, Ok, Err, Result}
use Rattle.std.specs.Str.Parse.{IsNumeral, digits_value, without_leading_plus}
use Rattle.clap.specs.Matches.{ReadsOne, one_text}
use Rattle.clap.specs.Words.{App, HasKind, IsAmong, Kinds, Row, Text, fault_of, first_of, first_value, is_simple, is_simple_and_free, kind_of, one_of, rows_of}
use Rattle.clap.specs.declared.error.Error.{Error}
use Rattle.clap.specs.declared.error.kind.ErrorKind.{ErrorKind}
use Rattle.clap.specs.declared.error.kind.ErrorKind.TheVariants.{OutOfMemory}
use Rattle.std.specs.List.{list_all}
use Rattle.cq_args.specs.ArgFaults.{all_are}
use Rattle.clap.specs.declared.parser.matches.Found.{Found}
use Rattle.clap.proofs.OnLiterals.{clap_on_literals}
use Rattle.clap.proofs.WalkLemmas.{first_value-rows, one_text-rows}
use Rattle.cq_args.specs.CommandLine.{IsNumber, IsSized, program_app, text_in, turns_text}

pub some_same : {A : Type 0} {x y : A} → Some x ≡ Some y → x ≡ y
some_same {A} {x} {y} is = ap (λ (o : Option A). unwrap_or o x) is

-- ---- numbers

-- the text of an option that a parse found is the number that was read of it
pub number_read : {E : Type 0} (gives : Text → Result ℕ E → Type 0)
    → ((text : Text) (n : ℕ) → gives text (Ok n) → n ≡ digits_value 10 (without_leading_plus text))
    → (id : Text) (rows : List Row) (f : Found) (read : Option ℕ) → rows_of f ≡ rows
    → (one_text f id ≡ None → read ≡ None)
    → ((text : Text) → one_text f id ≡ Some text → ReadsOne gives text read)
    → IfSome read (IsNumber (one_of id rows))
number_read {E} gives tells id rows f read is none value = go (one_text f id) refl read none value
  where
    go : (text : Option Text) → one_text f id ≡ text → (read : Option ℕ)
        → (one_text f id ≡ None → read ≡ None)
        → ((text : Text) → one_text f id ≡ Some text → ReadsOne gives text read)
        → IfSome read (IsNumber (one_of id rows))
    go text there None none value = tt
    go None there (Some n) none value = let no = none there in cc
    go (Some text) there (Some n) none value =
        (text, ap (one_of id) (sym is) ∙ (sym (one_text-rows f id) ∙ there), tells text n (value text there))

-- a numeral that a parse found, below what is read, is read as that number
numeral_read : {E : Type 0} (gives : Text → Result ℕ E → Type 0) (limit : ℕ)
    → ((text : Text) (v : ℕ) → gives text (Ok v) → v ≡ digits_value 10 (without_leading_plus text))
    → ((text : Text) (e : E) → gives text (Err e) → IsNumeral 10 (without_leading_plus text) → digits_value 10 (without_leading_plus text) < limit → ⊥)
    → (id : Text) (rows : List Row) (f : Found) (read : Option ℕ) → rows_of f ≡ rows
    → ((text : Text) → one_text f id ≡ Some text → ReadsOne gives text read)
    → (text : Text) → one_of id rows ≡ Some text → IsNumeral 10 (without_leading_plus text) → digits_value 10 (without_leading_plus text) < limit
    → read ≡ Some (digits_value 10 (without_leading_plus text))
numeral_read {E} gives limit tells fails id rows f read is value text found numeral small =
    go read (value text (one_text-rows f id ∙ (ap (one_of id) is ∙ found)))
  where
    go : (read : Option ℕ) → ReadsOne gives text read → read ≡ Some (digits_value 10 (without_leading_plus text))
    go (Some v) reads = ap Some (tells text v reads)
    go None reads = absurd (fails text reads.0 reads.1 numeral small)

if_some : {A : Type 0} (read : Option A) (n : A) (P : A → Type 0) → read ≡ Some n → IfSome read P → P n
if_some (Some x) n P is h = subst P (some_same is) h
if_some None n P is h = cc

-- the number that was read of an option is that of its text
pub number_found : {E : Type 0} (gives : Text → Result ℕ E → Type 0)
    → ((text : Text) (n : ℕ) → gives text (Ok n) → n ≡ digits_value 10 (without_leading_plus text))
    → (id : Text) (f : Found) (read : Option ℕ) (n m : ℕ)
    → (one_text f id ≡ None → read ≡ None)
    → ((text : Text) → one_text f id ≡ Some text → ReadsOne gives text read)
    → read ≡ Some n → m ≡ n → IsNumber (one_of id (rows_of f)) m
number_found gives tells id f read n m none value is same =
    if_some read m (IsNumber (one_of id (rows_of f))) (is ∙ ap Some (sym same)) (number_read gives tells id (rows_of f) f read refl none value)

-- the number that was read, or the one for none
pub read_or : (text : Option Text) (read : Option ℕ) (m : ℕ) → m ≡ unwrap_or read 256 → IfSome read (IsNumber text) → IsNumber text m ⊎ (m ≡ 256)
read_or text (Some n) m is number = inl (subst (IsNumber text) (sym is) number)
read_or text None m is number = inr is

-- no file of a journal was named
pub no_path : (f : Found) (path : Option (Bor (List ℕ))) → option_map (λ s. s.now) path ≡ first_value f (codes "journal") → path ≡ None → first_of (codes "journal") (rows_of f) ≡ None
no_path f path is none = sym (first_value-rows f (codes "journal")) ∙ sym is ∙ ap (option_map (λ s. s.now)) none

rows_same : (f : Found) (p : Text × List Row) → Some (rows_of f) ≡ option_map (λ p. p.1) (Some p) → rows_of f ≡ p.1
rows_same f p is = some_same is

pub sized_without : (found : Option (Text × List Row)) → None ≡ option_map (λ p. p.1) found → IsSized found 1
sized_without None e = (codes "1", refl, refl)
sized_without (Some p) e = cc

pub sized_by : {E : Type 0} (gives : Text → Result ℕ E → Type 0)
    → ((text : Text) (n : ℕ) → gives text (Ok n) → n ≡ digits_value 10 (without_leading_plus text))
    → (found : Option (Text × List Row)) (f : Found) (read : Option ℕ)
    → Some (rows_of f) ≡ option_map (λ p. p.1) found
    → (one_text f (codes "servers") ≡ None → read ≡ None)
    → ((text : Text) → one_text f (codes "servers") ≡ Some text → ReadsOne gives text read)
    → IfSome read (IsSized found)
sized_by gives tells None f read e none value = cc
sized_by gives tells (Some p) f read e none value = number_read gives tells (codes "servers") p.1 f read (rows_same f p e) none value

pub turns_by : {E : Type 0} (gives : Text → Result ℕ E → Type 0)
    → ((text : Text) (n : ℕ) → gives text (Ok n) → n ≡ digits_value 10 (without_leading_plus text))
    → (found : Option (Text × List Row)) (f : Found) (read : Option ℕ)
    → Some (rows_of f) ≡ option_map (λ p. p.1) found
    → (one_text f (codes "turns") ≡ None → read ≡ None)
    → ((text : Text) → one_text f (codes "turns") ≡ Some text → ReadsOne gives text read)
    → IfSome read (IsNumber (turns_text found))
turns_by gives tells None f read e none value = cc
turns_by gives tells (Some p) f read e none value = number_read gives tells (codes "turns") p.1 f read (rows_same f p e) none value

pub numeral_by : {E : Type 0} (gives : Text → Result ℕ E → Type 0) (limit : ℕ)
    → ((text : Text) (v : ℕ) → gives text (Ok v) → v ≡ digits_value 10 (without_leading_plus text))
    → ((text : Text) (e : E) → gives text (Err e) → IsNumeral 10 (without_leading_plus text) → digits_value 10 (without_leading_plus text) < limit → ⊥)
    → (found : Option (Text × List Row)) (f : Found) (read : Option ℕ)
    → Some (rows_of f) ≡ option_map (λ p. p.1) found
    → ((text : Text) → one_text f (codes "turns") ≡ Some text → ReadsOne gives text read)
    → (text : Text) → turns_text found ≡ Some text → IsNumeral 10 (without_leading_plus text) → digits_value 10 (without_leading_plus text) < limit
    → read ≡ Some (digits_value 10 (without_leading_plus text))
numeral_by gives limit tells fails None f read e value text is numeral small = cc
numeral_by gives limit tells fails (Some p) f read e value text is numeral small =
    numeral_read gives limit tells fails (codes "turns") p.1 f read (rows_same f p e) value text is numeral small

-- ---- digits

-- the text of a digit, which a parse reads as that number
digit_reads : (n : ℕ) → n < 10 → (digits_value 10 (without_leading_plus ((48 + n) ∷ [])) ≡ n) × IsNumeral 10 (without_leading_plus ((48 + n) ∷ []))
digit_reads zero low = (refl, (omega arith, (omega arith, tt)))
digit_reads (suc zero) low = (refl, (omega arith, (omega arith, tt)))
digit_reads (suc (suc zero)) low = (refl, (omega arith, (omega arith, tt)))
digit_reads (suc (suc (suc zero))) low = (refl, (omega arith, (omega arith, tt)))
digit_reads (suc (suc (suc (suc zero)))) low = (refl, (omega arith, (omega arith, tt)))
digit_reads (suc (suc (suc (suc (suc zero))))) low = (refl, (omega arith, (omega arith, tt)))
digit_reads (suc (suc (suc (suc (suc (suc zero)))))) low = (refl, (omega arith, (omega arith, tt)))
digit_reads (suc (suc (suc (suc (suc (suc (suc zero))))))) low = (refl, (omega arith, (omega arith, tt)))
digit_reads (suc (suc (suc (suc (suc (suc (suc (suc zero)))))))) low = (refl, (omega arith, (omega arith, tt)))
digit_reads (suc (suc (suc (suc (suc (suc (suc (suc (suc zero))))))))) low = (refl, (omega arith, (omega arith, tt)))
digit_reads (suc (suc (suc (suc (suc (suc (suc (suc (suc (suc n)))))))))) low = absurd (omega arith)

byte_before : (n m : ℕ) → Some ((48 + n) ∷ []) ≡ Some ((48 + m) ∷ []) → n ≡ m
byte_before n m is = let byte : 48 + n ≡ 48 + m = ap (λ (text : Option Text). first_byte text) is in omega arith
  where
    first_byte : Option Text → ℕ
    first_byte (Some (byte ∷ rest)) = byte
    first_byte _ = 0

pub digit_without : (found : Option (Text × List Row)) → None ≡ option_map (λ p. p.1) found → (n : ℕ) → text_in found ≡ Some ((48 + n) ∷ []) → Some 1 ≡ Some n
digit_without None e n is = ap Some (byte_before 1 n is)
digit_without (Some p) e n is = cc

pub digit_by : {E : Type 0} (gives : Text → Result ℕ E → Type 0)
    → ((text : Text) (v : ℕ) → gives text (Ok v) → v ≡ digits_value 10 (without_leading_plus text))
    → ((text : Text) (e : E) → gives text (Err e) → IsNumeral 10 (without_leading_plus text) → digits_value 10 (without_leading_plus text) < 256 → ⊥)
    → (found : Option (Text × List Row)) (f : Found) (read : Option ℕ)
    → Some (rows_of f) ≡ option_map (λ p. p.1) found
    → ((text : Text) → one_text f (codes "servers") ≡ Some text → ReadsOne gives text read)
    → (n : ℕ) → n < 10 → text_in found ≡ Some ((48 + n) ∷ []) → read ≡ Some n
digit_by gives tells fails None f read e value n low is = cc
digit_by gives tells fails (Some p) f read e value n low is =
    let digit = digit_reads n low in
    numeral_read gives 256 tells fails (codes "servers") p.1 f read (rows_same f p e) value ((48 + n) ∷ []) is digit.1 (rw digit.0 (omega arith))
    ∙ ap Some digit.0

-- ---- the program's command line

pub program_is_simple : is_simple program_app ≡ true
unfolding clap_on_literals
program_is_simple = refl

pub program_is_free : is_simple_and_free program_app ≡ true
unfolding clap_on_literals
program_is_free = refl

pub kinds_at : (app : App) (args : List Text) (error : Error) → app ≡ program_app → HasKind (fault_of app args) error → HasKind (fault_of program_app args) error
kinds_at app args error is told = subst (λ a. HasKind (fault_of a args) error) is told

-- ---- kinds of faults

and_left : (a b : Bool) → (a && b) ≡ true → a ≡ true
and_left true b all = refl
and_left false b all = cc

and_right : (a b : Bool) → (a && b) ≡ true → b ≡ true
and_right true b all = all
and_right false b all = cc

pub all_are_some : (is_such : ErrorKind → Bool) (kinds : Kinds) → all_are is_such kinds ≡ true → kinds ≢ []
all_are_some is_such [] all = cc
all_are_some is_such (kind ∷ kinds) all = λ none. cc

among_such : (is_such : ErrorKind → Bool) (kind : ErrorKind) (kinds : Kinds) → list_all is_such kinds ≡ true → IsAmong kind kinds → is_such kind ≡ true
among_such is_such kind [] all among = absurd among
among_such is_such kind (first ∷ kinds) all (inl same) = rw same (and_left (is_such first) (list_all is_such kinds) all)
among_such is_such kind (first ∷ kinds) all (inr later) = among_such is_such kind kinds (and_right (is_such first) (list_all is_such kinds) all) later

pub has_such : (is_such : ErrorKind → Bool) (kinds : Kinds) (error : Error) → all_are is_such kinds ≡ true → HasKind kinds error
    → (kind_of error ≡ OutOfMemory) ⊎ (is_such (kind_of error) ≡ true)
has_such is_such [] error all told = cc
has_such is_such (kind ∷ kinds) error all (inl memory) = inl memory
has_such is_such (kind ∷ kinds) error all (inr among) = inr (among_such is_such (kind_of error) (kind ∷ kinds) all among)
