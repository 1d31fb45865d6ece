-- The text of a flat object, read straight from its bytes.
use Rattle.std.specs.Prelude.{Bool, true, false, ◌≡◌, ◌<◌, ◌≤◌, ◌^◌, ℕ, List, [], ◌∷◌, ◌++◌, length, get_or, drop, Some}
use Rattle.std.specs.Fmt.{decimal}
use Rattle.json.specs.Token.{boolean, null}
use Rattle.json.specs.Text.{Within, content, plain, prepend, code_unit}
use Rattle.json.specs.Lex.{lex, between, in_string}
use Rattle.json.specs.Word.{ends_word}
use Rattle.json.specs.Print.{quoted, token_text}
use Rattle.cq_json.specs.Keys.{key_text}
use Rattle.cq_json.specs.declared.flat.Scalar.{Scalar}
use Rattle.cq_json.specs.declared.flat.Scalar.TheVariants.{Text, Number, Truth, Null, Inner}
use Rattle.cq_json.specs.declared.flat.Member.{Member}
use Rattle.cq_json.specs.declared.flat_text.Pause.{Pause}
use Rattle.cq_json.specs.declared.flat_text.Pause.TheVariants as pauses

-- a character of one byte
abbrev pub IsAscii : ℕ → Type 0
IsAscii c = c < 128

-- what a run of bytes that stand for themselves ends with: the string's quote, or an escape's backslash
abbrev pub run_end : Bool → ℕ
run_end true = 34
run_end false = 92

-- Inside a string, and within an escape where w says so, the text is those bytes, and then the rest.
abbrev pub SpelledFrom : Within → List ℕ → List ℕ → List ℕ → Type 0
SpelledFrom w text bytes rest = (content w text ≡ prepend bytes (content plain rest)) × (lex in_string text ≡ lex in_string rest)

-- Inside a string the text is that string's next bytes, however they are escaped, and then the rest.
abbrev pub Spelled : List ℕ → List ℕ → List ℕ → Type 0
Spelled text bytes rest = SpelledFrom plain text bytes rest

-- the text's first four bytes are the hex digits of that code unit, and the rest comes behind them
abbrev pub IsUnit : List ℕ → ℕ → List ℕ → Type 0
IsUnit text unit rest = (4 ≤ length text) × ((code_unit (get_or text 0 0) (get_or text 1 0) (get_or text 2 0) (get_or text 3 0) ≡ Some unit) × (rest ≡ drop 4 text))

-- both texts have the same tokens, commas and colons
abbrev pub Same : List ℕ → List ℕ → Type 0
Same a b = lex between a ≡ lex between b

-- texts that are the same, and begin where a word ends, are so behind the text
abbrev pub IsWhole : List ℕ → Type 0
IsWhole text = (a b : List ℕ) → ends_word a ≡ true → ends_word b ≡ true → Same a b → Same (text ++ a) (text ++ b)

-- a number is below 2^64
abbrev pub IsInRange : Scalar → Type 0
IsInRange (Text text) = Unit {0}
IsInRange (Number n) = n < 2 ^ 64
IsInRange (Truth truth) = Unit {0}
IsInRange Null = Unit {0}
IsInRange Inner = Unit {0}

-- the text of a value, where the inner object has that text
abbrev pub value_text : List ℕ → Scalar → List ℕ
value_text inner (Text text) = quoted text.now
value_text inner (Number n) = decimal n
value_text inner (Truth truth) = token_text (boolean truth)
value_text inner Null = token_text null
value_text inner Inner = inner

-- the text of a member
abbrev pub member_text : List ℕ → Member → List ℕ
member_text inner m = quoted (key_text m.key) ++ (58 ∷ value_text inner m.value)

-- the texts of members, with that byte before the first and a comma before each other one
abbrev pub members_text : List ℕ → ℕ → List Member → List ℕ
members_text inner opening [] = []
members_text inner opening (m ∷ ms) = opening ∷ (member_text inner m ++ members_text inner 44 ms)

-- the number of each member that has one is below 2^64
abbrev pub AreInRange : List Member → Type 0
AreInRange [] = Unit {0}
AreInRange (m ∷ ms) = IsInRange m.value × AreInRange ms

-- Before the text there were the members `read`, and with what was taken of it there are those `now`. Before the end of
-- the object `rest` is left; else the inner object comes next.
abbrev pub Took : Pause → List ℕ → List Member → List ℕ → List Member → Type 0
Took pauses.End text read rest now =
    (inner : List ℕ) → IsWhole inner → AreInRange read → Same (members_text inner 123 read ++ text) (members_text inner 123 now ++ (125 ∷ rest))
Took pauses.Inner text read rest now =
    (inner after : List ℕ) → IsWhole inner → AreInRange read → Same rest (inner ++ after) → Same (members_text inner 123 read ++ text) (members_text inner 123 now ++ after)

-- the members that were read up to where the reading came to a stop
abbrev pub Takes : List ℕ → List Member → Pause → List ℕ → List Member → Type 0
Takes text read pause rest now = Took pause text read rest now × ((AreInRange read → AreInRange now) × (0 < length now))
