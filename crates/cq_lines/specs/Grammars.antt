-- The values of lines, and of a text, by the grammar of a parser.
use Rattle.std.specs.Prelude.{◌≡◌, ℕ, ◌+◌, nat_lt, if◌then◌else◌, List, [], ◌∷◌, ◌++◌, length, Option, None, Some, Result, Ok, Err}
use Rattle.cq_lines.specs.Lines.{lines_of}
use Rattle.cq_lines.specs.declared.fault.ScriptFault.{ScriptFault}
use Rattle.cq_lines.specs.declared.fault.ScriptFault.TheVariants.{BadLine, LineTooLong, TooManyLines, ReadFailed, WriteFailed, NoMemory}
use Rattle.cq_lines.specs.declared.limits.Limits.{Limits}
use Rattle.cq_lines.specs.declared.parser.LineFault.{LineFault}
use Rattle.cq_lines.specs.declared.parser.LineFault.TheVariants.{Bad, NoMemory as OutOfMemory}

-- The value of line n by its bytes, and that of a line n that has more bytes than a line may have. None: the line is a fault.
-- Some None: it says nothing, as a blank line does.
pub record Grammar (T : Type 0) : Type 0 where
  pub line_value : ℕ → List ℕ → Option (Option T)
  pub overlong_value : ℕ → Option (Option T)

-- a line was parsed as the grammar has it, unless memory ran out
abbrev pub IsParsedAs : {T : Type 0} → Result (Option T) LineFault → Option (Option T) → Type 0
IsParsedAs (Ok parsed) value = value ≡ Some parsed
IsParsedAs (Err Bad) value = value ≡ None
IsParsedAs (Err OutOfMemory) value = Unit {0}

-- ---- one line

-- the values of a line, which has one or none
abbrev pub values_of : {T : Type 0} → Option T → List T
values_of None = []
values_of (Some value) = value ∷ []

-- the value of a line, or this fault
abbrev pub value_or_fault : {T : Type 0} → ScriptFault → Option (Option T) → Result (Option T) ScriptFault
value_or_fault f None = Err f
value_or_fault f (Some value) = Ok value

-- line n, where a line may have `line_len` bytes
abbrev pub parse_line : {T : Type 0} → Grammar T → ℕ → ℕ → List ℕ → Result (Option T) ScriptFault
parse_line grammar line_len n line =
    if nat_lt line_len (length line) then value_or_fault (LineTooLong n) (grammar.overlong_value n)
    else value_or_fault (BadLine n) (grammar.line_value n line)

-- a fault that is one line's
abbrev pub IsLineFault : ScriptFault → Type 0
IsLineFault (BadLine n) = Unit {0}
IsLineFault (LineTooLong n) = Unit {0}
IsLineFault TooManyLines = ⊥
IsLineFault ReadFailed = ⊥
IsLineFault WriteFailed = ⊥
IsLineFault NoMemory = ⊥

-- ---- a text

-- the values of a text up to its first fault, and that fault
pub record Parsed (T : Type 0) : Type 0 where
  pub values : List T
  pub fault : Option ScriptFault

-- a text that begins with a fault
abbrev pub faulty : {T : Type 0} → ScriptFault → Parsed T
faulty f = record { values = []; fault = Some f }

-- a text with values before its own
abbrev pub with_prefix : {T : Type 0} → List T → Parsed T → Parsed T
with_prefix values parsed = record { values = values ++ parsed.values; fault = parsed.fault }

-- a line before the rest of a text, which counts only if the line is no fault
abbrev pub parsed_before : {T : Type 0} → Result (Option T) ScriptFault → Parsed T → Parsed T
parsed_before (Err f) rest = faulty f
parsed_before (Ok value) rest = with_prefix (values_of value) rest

-- the text of these lines, of which the first has the number n
unfoldable pub parse_from : {T : Type 0} → Grammar T → Limits → ℕ → List (List ℕ) → Parsed T
parse_from grammar limits n [] = record { values = []; fault = None }
parse_from grammar limits n (line ∷ lines) =
    if nat_lt limits.line_count n then faulty TooManyLines
    else parsed_before (parse_line grammar limits.line_len n line) (parse_from grammar limits (n + 1) lines)

-- the text that bytes are
unfoldable pub parse_text : {T : Type 0} → Grammar T → Limits → List ℕ → Parsed T
parse_text grammar limits bytes = parse_from grammar limits 1 (lines_of bytes)

-- the values of a line, where a fault has none
abbrev pub values_or_none : {T : Type 0} → Result (Option T) ScriptFault → List T
values_or_none (Err f) = []
values_or_none (Ok value) = values_of value

-- the values of these lines, of which the first has the number n, where no fault ends the text and lines may be as many as they
-- are
unfoldable pub values_from : {T : Type 0} → Grammar T → ℕ → ℕ → List (List ℕ) → List T
values_from grammar line_len n [] = []
values_from grammar line_len n (line ∷ lines) = values_or_none (parse_line grammar line_len n line) ++ values_from grammar line_len (n + 1) lines

-- ---- answers

-- no limit has been passed: the last line alone may be bad, and it may go on
abbrev pub IsOpen : Option ScriptFault → Type 0
IsOpen None = Unit {0}
IsOpen (Some (BadLine n)) = Unit {0}
IsOpen (Some (LineTooLong n)) = ⊥
IsOpen (Some TooManyLines) = ⊥
IsOpen (Some ReadFailed) = ⊥
IsOpen (Some WriteFailed) = ⊥
IsOpen (Some NoMemory) = ⊥

-- the text has these values, and the fault of the answer, unless memory ran out
abbrev pub Yields : {T : Type 0} → Result (Unit {0}) ScriptFault → List T → Parsed T → Type 0
Yields (Ok _) values parsed = parsed ≡ record { values = values; fault = None }
Yields (Err (BadLine n)) values parsed = parsed ≡ record { values = values; fault = Some (BadLine n) }
Yields (Err (LineTooLong n)) values parsed = parsed ≡ record { values = values; fault = Some (LineTooLong n) }
Yields (Err TooManyLines) values parsed = parsed ≡ record { values = values; fault = Some TooManyLines }
Yields (Err ReadFailed) values parsed = ⊥
Yields (Err WriteFailed) values parsed = ⊥
Yields (Err NoMemory) values parsed = Unit {0}
