-- One part of a line, or its end, as the private functions of the reader take them.
use Rattle.std.specs.Prelude.{◌≡◌, ℕ, ◌+◌, nat_le, nat_lt, if◌then◌else◌, List, [], ◌∷◌, ◌++◌, length, Option, Some, Result, Ok, Err}
use Rattle.cq_lines.specs.Grammars.{Grammar, Parsed, parse_line, value_or_fault, values_of}
use Rattle.cq_lines.specs.Progress.{Progress, overlong}
use Rattle.cq_lines.specs.declared.fault.ScriptFault.{ScriptFault}
use Rattle.cq_lines.specs.declared.fault.ScriptFault.TheVariants.{BadLine, LineTooLong, TooManyLines, ReadFailed, WriteFailed, NoMemory}

-- the reading goes on from this state, or the text is this one, whatever comes
pub data Next (T : Type 0) : Type 0 where
  goes : Progress T → Next T
  stops : Parsed T → Next T

-- the text ends at this fault
abbrev pub stopped : {T : Type 0} → Progress T → ScriptFault → Next T
stopped s f = stops (record { values = s.values; fault = Some f })

-- with another partial line
abbrev pub with_partial : {T : Type 0} → Progress T → List ℕ → Progress T
with_partial s partial = record { limits = s.limits; values = s.values; lines = s.lines; partial = partial }

-- after a line that was parsed so
abbrev pub line_completed : {T : Type 0} → Progress T → Result (Option T) ScriptFault → Next T
line_completed s (Err f) = stopped s f
line_completed s (Ok value) = goes (record { limits = s.limits; values = s.values ++ values_of value; lines = s.lines + 1; partial = [] })

-- after bytes with which the partial line, which is parsed so, is overlong
abbrev pub partial_overlong : {T : Type 0} → Progress T → Result (Option T) ScriptFault → Next T
partial_overlong s (Err f) = stopped s f
partial_overlong s (Ok value) = goes (with_partial s (overlong s.limits.line_len))

-- how the partial line is parsed where it is overlong
abbrev pub overlong_outcome : {T : Type 0} → Grammar T → Progress T → Result (Option T) ScriptFault
overlong_outcome grammar s = value_or_fault (LineTooLong (s.lines + 1)) (grammar.overlong_value (s.lines + 1))

-- after bytes in which no line ends
unfoldable pub part_of : {T : Type 0} → Grammar T → Progress T → List ℕ → Next T
part_of grammar s [] = goes s
part_of grammar s (b ∷ bs) =
    if nat_le s.limits.line_count s.lines then stopped s TooManyLines
    else (if nat_lt s.limits.line_len (length s.partial + length (b ∷ bs)) then partial_overlong s (overlong_outcome grammar s)
    else goes (with_partial s (s.partial ++ b ∷ bs)))

-- after bytes in which no line ends, and a line feed
unfoldable pub line_end : {T : Type 0} → Grammar T → Progress T → List ℕ → Next T
line_end grammar s part =
    if nat_le s.limits.line_count s.lines then stopped s TooManyLines
    else line_completed s (parse_line grammar s.limits.line_len (s.lines + 1) (s.partial ++ part))

-- the text has the values so far, and this fault
abbrev pub StopsAt : {T : Type 0} → ScriptFault → Progress T → Next T → Type 0
StopsAt f new next = next ≡ stops (record { values = new.values; fault = Some f })

-- the answer of a step, and the state after it, are these, unless memory ran out
abbrev pub Follows : {T : Type 0} → Result (Unit {0}) ScriptFault → Progress T → Next T → Type 0
Follows (Ok _) new next = next ≡ goes new
Follows (Err (BadLine n)) new next = StopsAt (BadLine n) new next
Follows (Err (LineTooLong n)) new next = StopsAt (LineTooLong n) new next
Follows (Err TooManyLines) new next = StopsAt TooManyLines new next
Follows (Err ReadFailed) new next = ⊥
Follows (Err WriteFailed) new next = ⊥
Follows (Err NoMemory) new next = Unit {0}
