-- What reading a whole text answers.
use Rattle.std.specs.Prelude.{◌≡◌, ℕ, List, ◌++◌, Option, None, Some, IfSome, Result, Ok, Err}
use Rattle.std.specs.Global.{Vec}
use Rattle.std.specs.Io.KnownBytes.{IsAtEnd}
use Rattle.cq_lines.specs.Lines.{ended_part}
use Rattle.cq_lines.specs.Grammars.{Grammar, IsOpen, parse_text}
use Rattle.cq_lines.specs.declared.fault.ScriptFault.{ScriptFault}
use Rattle.cq_lines.specs.declared.fault.ScriptFault.TheVariants.{BadLine, LineTooLong, TooManyLines, ReadFailed, WriteFailed, NoMemory}
use Rattle.cq_lines.specs.declared.limits.Limits.{Limits}

-- The bytes that were read have this fault first, and so have they with those that the reader has left.
pub record EndsAt {T : Type 0} (grammar : Grammar T) (limits : Limits) (f : ScriptFault) (input : List ℕ) (left : Option (List ℕ)) : Type 0 where
  pub here : (parse_text grammar limits input).fault ≡ Some f
  pub whole : IfSome left (λ more. (parse_text grammar limits (input ++ more)).fault ≡ Some f)

-- The lines that have ended in the bytes that were read have no fault, and no limit has been passed: the last line alone may be
-- bad, and it may go on.
pub record HasNoFaultYet {T : Type 0} (grammar : Grammar T) (limits : Limits) (input : List ℕ) : Type 0 where
  pub ended : (parse_text grammar limits (ended_part input)).fault ≡ None
  pub goes_on : IsOpen (parse_text grammar limits input).fault

-- `input` was read, and `left` is what the reader has left, if that is known.
abbrev pub ReadsText : {T : Type 0} → Grammar T → Limits → Result (Vec T) ScriptFault → List ℕ → Option (List ℕ) → Type 0
ReadsText grammar limits (Ok values) input left = IsAtEnd left × (parse_text grammar limits input ≡ record { values = values.items; fault = None })
ReadsText grammar limits (Err (BadLine n)) input left = EndsAt grammar limits (BadLine n) input left
ReadsText grammar limits (Err (LineTooLong n)) input left = EndsAt grammar limits (LineTooLong n) input left
ReadsText grammar limits (Err TooManyLines) input left = EndsAt grammar limits TooManyLines input left
ReadsText grammar limits (Err ReadFailed) input left = HasNoFaultYet grammar limits input
ReadsText grammar limits (Err WriteFailed) input left = ⊥
ReadsText grammar limits (Err NoMemory) input left = Unit {0}
