-- Lines that are run as they are read, by the grammar of a script or of a session.
use Rattle.std.specs.Prelude.{◌≡◌, ◌≤◌, ◌⊎◌, ℕ, List, [], ◌∷◌, ◌++◌, length, Option, None, Some, IfSome, Result, Ok, Err}
use Rattle.std.specs.Io.KnownBytes.{IsAtEnd}
use Rattle.cq_base.specs.Relations.{IsPrefix}
use Rattle.cq_lines.specs.Lines.{ended_part}
use Rattle.cq_lines.specs.Grammars.{Grammar, IsOpen, parse_text}
use Rattle.cq_lines.specs.Texts.{HasNoFaultYet}
use Rattle.cq_lines.specs.Progress.{Progress, with_earlier, HasRead}
use Rattle.cq_lines.specs.declared.fault.ScriptFault.{ScriptFault}
use Rattle.cq_lines.specs.declared.fault.ScriptFault.TheVariants.{BadLine, LineTooLong, TooManyLines, ReadFailed, WriteFailed, NoMemory}
use Rattle.cq_lines.specs.declared.limits.Limits.{Limits}
use Rattle.cq_lines.specs.declared.limits.TheConstants.{LINE_LIMIT}
use Rattle.cq_lines.specs.declared.text.TheConstants.{BYTES_LIMIT}
use Rattle.cq_world.specs.Stands.{StandsFor}
use Rattle.cq_events.specs.Worlds.{World, first_world}
use Rattle.cq_world.specs.declared.sim.Sim.{Sim}
use Rattle.cq_script.specs.declared.script_line.ScriptLine.{ScriptLine}
use Rattle.cq_script.specs.Output.{after_line, text_of}
use Rattle.cq_script.specs.Replays.{WritesScript}

-- the world after these lines
unfoldable pub after_lines : World → List ScriptLine → World
after_lines w [] = w
after_lines w (line ∷ lines) = after_lines (after_line w line.event) lines

-- a session ends with the most bytes that can be counted, and has no more lines than bytes
abbrev pub session_limits : Limits
session_limits = record { line_len = LINE_LIMIT; line_count = BYTES_LIMIT }

-- a prefix of the text of what the reader held
abbrev pub IsPrefixOfText : Grammar ScriptLine → Limits → ℕ → List ℕ → Option (List ℕ) → List ℕ → Type 0
IsPrefixOfText grammar limits size input left output = IfSome left (λ more. IsPrefix output (text_of size (parse_text grammar limits (input ++ more)).values))

-- a prefix of the text of the lines of the input that have ended
abbrev pub IsPrefixOfEnded : Grammar ScriptLine → Limits → ℕ → List ℕ → List ℕ → Type 0
IsPrefixOfEnded grammar limits size input output = IsPrefix output (text_of size (parse_text grammar limits (ended_part input)).values)

-- what was read has this fault, and so has what the reader held, and the lines before it have written their text
pub record FailsAtFault (grammar : Grammar ScriptLine) (limits : Limits) (size : ℕ) (f : ScriptFault) (input : List ℕ) (left : Option (List ℕ)) (output : List ℕ) : Type 0 where
  pub here : WritesScript size (parse_text grammar limits input) (Some f) output
  pub whole : IfSome left (λ more. WritesScript size (parse_text grammar limits (input ++ more)) (Some f) output)

-- the bytes can't be counted any more
pub record CountsAllBytes (grammar : Grammar ScriptLine) (limits : Limits) (size : ℕ) (input : List ℕ) (left : Option (List ℕ)) (output : List ℕ) : Type 0 where
  pub yet : HasNoFaultYet grammar limits input
  pub prefix : IsPrefixOfText grammar limits size input left output
  pub many : BYTES_LIMIT ≤ length input

-- what a run of lines has written, by its answer
abbrev pub RunsText : Grammar ScriptLine → Limits → ℕ → Result (Unit {0}) ScriptFault → List ℕ → Option (List ℕ) → List ℕ → Type 0
RunsText grammar limits size (Ok _) input left output = IsAtEnd left × WritesScript size (parse_text grammar limits input) None output
RunsText grammar limits size (Err (BadLine n)) input left output = FailsAtFault grammar limits size (BadLine n) input left output
RunsText grammar limits size (Err (LineTooLong n)) input left output = FailsAtFault grammar limits size (LineTooLong n) input left output
RunsText grammar limits size (Err TooManyLines) input left output = FailsAtFault grammar limits size TooManyLines input left output ⊎ CountsAllBytes grammar limits size input left output
RunsText grammar limits size (Err ReadFailed) input left output = WritesScript size (parse_text grammar limits (ended_part input)) None output × IsOpen (parse_text grammar limits input).fault
RunsText grammar limits size (Err WriteFailed) input left output = IsPrefixOfText grammar limits size input left output
RunsText grammar limits size (Err NoMemory) input left output = IsPrefixOfText grammar limits size input left output

-- All lines that have ended in the input were run, and their text is the output.
pub record IsPlayed (grammar : Grammar ScriptLine) (limits : Limits) (size : ℕ) (input : List ℕ) (progress : Progress ScriptLine) (sim : Sim) (output : List ℕ) : Type 0 where
  pub lines : List ScriptLine
  pub none_left : progress.values ≡ []
  pub read : HasRead grammar limits input (with_earlier lines progress)
  pub stands : StandsFor sim (after_lines (first_world size) lines)
  pub text : output ≡ text_of size lines

-- The run ended at this fault, whatever the reader has left.
pub record StopsAtFault (grammar : Grammar ScriptLine) (limits : Limits) (size : ℕ) (f : ScriptFault) (input output : List ℕ) : Type 0 where
  pub runs : (left : Option (List ℕ)) → RunsText grammar limits size (Err f) input left output
  pub prefix : (left : Option (List ℕ)) → IsPrefixOfText grammar limits size input left output
  pub ended : IsPrefixOfEnded grammar limits size input output

-- what was run and written, by the answer
abbrev pub Plays : Grammar ScriptLine → Limits → ℕ → Result (Unit {0}) ScriptFault → List ℕ → Progress ScriptLine → Sim → List ℕ → Type 0
Plays grammar limits size (Ok _) input progress sim output = IsPlayed grammar limits size input progress sim output
Plays grammar limits size (Err f) input progress sim output = StopsAtFault grammar limits size f input output
