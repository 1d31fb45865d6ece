-- What running a script has written, by its answer.
use Rattle.std.specs.Prelude.{◌≡◌, ℕ, List, ◌++◌, Option, None, Some, IfSome, Result, Ok, Err}
use Rattle.std.specs.Io.KnownBytes.{IsAtEnd}
use Rattle.cq_lines.specs.declared.fault.ScriptFault.{ScriptFault}
use Rattle.cq_lines.specs.declared.fault.ScriptFault.TheVariants.{BadLine, LineTooLong, TooManyLines, ReadFailed, WriteFailed, NoMemory}
use Rattle.cq_lines.specs.Lines.{ended_part}
use Rattle.cq_lines.specs.Grammars.{Parsed, IsOpen}
use Rattle.cq_script.specs.Lines.{script_of}
use Rattle.cq_script.specs.Laws.{told_by_run}
use Rattle.cq_script.specs.Output.{events_of, text_of}
use Rattle.cq_base.specs.Relations.{IsPrefix}
use Rattle.cq_world.specs.Laws.{Headline}
use Rattle.cq_events.specs.Runs.{given_from, refused_from}
use Rattle.cq_events.specs.Worlds.{first_world}
use Rattle.cq_script.specs.declared.script_line.ScriptLine.{ScriptLine}

-- the script has this fault first, if any, and exactly the text of its lines on so many servers was written
pub record WritesScript (size : ℕ) (script : Parsed ScriptLine) (fault : Option ScriptFault) (output : List ℕ) : Type 0 where
  pub fault_is : script.fault ≡ fault
  pub text_is : output ≡ text_of size script.values

-- the reader held a script with this fault, and the lines before it have written their text
abbrev pub Fails : ℕ → ScriptFault → List ℕ → Option (List ℕ) → List ℕ → Type 0
Fails size f input left output = IfSome left (λ more. WritesScript size (script_of (input ++ more)) (Some f) output)

-- the reader held a script of whose text this is a prefix
abbrev pub IsScriptPrefix : ℕ → List ℕ → Option (List ℕ) → List ℕ → Type 0
IsScriptPrefix size input left output = IfSome left (λ more. IsPrefix output (text_of size (script_of (input ++ more)).values))

-- the output is a prefix of the text of the lines of the input that have ended
abbrev pub IsEndedPrefix : ℕ → List ℕ → List ℕ → Type 0
IsEndedPrefix size input output = IsPrefix output (text_of size (script_of (ended_part input)).values)

-- On so many servers: `input` was read, `left` is what the reader has left, if that is known, and `output` was
-- written.
abbrev pub Replays : ℕ → Result (Unit {0}) ScriptFault → List ℕ → Option (List ℕ) → List ℕ → Type 0
Replays size (Ok _) input left output = IsAtEnd left × WritesScript size (script_of input) None output
Replays size (Err (BadLine n)) input left output = Fails size (BadLine n) input left output
Replays size (Err (LineTooLong n)) input left output = Fails size (LineTooLong n) input left output
Replays size (Err TooManyLines) input left output = Fails size TooManyLines input left output
Replays size (Err ReadFailed) input left output = WritesScript size (script_of (ended_part input)) None output × IsOpen (script_of input).fault
Replays size (Err WriteFailed) input left output = IsScriptPrefix size input left output
Replays size (Err NoMemory) input left output = IsScriptPrefix size input left output

-- What was written is told of what a run of these lines' events gives and refuses, and of this run the headline holds:
-- each answer whose line is written is one queue object's, over one growing list of requests.
pub record IsToldOfOneObject (size : ℕ) (lines : List ScriptLine) (output : List ℕ) : Type 0 where
  pub text : IsPrefix output (told_by_run 1 (given_from 1 (first_world size) (events_of lines)) (refused_from 1 (first_world size) (events_of lines)) lines)
  pub headline : Headline size (events_of lines)

-- what was written is told of the lines of the script that the reader held
abbrev pub Headlines : ℕ → List ℕ → Option (List ℕ) → List ℕ → Type 0
Headlines size input left output = IfSome left (λ more. IsToldOfOneObject size (script_of (input ++ more)).values output)
