-- What a session writes, by its answer. Its text differs from that of a script in this alone: its lines have no limit to
-- their number, and a line that is bad or too long is told as refused and doesn't end it.
use Rattle.std.specs.Prelude.{◌≡◌, ◌≤◌, ℕ, List, ◌++◌, length, Option, IfSome, Result, Ok, Err}
use Rattle.std.specs.Io.KnownBytes.{IsAtEnd}
use Rattle.cq_base.specs.Relations.{IsPrefix}
use Rattle.cq_lines.specs.declared.fault.ScriptFault.{ScriptFault}
use Rattle.cq_lines.specs.declared.fault.ScriptFault.TheVariants.{BadLine, LineTooLong, TooManyLines, ReadFailed, WriteFailed, NoMemory}
use Rattle.cq_lines.specs.Lines.{ended_part}
use Rattle.cq_lines.specs.declared.text.TheConstants.{BYTES_LIMIT}
use Rattle.cq_script.specs.Lines.{session_lines}
use Rattle.cq_script.specs.Output.{text_of}
use Rattle.cq_script.specs.Replays.{IsToldOfOneObject}

-- What a session writes, on so many servers.
abbrev pub session_text : ℕ → List ℕ → List ℕ
session_text size bytes = text_of size (session_lines bytes)

-- a prefix of the text of what the reader held
abbrev pub IsSessionPrefix : ℕ → List ℕ → Option (List ℕ) → List ℕ → Type 0
IsSessionPrefix size input left output = IfSome left (λ more. IsPrefix output (session_text size (input ++ more)))

-- a prefix of the text of the lines of the input that have ended
abbrev pub IsSessionEndedPrefix : ℕ → List ℕ → List ℕ → Type 0
IsSessionEndedPrefix size input output = IsPrefix output (session_text size (ended_part input))

-- On so many servers: `input` was read, `left` is what the reader has left, if that is known, and `output` was
-- written. No line ends a session; more bytes than can be counted do.
abbrev pub Sessions : ℕ → Result (Unit {0}) ScriptFault → List ℕ → Option (List ℕ) → List ℕ → Type 0
Sessions size (Ok _) input left output = IsAtEnd left × (output ≡ session_text size input)
Sessions size (Err (BadLine n)) input left output = ⊥
Sessions size (Err (LineTooLong n)) input left output = ⊥
Sessions size (Err TooManyLines) input left output = IsSessionPrefix size input left output × BYTES_LIMIT ≤ length input
Sessions size (Err ReadFailed) input left output = output ≡ session_text size (ended_part input)
Sessions size (Err WriteFailed) input left output = IsSessionPrefix size input left output
Sessions size (Err NoMemory) input left output = IsSessionPrefix size input left output

-- what was written is told of the lines of what the reader held, of whose run the headline holds
abbrev pub SessionHeadlines : ℕ → List ℕ → Option (List ℕ) → List ℕ → Type 0
SessionHeadlines size input left output = IfSome left (λ more. IsToldOfOneObject size (session_lines (input ++ more)) output)
