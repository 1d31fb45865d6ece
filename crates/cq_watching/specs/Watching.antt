-- Lines that are run as those of a session, but for those that ask what the world holds: each is answered by that, and is a blank
-- line to the session.
use Rattle.std.specs.Prelude.{◌≡◌, ℕ, List, [], ◌∷◌, ◌++◌, drop, length, if◌then◌else◌, Option, Result, OnOk}
use Rattle.std.specs.Io.KnownBytes.{Appends, IsAtEnd}
use Rattle.cq_base.specs.Relations.{IsPrefix}
use Rattle.cq_lines.specs.Lines.{ended_part}
use Rattle.cq_lines.specs.declared.fault.ScriptFault.{ScriptFault}
use Rattle.cq_script.specs.Resumed.{HasRun, world_behind}
use Rattle.cq_script.specs.Sessions.{session_text}
use Rattle.cq_show.specs.Worlds.{world_text}
use Rattle.cq_watching.specs.Coming.{Come, after_end, asks, by_bytes, nothing_yet, plain}
use Rattle.cq_watching.specs.declared.watcher.Watcher.{Watcher}

-- what a session writes of the lines that have ended in these bytes
abbrev pub ended_text : ℕ → List ℕ → List ℕ
ended_text size bytes = session_text size (ended_part bytes)

-- what a session writes of some bytes behind others: what its text has more
abbrev pub answered_text : ℕ → List ℕ → List ℕ → List ℕ
answered_text size before bytes = drop (length (ended_text size before)) (ended_text size (before ++ bytes))

-- what a session writes of the line that has begun, where it ends: a line that asks is a blank one
abbrev pub plain_text : ℕ → Come → List ℕ
plain_text size come = answered_text size come.given (plain come.line ++ 10 ∷ [])

-- and what the world holds behind it, if it asks
abbrev pub shown_text : ℕ → Come → List ℕ
shown_text size come = if asks come.line then world_text (world_behind size (after_end come).given) else []

-- what is written at the end of the line that has begun
abbrev pub line_text : ℕ → Come → List ℕ
line_text size come = plain_text size come ++ shown_text size come

-- what is written of more bytes
abbrev pub watched_behind : ℕ → Come → List ℕ → List ℕ
watched_behind size come bytes = by_bytes (line_text size) come bytes

-- What is written of a whole input, on so many servers. At its end a line ends.
abbrev pub watched_text : ℕ → List ℕ → List ℕ
watched_text size input = watched_behind size nothing_yet (input ++ 10 ∷ [])

-- the session has run what it was given, and the line that has begun is kept
pub record Keeps (size : ℕ) (come : Come) (watcher : Watcher) : Type 0 where
  pub ran : HasRun size come.given watcher.session
  pub begun : watcher.line.items ≡ come.line

-- all of that text was written, or a prefix of it where the answer is a fault
abbrev pub Adds : {A : Type 0} → Result A ScriptFault → List ℕ → Option (List ℕ) → Option (List ℕ) → Type 0
Adds result text old new = (output : List ℕ) × Appends old new output × IsPrefix output text × OnOk result (output ≡ text)

-- On so many servers: `input` was read, `left` is what the reader has left, if that is known, and `output` was written.
abbrev pub Watches : ℕ → Result (Unit {0}) ScriptFault → List ℕ → Option (List ℕ) → List ℕ → Type 0
Watches size result input left output = IsPrefix output (watched_text size input) × OnOk result (IsAtEnd left × (output ≡ watched_text size input))
