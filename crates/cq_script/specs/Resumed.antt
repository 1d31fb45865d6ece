-- A session that goes on behind what was kept of its lines.
use Rattle.std.specs.Prelude.{ℕ, List, ◌++◌, Option, Result}
use Rattle.cq_base.specs.declared.ask.Entry.{Entry}
use Rattle.cq_events.specs.Worlds.{IsAlone, World, first_world}
use Rattle.cq_lines.specs.Lines.{ended_part}
use Rattle.cq_lines.specs.Progress.{HasRead, lines_read, with_earlier}
use Rattle.cq_lines.specs.declared.fault.ScriptFault.{ScriptFault}
use Rattle.cq_store.specs.Stands as stores
use Rattle.cq_script.specs.Lines.{session_grammar, session_lines}
use Rattle.cq_script.specs.declared.script_line.ScriptLine.{ScriptLine}
use Rattle.cq_script.specs.Sessions.{Sessions, SessionHeadlines, session_text}
use Rattle.cq_script.specs.declared.resumed.ResumedSession.{ResumedSession}
use Rattle.cq_script.specs.within.Played.{IsPlayed, after_lines, session_limits}

-- the lines that have ended in these bytes were run on so many servers, from the first one on
pub record HasRun (size : ℕ) (bytes : List ℕ) (session : ResumedSession) : Type 0 where
  pub written : List ℕ
  pub played : IsPlayed session_grammar session_limits size bytes session.lines session.sim written

-- What a session writes behind these bytes. With the text of their lines it is what one session writes on these bytes and the input.
abbrev pub GoesOn : ℕ → Result (Unit {0}) ScriptFault → List ℕ → List ℕ → Option (List ℕ) → List ℕ → Type 0
GoesOn size result before input left output = Sessions size result (before ++ input) left (session_text size (ended_part before) ++ output)

-- and it is told of one queue object, with the text of their lines
abbrev pub GoesOnByOneObject : ℕ → List ℕ → List ℕ → Option (List ℕ) → List ℕ → Type 0
GoesOnByOneObject size before input left output = SessionHeadlines size (before ++ input) left (session_text size (ended_part before) ++ output)

-- the world behind the lines that have ended in these bytes
abbrev pub world_behind : ℕ → List ℕ → World
world_behind size bytes = after_lines (first_world size) (session_lines (ended_part bytes))

-- how many lines have ended
abbrev pub lines_ended : ResumedSession → ℕ
lines_ended session = session.lines.lines

-- A store and a number of lines stand for these bytes, which were run on so many servers: so many lines have ended in them, none has
-- begun, and they leave one server alone, at rest, for whose entries the store stands.
pub record IsBaseOf (size : ℕ) (store : stores.StoreKept) (count : ℕ) (bytes : List ℕ) : Type 0 where
  pub lines : List ScriptLine
  pub read : HasRead session_grammar session_limits bytes (with_earlier lines (lines_read session_limits count))
  pub entries : List Entry
  pub stands : stores.StandsFor store entries
  pub alone : IsAlone entries (after_lines (first_world size) lines)
