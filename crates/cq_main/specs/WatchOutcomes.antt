-- What the program has done when a session was watched.
use Rattle.std.specs.Prelude.{ℕ, Bool, List, Option, Result}
use Rattle.std.specs.Io.KnownBytes.{Appends, Consumes}
use Rattle.cq_lines.specs.declared.fault.ScriptFault.{ScriptFault}
use Rattle.cq_main.specs.Outcomes.{Ends}
use Rattle.cq_watching.specs.Watching.{Watches}

-- The lines of a session were watched on so many servers, to the end of the program.
abbrev pub RunsWatch : ℕ → ℕ → Option (List ℕ) → Option (List ℕ) → Option (List ℕ) → Option (List ℕ) → Bool → Option (List ℕ) → Option (List ℕ) → Type 0
RunsWatch size status unread left written output failed old new =
    (answer : Result (Unit {0}) ScriptFault) × (input : List ℕ) × (text : List ℕ) × Consumes unread left input × Appends written output text
    × Watches size answer input left text × Ends answer status failed old new
