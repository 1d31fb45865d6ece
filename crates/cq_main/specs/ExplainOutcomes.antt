-- What the program has done when lines were explained.
use Rattle.std.specs.Prelude.{◌≡◌, ◌⊎◌, ℕ, Bool, List, Option}
use Rattle.cq_lines.specs.declared.fault.ScriptFault.{ScriptFault}
use Rattle.cq_main.specs.Outcomes.{EndsAt}

-- It came to its end, and has told of a line or of none; or a fault ended it.
abbrev pub RunsExplain : ℕ → Bool → Option (List ℕ) → Option (List ℕ) → Type 0
RunsExplain status failed old new = (((status ≡ 0) ⊎ (status ≡ 2)) × (new ≡ old)) ⊎ ((fault : ScriptFault) × EndsAt fault status failed old new)
