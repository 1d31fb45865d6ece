-- What is told of a line.
use Rattle.std.specs.Prelude.{ℕ, List, Bool, true, false, Some, None}
use Rattle.cq_explain.specs.declared.finding.Finding.{Finding}
use Rattle.cq_explain.specs.declared.finding.Finding.TheVariants.{Nothing, Bad, Refused}
use Rattle.cq_lines.specs.Grammars.{Grammar}

-- whether a line is told as bad
abbrev pub is_bad : Finding → Bool
is_bad Nothing = false
is_bad (Bad why) = true
is_bad (Refused why) = false

-- lines that have no values, and of which none is a fault
abbrev pub silent_grammar : Grammar (Unit {0})
silent_grammar = record { line_value = λ n bytes. Some None; overlong_value = λ n. Some None }
