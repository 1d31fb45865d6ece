-- The grammar of lines that turn a switch.
use Rattle.std.specs.Prelude.{ℕ, List, codes, if◌then◌else◌, Option, None, Some}
use Rattle.std.specs.List.{list_all}
use Rattle.std.specs.Str.{bytes_eq}
use Rattle.cq_lines.specs.Lines.{is_blank_byte}
use Rattle.cq_lines.specs.Grammars.{Grammar}
use Rattle.cq_lines_tests.specs.declared.switches.Switch.{Switch}
use Rattle.cq_lines_tests.specs.declared.switches.Switch.TheVariants.{On, Off, Overlong}

abbrev pub switch_line : List ℕ → Option (Option Switch)
switch_line bytes =
    if list_all is_blank_byte bytes then Some None
    else (if bytes_eq bytes (codes "on") then Some (Some On)
    else (if bytes_eq bytes (codes "off") then Some (Some Off) else None))

abbrev pub switch_grammar : Grammar Switch
switch_grammar = record { line_value = λ n bytes. switch_line bytes; overlong_value = λ n. Some (Some (Overlong n)) }
