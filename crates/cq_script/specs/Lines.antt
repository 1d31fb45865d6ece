-- The script that bytes stand for, and the lines of a session.
use Rattle.std.specs.Prelude.{ℕ, List, Option, None, Some, option_map, Ok, Err}
use Rattle.cq_lines.specs.Lines.{lines_of}
use Rattle.cq_lines.specs.Grammars.{Grammar, Parsed, parse_text, values_from}
use Rattle.cq_lines.specs.declared.limits.Limits.{Limits}
use Rattle.cq_lines.specs.declared.limits.TheConstants.{LINE_LIMIT, LINES_LIMIT}
use Rattle.cq_script.specs.declared.event_line.Line.{Line}
use Rattle.cq_script.specs.declared.event_line.Line.TheVariants.{Blank, Event, Refused}
use Rattle.cq_script.specs.declared.fault.LineRefusal.{LineRefusal}
use Rattle.cq_script.specs.declared.fault.LineRefusal.TheVariants.{Text, Bad, TooLong}
use Rattle.cq_script.specs.declared.script_line.ScriptLine.{ScriptLine}
use Rattle.cq_script.specs.Line.{line_of}

-- line n, unless it is blank
abbrev pub numbered : ℕ → Line → Option ScriptLine
numbered n Blank = None
numbered n (Event event) = Some (record { number = n; event = Ok event })
numbered n (Refused fault) = Some (record { number = n; event = Err (Text fault) })

-- ---- scripts

-- the lines of a script, where one that is bad or overlong is a fault
abbrev pub script_grammar : Grammar ScriptLine
script_grammar = record { line_value = λ n bytes. option_map (numbered n) (line_of bytes); overlong_value = λ n. None }

-- a line has at most 2 MiB, and a script at most a million of them
abbrev pub script_limits : Limits
script_limits = record { line_len = LINE_LIMIT; line_count = LINES_LIMIT }

-- the script that bytes stand for
abbrev pub script_of : List ℕ → Parsed ScriptLine
script_of bytes = parse_text script_grammar script_limits bytes

-- ---- sessions

-- line n, which is refused as a whole
abbrev pub refused_line : ℕ → LineRefusal → Option ScriptLine
refused_line n refusal = Some (record { number = n; event = Err refusal })

-- line n as in a script, or refused where it is bad
abbrev pub or_refused : ℕ → Option (Option ScriptLine) → Option ScriptLine
or_refused n None = refused_line n Bad
or_refused n (Some line) = line

-- the lines of a session, of which none is a fault
abbrev pub session_grammar : Grammar ScriptLine
session_grammar = record {
  line_value = λ n bytes. Some (or_refused n (script_grammar.line_value n bytes));
  overlong_value = λ n. Some (refused_line n TooLong);
}

-- The lines of a session. There is no limit to their number.
unfoldable pub session_lines : List ℕ → List ScriptLine
session_lines bytes = values_from session_grammar LINE_LIMIT 1 (lines_of bytes)
