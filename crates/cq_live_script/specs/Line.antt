-- What a line of a live run says. A line is the list of its bytes, its line feed left out.
use Rattle.std.specs.Prelude.{ℕ, List, if◌then◌else◌, Option, Some, None, Result, Ok, Err}
use Rattle.std.specs.List.{list_all}
use Rattle.cq_json.specs.Fields.{Reason, ◌>>=◌, or_bad, json_of}
use Rattle.cq_live_plan.specs.declared.step.LiveStep.{LiveStep}
use Rattle.cq_lines.specs.Lines.{is_blank_byte}
use Rattle.cq_live_script.specs.Steps.{step_in}

-- the step that the bytes say
abbrev pub step_from : List ℕ → Result LiveStep Reason
step_from bytes = or_bad (json_of bytes) >>= step_in

-- the line that says this: it is bad also where a text in it breaks that text's rule
abbrev pub line_saying : Result LiveStep Reason → Option (Option LiveStep)
line_saying (Ok step) = Some (Some step)
line_saying (Err reason) = None

-- the step that the line says, if it isn't blank; none: it is bad
unfoldable pub step_line : List ℕ → Option (Option LiveStep)
step_line bytes = if list_all is_blank_byte bytes then Some None else line_saying (step_from bytes)
