-- What a line of a script says. A line is the list of its bytes, its line feed left out.
use Rattle.std.specs.Prelude.{ℕ, ◌≡◌, List, if◌then◌else◌, Option, Some, None, Result, Ok, Err}
use Rattle.std.specs.List.{list_all}
use Rattle.cq_lines.specs.Lines.{is_blank_byte}
use Rattle.cq_script.specs.Events.{event_in}
use Rattle.cq_json.specs.Fields.{Reason, bad, refused, ◌>>=◌, or_bad, json_of}
use Rattle.cq_events.specs.declared.event.Event.{Event}
use Rattle.cq_script.specs.declared.event_line.Line.{Line}
use Rattle.cq_script.specs.declared.event_line.Line.TheVariants as lines
use Rattle.cq_lines.specs.declared.parser.LineFault.{LineFault}
use Rattle.cq_lines.specs.declared.parser.LineFault.TheVariants.{Bad, NoMemory}

-- the event that the bytes say
abbrev pub event_from : List ℕ → Result Event Reason
event_from bytes = or_bad (json_of bytes) >>= event_in

-- the line that says this
abbrev pub line_saying : Result Event Reason → Option Line
line_saying (Ok event) = Some (lines.Event event)
line_saying (Err bad) = None
line_saying (Err (refused fault)) = Some (lines.Refused fault)

-- what the line says; none: it is bad
unfoldable pub line_of : List ℕ → Option Line
line_of bytes = if list_all is_blank_byte bytes then Some lines.Blank else line_saying (event_from bytes)

-- the line was read as it says, unless memory was at fault
abbrev pub Reads : Result Line LineFault → Option Line → Type 0
Reads (Ok line) says = says ≡ Some line
Reads (Err Bad) says = says ≡ None
Reads (Err NoMemory) says = Unit {0}
