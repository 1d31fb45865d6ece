-- What the lines of a script write, run on a world of servers.
use Rattle.std.specs.Prelude.{ℕ, List, [], ◌∷◌, ◌++◌, Option, None, Some, Result, Ok, Err}
use Rattle.cq_chain.specs.declared.fault.WorldFault.{WorldFault}
use Rattle.cq_chain.specs.declared.message.Answer.{Answer}
use Rattle.cq_chain.specs.Faults as worlds
use Rattle.cq_events.specs.Events.{refusal_of, given_by, after}
use Rattle.cq_events.specs.Worlds.{World, first_world}
use Rattle.cq_events.specs.declared.event.Event.{Event}
use Rattle.cq_script.specs.Faults.{line_code_of, line_name_of}
use Rattle.cq_answers.specs.Answers.{answer_text, refused_text}
use Rattle.cq_script.specs.declared.fault.LineRefusal.{LineRefusal}
use Rattle.cq_script.specs.declared.script_line.ScriptLine.{ScriptLine}

-- the line that gives an answer, if there is one
abbrev pub given_text : ℕ → Option Answer → List ℕ
given_text n None = []
given_text n (Some answer) = answer_text n answer

-- the line of an event, where that is its refusal: of the answer that it gives, or of the refusal
abbrev pub event_text : ℕ → World → Event → Option WorldFault → List ℕ
event_text n w event None = given_text n (given_by w event)
event_text n w event (Some fault) = refused_text n (worlds.code_of fault) (worlds.name_of fault)

-- what is written by the line with that number, which says an event, or has a text that breaks its rule
abbrev pub line_text : ℕ → World → Result Event LineRefusal → List ℕ
line_text n w (Ok event) = event_text n w event (refusal_of w event)
line_text n w (Err refusal) = refused_text n (line_code_of refusal) (line_name_of refusal)

-- the world after such a line: a text that breaks its rule does nothing
abbrev pub after_line : World → Result Event LineRefusal → World
after_line w (Ok event) = after w event
after_line w (Err refusal) = w

-- What a line writes: one line of output with its line feed, or nothing.
unfoldable pub output : World → ScriptLine → List ℕ
output w line = line_text line.number w line.event

-- what lines write from a world on
unfoldable pub text_from : World → List ScriptLine → List ℕ
text_from w [] = []
text_from w (line ∷ lines) = output w line ++ text_from (after_line w line.event) lines

-- What the lines of a script write, on a first world of so many servers.
unfoldable pub text_of : ℕ → List ScriptLine → List ℕ
text_of size lines = text_from (first_world size) lines

-- ---- events apart from their lines

-- the event that a line says, if it says one
abbrev pub events_in : Result Event LineRefusal → List Event
events_in (Ok event) = event ∷ []
events_in (Err refusal) = []

-- the events that lines say, in order
unfoldable pub events_of : List ScriptLine → List Event
events_of [] = []
events_of (line ∷ lines) = events_in line.event ++ events_of lines
