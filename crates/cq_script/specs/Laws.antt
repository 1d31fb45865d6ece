-- What a script writes, told by what the run of its events gives and refuses.
use Rattle.std.specs.Prelude.{◌≡◌, ℕ, ◌+◌, ◌==◌, if◌then◌else◌, List, [], ◌∷◌, ◌++◌, Option, None, Some, Result, Ok, Err}
use Rattle.cq_chain.specs.declared.fault.WorldFault.{WorldFault}
use Rattle.cq_chain.specs.declared.message.Answer.{Answer}
use Rattle.cq_chain.specs.Faults as worlds
use Rattle.cq_events.specs.Runs.{given_from, refused_from}
use Rattle.cq_events.specs.Worlds.{first_world}
use Rattle.cq_events.specs.declared.event.Event.{Event}
use Rattle.cq_script.specs.Faults.{line_code_of, line_name_of}
use Rattle.cq_answers.specs.Answers.{refused_text}
use Rattle.cq_script.specs.Output.{events_of, given_text, text_of}
use Rattle.cq_script.specs.declared.fault.LineRefusal.{LineRefusal}
use Rattle.cq_script.specs.declared.script_line.ScriptLine.{ScriptLine}

-- what has that number, if anything has
abbrev pub of_number : {A : Type 0} → ℕ → List (ℕ × A) → Option A
of_number n [] = None
of_number n (x ∷ xs) = if x.0 == n then Some x.1 else of_number n xs

-- the line of an event, by its refusal, if it was refused, and else by what it gave, if it gave something
abbrev pub outcome_text : ℕ → Option Answer → Option WorldFault → List ℕ
outcome_text line given None = given_text line given
outcome_text line given (Some fault) = refused_text line (worlds.code_of fault) (worlds.name_of fault)

-- what the line of that number writes, where the next event is the nth of a run that gave and refused this
abbrev pub line_by_run : ℕ → List (ℕ × Answer) → List (ℕ × WorldFault) → ℕ → Result Event LineRefusal → List ℕ
line_by_run n given refused line (Ok event) = outcome_text line (of_number n given) (of_number n refused)
line_by_run n given refused line (Err refusal) = refused_text line (line_code_of refusal) (line_name_of refusal)

-- the number of the next event behind such a line
abbrev pub number_after : ℕ → Result Event LineRefusal → ℕ
number_after n (Ok event) = n + 1
number_after n (Err refusal) = n

-- what lines write, where the next event is the nth of a run that gave and refused this
unfoldable pub told_by_run : ℕ → List (ℕ × Answer) → List (ℕ × WorldFault) → List ScriptLine → List ℕ
told_by_run n given refused [] = []
told_by_run n given refused (line ∷ lines) =
    line_by_run n given refused line.number line.event ++ told_by_run (number_after n line.event) given refused lines

-- The text of a script is that of what the run of its events gives and refuses, each at the line that says its event.
unfoldable pub TextIsOfTheRun : ℕ → List ScriptLine → Type 0
TextIsOfTheRun size lines =
    text_of size lines ≡ told_by_run 1 (given_from 1 (first_world size) (events_of lines)) (refused_from 1 (first_world size) (events_of lines)) lines
