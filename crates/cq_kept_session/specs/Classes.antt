-- Which lines find room when little is left.
use Rattle.std.specs.Prelude.{ℕ, ◌/◌, Option, Some, None}
use Rattle.cq_base.specs.declared.ask.Ask.{Ask}
use Rattle.cq_base.specs.declared.ask.Ask.TheVariants.{Create, Remove, Send, Receive, Delete, Change}
use Rattle.cq_events.specs.declared.event.Event.{Event}
use Rattle.cq_events.specs.declared.event.Event.TheVariants as events
use Rattle.cq_script.specs.declared.event_line.Line.{Line}
use Rattle.cq_script.specs.declared.event_line.Line.TheVariants as lines
use Rattle.cq_kept_session.specs.declared.class.LineClass.{LineClass}
use Rattle.cq_kept_session.specs.declared.class.LineClass.TheVariants.{Adds, Changes, Frees, Moves}

-- what an ask does to what a session holds
abbrev pub class_of_ask : Ask → LineClass
class_of_ask (Create queue visibility content) = Adds
class_of_ask (Send queue group dedup body) = Adds
class_of_ask (Receive queue size visibility) = Changes
class_of_ask (Change queue receipt visibility) = Changes
class_of_ask (Remove queue) = Frees
class_of_ask (Delete queue receipt) = Frees

-- what an event does; an answer is given by a put
abbrev pub class_of_event : Event → LineClass
class_of_event (events.Arrive at clock request) = class_of_ask request.ask
class_of_event (events.Ask at query) = Changes
class_of_event (events.Put source target) = Moves
class_of_event (events.Take source target) = Moves
class_of_event (events.Crash server) = Changes
class_of_event (events.Detect server) = Changes
class_of_event (events.Join server) = Changes

-- what a line does; one that says no event is the first to be refused
abbrev pub class_of_line : Option Line → LineClass
class_of_line (Some (lines.Event event)) = class_of_event event
class_of_line (Some lines.Blank) = Adds
class_of_line (Some (lines.Refused fault)) = Adds
class_of_line None = Adds

-- how many bytes of the last region are kept from lines of this class, for those of the later ones
abbrev pub reserve_of : LineClass → ℕ → ℕ
reserve_of Adds len = len / 2
reserve_of Changes len = len / 4
reserve_of Frees len = len / 64
reserve_of Moves len = 0
