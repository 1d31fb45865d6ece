-- What a client does next, and where it puts its requests from then on.
use Rattle.std.specs.Prelude.{ℕ, ◌+◌, nat_lt, true, if◌then◌else◌}
use Rattle.cq_nodes.specs.declared.client_node.TheConstants.{PATIENCE}
use Rattle.cq_nodes.specs.declared.client_node.Due.{Due}
use Rattle.cq_nodes.specs.declared.client_node.Due.TheVariants.{Next, Again, Back}
use Rattle.cq_nodes.specs.declared.client_node.Pace.{Pace}

-- its next ask, where no request is open; as long as it waits for an answer, what was handed back; and then the open request
-- again
abbrev pub due_of : Pace → Due
due_of pace = if pace.is_open then (if nat_lt (pace.waited + 1) PATIENCE then Back else Again) else Next

-- the place behind that one, of so many: the first behind the last
abbrev pub place_behind : ℕ → ℕ → ℕ
place_behind links place = if nat_lt (place + 1) links then place + 1 else 0

-- after what was due, with so many links
abbrev pub pace_after : ℕ → Pace → Pace
pace_after links pace = if pace.is_open then (if nat_lt (pace.waited + 1) PATIENCE then record pace { waited = pace.waited + 1 } else record pace { target = place_behind links pace.target; waited = 0 }) else record pace { is_open = true; waited = 0 }
