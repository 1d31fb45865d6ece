-- What the steps of a live run ask for, and which steps it can't do.
use Rattle.std.specs.Prelude.{◌==◌, ℕ, zero, suc, ◌+◌, ◌&&◌, ◌||◌, not, nat_le, nat_lt, List, [], ◌∷◌, ◌++◌, length, map, Bool, true, false, if◌then◌else◌, Option, None, Some}
use Rattle.std.specs.List.{list_any}
use Rattle.cq_base.specs.declared.ask.Ask.{Ask}
use Rattle.cq_base.specs.declared.limits.TheConstants.{CHAIN_LIMIT}
use Rattle.cq_live_plan.specs.declared.joins.Join as planned
use Rattle.cq_live_plan.specs.declared.step.LiveStep.{LiveStep}
use Rattle.cq_live_plan.specs.declared.step.LiveStep.TheVariants.{Client, Crash, Join}

-- ---- what is asked for

-- what a client asks, in order
abbrev pub asks_of : ℕ → List LiveStep → List Ask
asks_of c [] = []
asks_of c (Client client ask ∷ steps) = if client == c then ask ∷ asks_of c steps else asks_of c steps
asks_of c (Crash server after ∷ steps) = asks_of c steps
asks_of c (Join server after ∷ steps) = asks_of c steps

-- the number of entries at which the first of the steps that crashes a server lets it crash
abbrev pub crash_of : ℕ → List LiveStep → Option ℕ
crash_of id [] = None
crash_of id (Client client ask ∷ steps) = crash_of id steps
crash_of id (Crash server after ∷ steps) = if server == id then Some after else crash_of id steps
crash_of id (Join server after ∷ steps) = crash_of id steps

-- the server joins from that turn of the master on
abbrev pub to_join : ℕ → ℕ → planned.Join
to_join server after = record { server = server; after = after }

-- which servers join by the steps, and from which turn on, in order
abbrev pub joins_of : List LiveStep → List planned.Join
joins_of [] = []
joins_of (Client client ask ∷ steps) = joins_of steps
joins_of (Crash server after ∷ steps) = joins_of steps
joins_of (Join server after ∷ steps) = to_join server after ∷ joins_of steps

-- these servers alone
abbrev pub joiners_of : List LiveStep → List ℕ
joiners_of steps = map (λ join. join.server) (joins_of steps)

-- ---- what can't be done

-- the step crashes that server
abbrev pub crashes : ℕ → LiveStep → Bool
crashes id (Crash server after) = server == id
crashes id step = false

-- the step lets that server join
abbrev pub joins : ℕ → LiveStep → Bool
joins id (Join server after) = server == id
joins id step = false

-- one of the steps crashes that server
abbrev pub is_crashed : List LiveStep → ℕ → Bool
is_crashed steps id = list_any (crashes id) steps

-- each server from 1 to that one is that server, or crashed by one of the steps
abbrev pub are_crashed : List LiveStep → ℕ → ℕ → Bool
are_crashed steps id zero = true
are_crashed steps id (suc n) = are_crashed steps id n && (n + 1 == id || is_crashed steps (n + 1))

-- A step can't be done behind those before it, in a chain that begins with so many servers: its client is neither 1 nor 2; it
-- crashes a server that isn't one of the first, or that was crashed before, or the last of them; or it lets one of the first
-- join, or one above the limit of servers, or one that joined before.
abbrev pub is_bad : ℕ → List LiveStep → LiveStep → Bool
is_bad size before (Client client ask) = not (client == 1 || client == 2)
is_bad size before (Crash id after) = nat_lt size id || is_crashed before id || are_crashed before id size
is_bad size before (Join id after) = nat_le id size || nat_lt CHAIN_LIMIT id || list_any (joins id) before

-- The number of the first step of these that can't be done, behind those before them. Numbers count from 1.
unfoldable pub first_bad : ℕ → List LiveStep → List LiveStep → Option ℕ
first_bad size before [] = None
first_bad size before (step ∷ steps) = if is_bad size before step then Some (length before + 1) else first_bad size (before ++ step ∷ []) steps
