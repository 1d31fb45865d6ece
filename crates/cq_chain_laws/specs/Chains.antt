-- The processes of a chain, how it begins, and what a host has to keep between them.
use Rattle.std.specs.Prelude.{◌≡◌, ◌<◌, ◌≤◌, ℕ, List, [], ◌∷◌, ◌++◌, length, map, Bool, true, false, Option, None, Some, ◌⊎◌}
use Rattle.cq_base.specs.declared.ask.Entry.{Entry}
use Rattle.cq_base.specs.declared.limits.TheConstants.{HISTORY_LIMIT}
use Rattle.cq_base.specs.declared.party.Party.{Party}
use Rattle.cq_base.specs.declared.party.Party.TheVariants as parties
use Rattle.cq_base.specs.Relations.{Among}
use Rattle.cq_chain.specs.Parties.{same}
use Rattle.cq_chain.specs.Servers.{Server}
use Rattle.cq_events.specs.Actions.{Action, Crashed, Detected, event_of}
use Rattle.cq_events.specs.Events.{another_full}
use Rattle.cq_events.specs.Orders.{of_party}
use Rattle.cq_events.specs.Owners.{party_of}
use Rattle.cq_events.specs.Runs.{world_after}
use Rattle.cq_events.specs.Worlds.{World, first_world, is_in}
use Rattle.cq_events.specs.declared.event.Event.{Event}
use Rattle.cq_events.specs.declared.event.Event.TheVariants as events
use Rattle.cq_frame_loop.specs.Chains.{Step}
use Rattle.cq_master_process.specs.declared.process.MasterProcess.{MasterProcess}
use Rattle.cq_process_laws.specs.Passing.{AreAsTold, Numbered, pieces_for}
use Rattle.cq_process_laws.specs.Runs as servers
use Rattle.cq_real_time.specs.Interleavings.{another_full_by_log, puts_on, takes_on}
use Rattle.cq_real_time.specs.Loading.{arrivals_of, loaded}
use Rattle.cq_server_process.specs.declared.process.ServerProcess.{ServerProcess}
use Rattle.cq_server_process.specs.Answers.{State}
use Rattle.cq_store.specs.Laws.{Stamped}
use Rattle.cq_store.specs.Stands.{count_of}
use Rattle.cq_chain_laws.specs.Masters as masters

-- How a chain begins: with so many servers that have nothing, or with one that has these entries.
pub data Start : Type 0 where
  First : ℕ → Start
  Loaded : List Entry → Start

abbrev pub world_of : Start → World
world_of (First size) = first_world size
world_of (Loaded entries) = loaded entries

-- with how many servers
abbrev pub size_of : Start → ℕ
size_of (First size) = size
size_of (Loaded entries) = 1

-- and what has happened by then, from the first world of so many servers on
abbrev pub past_of : Start → List Event
past_of (First size) = []
past_of (Loaded entries) = arrivals_of entries

-- There is a server. The moments of entries never fall, and there are at most 2^62 of them, as it is with what any server ever had.
abbrev pub IsSound : Start → Type 0
IsSound (First size) = 1 ≤ size
IsSound (Loaded entries) = Stamped entries × (length entries ≤ HISTORY_LIMIT)

-- A server's process that began with a server of that state, and what it did. By the law of runs each is one.
pub record ServerRun (s : Server) : Type 0 where
  pub first : State
  pub steps : List (Step ServerProcess)
  pub last : State
  pub run : servers.IsRun s first steps last

-- The same of the master of a first chain of so many servers.
pub record MasterRun (size : ℕ) : Type 0 where
  pub first : MasterProcess
  pub steps : List (Step MasterProcess)
  pub last : MasterProcess
  pub run : masters.IsRun size first steps last

-- The processes of a chain that begins so: that of the master, those of the servers that were started, each as a member of the first chain
-- or as one that joins, and which of these crashed.
pub record Processes (start : Start) : Type 0 where
  pub master : MasterRun (size_of start)
  pub server : (id : ℕ) → Option (ServerRun ((world_of start).server id))
  pub has_crashed : ℕ → Bool

-- ---- what each did

-- a crash, of a server that has so many entries
abbrev pub crash_of : Bool → State → List Action
crash_of false last = []
crash_of true last = Crashed (count_of last.core.replica.store) ∷ []

abbrev pub actions_of_server : {s : Server} → Bool → Option (ServerRun s) → List Action
actions_of_server has_crashed None = []
actions_of_server has_crashed (Some one) = servers.all_actions one.run.done ++ crash_of has_crashed one.last

abbrev pub actions_of : {start : Start} → Processes start → Party → List Action
actions_of c (parties.Server id) = actions_of_server (c.has_crashed id) (c.server id)
actions_of c parties.Master = masters.actions_in c.master.run.done
actions_of c parties.Clients = []

-- ---- what each told the others

abbrev pub told_by_server : {s : Server} → Party → Option (ServerRun s) → List Numbered
told_by_server to None = []
told_by_server to (Some one) = pieces_for to (servers.told_in one.run.done)

-- the pieces that a party told for another one
abbrev pub told_by : {start : Start} → Processes start → Party → Party → List Numbered
told_by c (parties.Server from) to = told_by_server to (c.server from)
told_by c parties.Master to = pieces_for to (masters.told_in c.master.run.done)
told_by c parties.Clients to = []

abbrev pub came_to_server : {s : Server} → Party → Option (ServerRun s) → List Numbered
came_to_server from None = []
came_to_server from (Some one) = servers.brought_from from one.steps one.run.done

-- the pieces that came to a party from another one, in turn
abbrev pub came_to : {start : Start} → Processes start → Party → Party → List Numbered
came_to c from (parties.Server to) = came_to_server from (c.server to)
came_to c from parties.Master = masters.brought_from from c.master.steps c.master.run.done
came_to c from parties.Clients = []

-- Each piece that came to a party from another one was told by that one, with its number.
abbrev pub AreCarried : {start : Start} → Processes start → Type 0
AreCarried c = (from to : Party) → AreAsTold (told_by c from to) (came_to c from to)

-- ---- one order in time

-- One order in time of what the processes did.
pub record IsInTime {start : Start} (c : Processes start) (order : List Event) : Type 0 where
  -- the events of each party are what its process did
  pub each : (p : Party) → of_party p order ≡ map (event_of p) (actions_of c p)
  -- each message was put before it was taken
  pub causes : (from to : Party) (before rest : List Event) → order ≡ before ++ (events.Take from to ∷ rest) → takes_on from to before < puts_on from to before
  -- a detection comes behind the crash of that server, and nothing of a server comes behind its crash
  pub detections : (id : ℕ) (before rest : List Event) → order ≡ before ++ (events.Detect id ∷ rest) → Among (events.Crash id) before
  pub silence : (id : ℕ) (before rest : List Event) (event : Event) → order ≡ before ++ (events.Crash id ∷ rest) → Among event rest → same (parties.Server id) (party_of event) ≡ false
  -- where a server crashes, another one is full and lives
  pub survivors : (id : ℕ) (before rest : List Event) → order ≡ before ++ (events.Crash id ∷ rest) → another_full (world_after (world_of start) before) id ≡ true
  -- what a server does that the master didn't know at the start comes behind its join
  pub joins : (id : ℕ) (before rest : List Event) (event : Event) → order ≡ before ++ (event ∷ rest) → same (parties.Server id) (party_of event) ≡ true
      → (is_in (world_of start).master.used id ≡ true) ⊎ Among (events.Join id) before

-- One order in time of what the processes did, in which servers crash as the master's log says: a server crashes when it is detected, and a
-- crash that isn't detected is no event.
pub record IsByTheLog {start : Start} (c : Processes start) (order : List Event) : Type 0 where
  -- the events of each party are what its process did
  pub each : (p : Party) → of_party p order ≡ map (event_of p) (actions_of c p)
  -- each message was put before it was taken
  pub causes : (from to : Party) (before rest : List Event) → order ≡ before ++ (events.Take from to ∷ rest) → takes_on from to before < puts_on from to before
  -- a detection comes behind the crash of that server, each crash stands just before a detection, and nothing of a server
  -- comes behind its detection
  pub detections : (id : ℕ) (before rest : List Event) → order ≡ before ++ (events.Detect id ∷ rest) → Among (events.Crash id) before
  pub crashes : (id : ℕ) (before rest : List Event) → order ≡ before ++ (events.Crash id ∷ rest) → (later : List Event) × (rest ≡ events.Detect id ∷ later)
  pub silence : (id : ℕ) (before rest : List Event) (event : Event) → order ≡ before ++ (events.Detect id ∷ rest) → Among event rest → same (parties.Server id) (party_of event) ≡ false
  -- where the master detects a server, another member is full by what the master did before: it was at the start, or its Ready was taken
  pub others : (id : ℕ) (log rest : List Action) → actions_of c parties.Master ≡ log ++ (Detected id ∷ rest) → another_full_by_log (world_of start) log id ≡ true
  -- what a server does that the master didn't know at the start comes behind its join
  pub joins : (id : ℕ) (before rest : List Event) (event : Event) → order ≡ before ++ (event ∷ rest) → same (parties.Server id) (party_of event) ≡ true
      → (is_in (world_of start).master.used id ≡ true) ⊎ Among (events.Join id) before
