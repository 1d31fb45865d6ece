-- The events that JSON objects say: which keys an object has, and in which order its faults count.
-- All members are read before a text is looked at, so an object with any other fault is bad.
use Rattle.std.specs.Prelude.{ℕ, [], ◌∷◌, codes, if◌then◌else◌, Result, Ok, Err}
use Rattle.std.specs.Str.{bytes_eq}
use Rattle.serde_json.specs.Data.{Data}
use Rattle.cq_base.specs.declared.limits.TheConstants.{MOMENT_LIMIT, PARTY_LIMIT, NUMBER_LIMIT}
use Rattle.cq_base.specs.declared.party.Party.{Party}
use Rattle.cq_json.specs.Fields.{Reason, bad, ◌>>=◌, has_only, member_at, text_at, number_at, party_at, queue_name}
use Rattle.cq_json.specs.Asks.{ask_in}
use Rattle.cq_events.specs.declared.event.Event.{Event}
use Rattle.cq_events.specs.declared.event.Event.TheVariants as events

-- A request of a client reaches a server. Servers count from 1, and moments go up to 2^60 (choices of
-- this project).
unfoldable pub arrive_in : Data → Result Event Reason
arrive_in d = if has_only (codes "op" ∷ codes "at" ∷ codes "clock" ∷ codes "client" ∷ codes "number" ∷ codes "ask" ∷ []) d then (do
  at ← number_at 1 PARTY_LIMIT (codes "at") d
  clock ← number_at 0 MOMENT_LIMIT (codes "clock") d
  client ← number_at 0 PARTY_LIMIT (codes "client") d
  number ← number_at 0 NUMBER_LIMIT (codes "number") d
  inner ← member_at (codes "ask") d
  ask ← ask_in inner
  Ok (events.Arrive at clock (record { client = client; number = number; ask = ask }))) else Err bad

-- A query of a client reaches a server.
unfoldable pub query_in : Data → Result Event Reason
query_in d = if has_only (codes "op" ∷ codes "at" ∷ codes "client" ∷ codes "tag" ∷ codes "queue" ∷ []) d then (do
  at ← number_at 1 PARTY_LIMIT (codes "at") d
  client ← number_at 0 PARTY_LIMIT (codes "client") d
  tag ← number_at 0 NUMBER_LIMIT (codes "tag") d
  name ← text_at (codes "queue") d
  queue ← queue_name name
  Ok (events.Ask at (record { client = client; tag = tag; queue = queue }))) else Err bad

-- both ends of an event that has nothing else
unfoldable pub ends_in : Data → Result (Party × Party) Reason
ends_in d = if has_only (codes "op" ∷ codes "from" ∷ codes "to" ∷ []) d then (do
  from ← party_at (codes "from") d
  to ← party_at (codes "to") d
  Ok (from, to)) else Err bad

-- the event of a link, if both ends are said
abbrev pub of_ends : (Party → Party → Event) → Result (Party × Party) Reason → Result Event Reason
of_ends event ends = ends >>= λ link. Ok (event link.0 link.1)

-- the server of an event that has nothing else
unfoldable pub server_in : Data → Result ℕ Reason
server_in d = if has_only (codes "op" ∷ codes "server" ∷ []) d then number_at 1 PARTY_LIMIT (codes "server") d else Err bad

-- the event of a server, if there is one
abbrev pub of_server : (ℕ → Event) → Result ℕ Reason → Result Event Reason
of_server event server = server >>= λ id. Ok (event id)

-- the event that the object says, by its operation
unfoldable pub event_in : Data → Result Event Reason
event_in d = do
  op ← text_at (codes "op") d
  if bytes_eq op (codes "arrive") then arrive_in d
      else (if bytes_eq op (codes "ask") then query_in d
      else (if bytes_eq op (codes "put") then of_ends events.Put (ends_in d)
      else (if bytes_eq op (codes "take") then of_ends events.Take (ends_in d)
      else (if bytes_eq op (codes "crash") then of_server events.Crash (server_in d)
      else (if bytes_eq op (codes "detect") then of_server events.Detect (server_in d)
      else (if bytes_eq op (codes "join") then of_server events.Join (server_in d) else Err bad))))))
