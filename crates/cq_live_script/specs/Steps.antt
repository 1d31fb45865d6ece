-- The steps that JSON objects say: which keys an object has, and what they may be.
use Rattle.std.specs.Prelude.{ℕ, [], ◌∷◌, codes, if◌then◌else◌, Result, Ok, Err}
use Rattle.std.specs.Str.{bytes_eq}
use Rattle.serde_json.specs.Data.{Data}
use Rattle.cq_base.specs.declared.limits.TheConstants.{PARTY_LIMIT, NUMBER_LIMIT}
use Rattle.cq_json.specs.Asks.{ask_in}
use Rattle.cq_json.specs.Fields.{Reason, bad, ◌>>=◌, within, has_only, member_at, text_at, number_at}
use Rattle.cq_live_plan.specs.declared.step.LiveStep.{LiveStep}
use Rattle.cq_live_plan.specs.declared.step.LiveStep.TheVariants as steps
use Rattle.cq_live_script.specs.declared.step.TheConstants.{AFTER_LIMIT}

-- the client, which is 1 or 2
abbrev pub client_at : Data → Result ℕ Reason
client_at d = number_at 0 PARTY_LIMIT (codes "client") d >>= within 1 2

-- how many entries, or turns of the master, a step waits for: at most 2 ^ 62
abbrev pub after_at : Data → Result ℕ Reason
after_at d = number_at 0 NUMBER_LIMIT (codes "after") d >>= within 0 AFTER_LIMIT

-- the next ask of a client
unfoldable pub client_in : Data → Result LiveStep Reason
client_in d = if has_only (codes "op" ∷ codes "client" ∷ codes "ask" ∷ []) d then (do
  client ← client_at d
  inner ← member_at (codes "ask") d
  ask ← ask_in inner
  Ok (steps.Client client ask)) else Err bad

-- the server of a step that has no client, and how long the step waits
unfoldable pub server_in : Data → Result (ℕ × ℕ) Reason
server_in d = if has_only (codes "op" ∷ codes "server" ∷ codes "after" ∷ []) d then (do
  server ← number_at 1 PARTY_LIMIT (codes "server") d
  after ← after_at d
  Ok (server, after)) else Err bad

-- the step of a server, if both are said
abbrev pub of_server : (ℕ → ℕ → LiveStep) → Result (ℕ × ℕ) Reason → Result LiveStep Reason
of_server step said = said >>= λ both. Ok (step both.0 both.1)

-- the step that the object says, by its operation
unfoldable pub step_in : Data → Result LiveStep Reason
step_in d = do
  op ← text_at (codes "op") d
  if bytes_eq op (codes "client") then client_in d
      else (if bytes_eq op (codes "crash") then of_server steps.Crash (server_in d)
      else (if bytes_eq op (codes "join") then of_server steps.Join (server_in d) else Err bad))
