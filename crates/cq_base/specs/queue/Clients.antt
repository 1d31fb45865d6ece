-- Repeats of a client's requests, known by the client's own numbers. That a client may ask again
-- under the same number, and gets the kept reply, is a rule of this project; it does the work of
-- SQS's `ReceiveRequestAttemptId`.
use Rattle.std.specs.Prelude.{ℕ, ◌==◌, ◌&&◌, List, Bool, nat_lt, Option, option_map}
use Rattle.std.specs.List.{filter, find, list_all, list_any}
use Rattle.cq_base.specs.declared.reply.Reply.{Reply}
use Rattle.cq_base.specs.queue.Outcomes.{Outcome}

-- the outcome is of an entry of the client
abbrev pub is_of_client : ℕ → Outcome → Bool
is_of_client client f = f.entry.request.client == client

-- its number is below this one
abbrev pub is_numbered_below : ℕ → Outcome → Bool
is_numbered_below number f = nat_lt f.entry.request.number number

-- its number is above this one
abbrev pub is_numbered_above : ℕ → Outcome → Bool
is_numbered_above number f = nat_lt number f.entry.request.number

-- the outcomes of the client's entries
unfoldable pub of_client : ℕ → List Outcome → List Outcome
of_client client outcomes = filter (is_of_client client) outcomes

-- A number is fresh if it is above all earlier numbers of its client.
unfoldable pub is_fresh : ℕ → ℕ → List Outcome → Bool
is_fresh client number outcomes = list_all (is_numbered_below number) (of_client client outcomes)

-- A number is stale if it is below an earlier number of its client. One that is neither fresh nor
-- stale equals the largest so far: its entry is a repeat.
unfoldable pub is_stale : ℕ → ℕ → List Outcome → Bool
is_stale client number outcomes = list_any (is_numbered_above number) (of_client client outcomes)

-- the outcome is of a fresh entry with that number
abbrev pub is_fresh_with : ℕ → Outcome → Bool
is_fresh_with number f = f.fresh && f.entry.request.number == number

-- the reply that the client's fresh entry of that number had
unfoldable pub kept_reply : ℕ → ℕ → List Outcome → Option Reply
kept_reply client number outcomes = option_map (λ f. f.reply) (find (is_fresh_with number) (of_client client outcomes))
