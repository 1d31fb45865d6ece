-- What is kept beside what stands for the entries: room, and a bound on the moments that are kept.
use Rattle.std.specs.Prelude.{ℕ, ◌≤◌, List, Option, None, Some, ⊤, nat_lt, if◌then◌else◌}
use Rattle.cq_base.specs.declared.reply.Reply.{Reply}
use Rattle.cq_base.specs.declared.reply.Reply.TheVariants.{Refused}
use Rattle.cq_base.specs.declared.reply.Refusal.TheVariants.{StaleNumber}
use Rattle.cq_base.specs.queue.Incarnations.{Incarnation}
use Rattle.cq_store.specs.Stands.{ClientRecord}

-- what is kept of clients
pub record ClientTable : Type 0 where
  pub kept : List (ℕ × ClientRecord)
  -- how many more clients can be kept without memory
  pub room : ℕ

-- nothing came to the queue after that moment
abbrev pub CameBy : ℕ → Option Incarnation → Type 0
CameBy moment None = ⊤
CameBy moment (Some q) = q.last ≤ moment

-- What a client is answered again under that number, by what is kept of it; nothing, if the number is above the
-- kept one.
abbrev pub again_of : Option ClientRecord → ℕ → Option Reply
again_of None number = None
again_of (Some kept) number = if nat_lt kept.number number then None else if nat_lt number kept.number then Some (Refused StaleNumber) else Some kept.reply
