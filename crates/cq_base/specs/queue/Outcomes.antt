-- What entries do. The rules of the queues are told entry by entry: what an entry does follows from
-- what those before it did.
use Rattle.std.specs.Prelude.{ℕ, ◌==◌, ◌&&◌, List, Bool}
use Rattle.std.specs.List.{filter}
use Rattle.std.specs.Str.{bytes_eq}
use Rattle.cq_base.specs.declared.ask.Entry.{Entry}
use Rattle.cq_base.specs.declared.reply.Reply.{Reply}
use Rattle.cq_base.specs.queue.Asks.{queue_of}

-- What an entry did.
pub record Outcome : Type 0 where
  -- the entry itself
  pub entry : Entry
  -- its number was above all earlier numbers of its client
  pub fresh : Bool
  -- the number of the incarnation by which its queue lived just before it; 0 if by none, or not fresh
  pub incarnation : ℕ
  -- its creation, removal, delete or change took effect, or its send was accepted
  pub effective : Bool
  -- of a creation or a removal that took effect, the number of the incarnation; of an accepted send, and
  -- of a delete or a change that took effect, the sequence number of the message; else 0
  pub count : ℕ
  -- the sequence numbers of the messages that it handed out, in order
  pub handed : List ℕ
  -- what it was answered with
  pub reply : Reply

-- the outcome is of a fresh entry that names the queue
abbrev pub is_about : List ℕ → Outcome → Bool
is_about queue f = f.fresh && bytes_eq (queue_of f.entry.request.ask) queue

-- The outcomes of the fresh entries that name a queue. All that a fresh entry does follows from those
-- about its own queue.
unfoldable pub about : List ℕ → List Outcome → List Outcome
about queue outcomes = filter (is_about queue) outcomes

-- the outcome is of an entry that came while its queue lived by the incarnation of number n
abbrev pub is_on : ℕ → Outcome → Bool
is_on n f = f.incarnation == n

-- of the outcomes about a queue, those on one incarnation
unfoldable pub on : ℕ → List Outcome → List Outcome
on n outcomes = filter (is_on n) outcomes
