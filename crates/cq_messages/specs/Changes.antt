-- What becomes of messages by a send, a receive, a change and a delete, and the numbers of those that a receive hands out.
use Rattle.std.specs.Prelude.{ℕ, ◌+◌, ◌==◌, List, map, Bool, not, if◌then◌else◌}
use Rattle.std.specs.List.{list_any}
use Rattle.cq_base.specs.queue.Messages.{Message}
use Rattle.cq_base.specs.queue.Receiving.{to_hand}

-- a message that was never handed out
abbrev pub new_message : ℕ → List ℕ → List ℕ → Message
new_message sequence group body = record { sequence = sequence; group = group; body = body; handings = 0; handed_at = 0; until = 0 }

-- the message after one more handing, hidden up to `end`
abbrev pub handed_at_until : ℕ → ℕ → Message → Message
handed_at_until moment end m = record m { handings = m.handings + 1; handed_at = moment; until = end }

-- its sequence number is one of these
abbrev pub is_numbered_in : List ℕ → Message → Bool
is_numbered_in numbers m = list_any (λ n. n == m.sequence) numbers

-- the message after a receive that hands out the messages of these sequence numbers
abbrev pub marked : ℕ → ℕ → List ℕ → Message → Message
marked moment end numbers m = if is_numbered_in numbers m then handed_at_until moment end m else m

-- the message of that sequence number is hidden up to `end`; others stay
abbrev pub hidden_until : ℕ → ℕ → Message → Message
hidden_until sequence end m = if m.sequence == sequence then record m { until = end } else m

-- the message has another sequence number
abbrev pub is_other : ℕ → Message → Bool
is_other sequence m = not (m.sequence == sequence)

-- the sequence numbers of the messages
abbrev pub numbers_of : List Message → List ℕ
numbers_of messages = map (λ m. m.sequence) messages

-- those of what a receive hands out
abbrev pub numbers_to_hand : ℕ → ℕ → List Message → List ℕ
numbers_to_hand size moment messages = numbers_of (to_hand size moment messages)
