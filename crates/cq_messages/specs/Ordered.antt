-- Messages in order of their sequence numbers, and those behind one.
use Rattle.std.specs.Prelude.{ℕ, ◌<◌, List, [], ◌∷◌, Bool, nat_lt}
use Rattle.std.specs.List.{filter}
use Rattle.cq_base.specs.queue.Messages.{Message}

-- the messages are in order of sequence numbers, which are all above b
abbrev pub IsRising : ℕ → List Message → Type 0
IsRising b [] = Unit {0}
IsRising b (m ∷ ms) = (b < m.sequence) × IsRising m.sequence ms

-- the message has a larger sequence number
abbrev pub is_after : ℕ → Message → Bool
is_after sequence m = nat_lt sequence m.sequence

-- the messages that have one
abbrev pub all_after : ℕ → List Message → List Message
all_after sequence messages = filter (is_after sequence) messages
