-- The messages of sequence numbers.
use Rattle.std.specs.Prelude.{ℕ, List, option_to_list}
use Rattle.std.specs.List.{flat_map}
use Rattle.cq_base.specs.queue.Effects.{message_at}
use Rattle.cq_base.specs.queue.Messages.{Message}

-- the messages of these sequence numbers, in the order of the numbers
abbrev pub numbered : List Message → List ℕ → List Message
numbered ms numbers = flat_map (λ n. option_to_list (message_at n ms)) numbers
