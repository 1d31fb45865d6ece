-- What a piece of a message makes of what was read of it, and what a core does with the message.
use Rattle.std.specs.Prelude.{◌≡◌, ℕ, ◌+◌, ◌==◌, ◌&&◌, Bool, nat_lt, List, Option, None, Result, Ok, Err, ⊤}
use Rattle.cq_base.specs.declared.party.Party.{Party}
use Rattle.cq_chain.specs.declared.message.Message as rust
use Rattle.cq_chain.specs.declared.server.Server as rust_server
use Rattle.cq_chain.specs.Faults.{IsRefusal}
use Rattle.cq_chain.specs.Messages as messages
use Rattle.cq_chain.specs.Refusals.{refusal_of_taking}
use Rattle.cq_chain.specs.Servers as states
use Rattle.cq_chain.specs.Stands.{Means}
use Rattle.cq_chain_wire.specs.declared.reader.Progress.{Progress}
use Rattle.cq_chain_wire.specs.declared.reader.Progress.TheVariants.{More, Whole}
use Rattle.cq_chain_wire.specs.Feeding.{piece_fed}
use Rattle.cq_events.specs.Actions.{Took}
use Rattle.cq_events.specs.Acts.{Acts}
use Rattle.cq_frames.specs.declared.number.PieceNumber.{PieceNumber}
use Rattle.cq_process.specs.declared.incoming.TakeFault.{TakeFault}
use Rattle.cq_process.specs.declared.incoming.TakeFault.TheVariants as faults
use Rattle.cq_process.specs.declared.incoming.Taken.{Taken}
use Rattle.cq_process.specs.declared.incoming.Taken.TheVariants as what
use Rattle.cq_process.specs.declared.outgoing.TheConstants.{LINK_LIMIT}
use Rattle.cq_store_wire.specs.declared.build.State.{State}
use Rattle.cq_wire.specs.declared.fault.WireFault.{WireFault}
use Rattle.cq_wire.specs.Reading.{Fails}

-- The piece is the next one: of the message behind the last one that was taken, the one behind those that were read of it.
abbrev pub is_next : PieceNumber → ℕ → ℕ → Bool
is_next number taken pieces = (number.message == taken + 1) && ((number.index == pieces) && nat_lt number.index LINK_LIMIT)

-- nothing of a message was read
abbrev pub nothing : Progress
nothing = More None

-- What was read, with the next piece. A message that is whole stays so, whatever comes: it waits for the core.
abbrev pub read_on : List ℕ → Progress → Result Progress WireFault
read_on bytes (More so_far) = piece_fed bytes so_far
read_on bytes (Whole m) = Ok (Whole m)

-- the core takes a message of that party
abbrev pub TakesOne : rust_server.Server → rust_server.Server → (Party → Option rust.Message) → Party → rust.Message → Type 0
TakesOne old new back from message = Acts (Took from message) (record { core = old; back = back }) (record { core = new; back = back })

-- The core takes the message that was read as whole, whatever was handed back for others.
pub record TakesNext (read : Result Progress WireFault) (old new : rust_server.Server) (from : Party) : Type 0 where
  pub message : rust.Message
  pub whole : read ≡ Ok (Whole message)
  pub done : (back : Party → Option rust.Message) → TakesOne old new back from message

-- What a call tells of what was read: some pieces, or all of them, or the fault.
abbrev pub IsReadAs : Result Taken TakeFault → Result Progress WireFault → Type 0
IsReadAs (Ok what.Piece) read = (so_far : Option State) × (read ≡ Ok (More so_far))
IsReadAs (Ok what.Message) read = (m : rust.Message) × (read ≡ Ok (Whole m))
IsReadAs (Err faults.NotNext) read = ⊤
IsReadAs (Err (faults.Unread fault)) read = Fails fault read
IsReadAs (Err (faults.Refused fault)) read = (m : rust.Message) × (read ≡ Ok (Whole m))

-- the number of the last message that was taken, by what it was before the call
abbrev pub number_after : Result Taken TakeFault → ℕ → ℕ
number_after (Ok what.Piece) number = number
number_after (Ok what.Message) number = number + 1
number_after (Err fault) number = number

-- how many pieces were read of the next message, by how many they were before the call
abbrev pub pieces_after : Result Taken TakeFault → ℕ → ℕ
pieces_after (Ok what.Piece) pieces = pieces + 1
pieces_after (Ok what.Message) pieces = 0
pieces_after (Err faults.NotNext) pieces = pieces
pieces_after (Err (faults.Unread fault)) pieces = 0
pieces_after (Err (faults.Refused fault)) pieces = pieces

-- What is left of the next message behind a call: what was there or what was read, or nothing.
abbrev pub IsLeft : Result Taken TakeFault → Progress → Result Progress WireFault → Progress → Type 0
IsLeft (Ok what.Piece) before read after = read ≡ Ok after
IsLeft (Ok what.Message) before read after = after ≡ nothing
IsLeft (Err faults.NotNext) before read after = after ≡ before
IsLeft (Err (faults.Unread fault)) before read after = after ≡ nothing
IsLeft (Err (faults.Refused fault)) before read after = read ≡ Ok after

-- The core in that state refuses the message that is left, by the fault that is told. Want of memory is told only where nothing
-- else refuses.
abbrev pub IsRefusedFor : Result Taken TakeFault → Party → states.Server → Progress → Type 0
IsRefusedFor (Err (faults.Refused fault)) from s (Whole x) = (m : messages.Message) → Means x m → IsRefusal fault (refusal_of_taking from m s)
IsRefusedFor result from s left = ⊤
