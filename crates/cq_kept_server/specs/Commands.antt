-- Commands at the only server of a chain.
use Rattle.std.specs.Prelude.{◌≡◌, ℕ, ◌+◌, Bool, true, false, List, length, min, Option, None, Some, Ok}
use Rattle.cq_base.specs.declared.party.Party.{Party}
use Rattle.cq_base.specs.declared.party.Party.TheVariants as parties
use Rattle.cq_frames.specs.declared.command.Command.{Command}
use Rattle.cq_frames.specs.declared.command.Command.TheVariants as commands
use Rattle.cq_frames.specs.Reading.{command_at}
use Rattle.cq_wire.specs.Reading.{whole_at}
use Rattle.cq_records.specs.declared.frame.TheConstants.{TEXT_LIMIT}

abbrev pub is_clients : Party → Bool
is_clients parties.Clients = true
is_clients parties.Master = false
is_clients (parties.Server id) = false

-- whether a command means something to it: it takes nothing from others, and others have nothing from it
abbrev pub is_here : Command → Bool
is_here (commands.Arrive stream clock request) = true
is_here (commands.Ask query) = true
is_here (commands.More to) = is_clients to
is_here commands.Save = true
is_here (commands.Take from number piece) = false
is_here (commands.Gone server) = false
is_here (commands.Detect server) = false
is_here (commands.Join server) = false
is_here (commands.Load chunk) = false

-- whether it neither brings an entry nor takes a piece
abbrev pub is_plain : Command → Bool
is_plain (commands.Arrive stream clock request) = false
is_plain (commands.Take from number piece) = false
is_plain (commands.Ask query) = true
is_plain (commands.More to) = true
is_plain commands.Save = true
is_plain (commands.Gone server) = true
is_plain (commands.Detect server) = true
is_plain (commands.Join server) = true
is_plain (commands.Load chunk) = true

-- so is the command of the bytes of a frame, if they are one
abbrev pub IsPlain : Option (List ℕ) → Type 0
IsPlain None = Unit {0}
IsPlain (Some bytes) = (one : Command) → whole_at command_at bytes ≡ Ok one → is_plain one ≡ true

-- How many bytes the piece of an entry has at most that comes with these.
abbrev pub room_for : List ℕ → ℕ
room_for bytes = min (length bytes + length bytes) TEXT_LIMIT
