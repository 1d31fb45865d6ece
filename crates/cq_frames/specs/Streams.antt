-- The streams of arrivals.
use Rattle.std.specs.Prelude.{◌≡◌, ℕ, ◌==◌, List, [], ◌∷◌, Option, None, Some, Result, Ok, Err, if◌then◌else◌}
use Rattle.std.specs.Int.{w64}
use Rattle.cq_frames.specs.declared.command.Command.{Command}
use Rattle.cq_frames.specs.declared.command.Command.TheVariants as commands
use Rattle.cq_frames.specs.Reading.{command_at}
use Rattle.cq_wire.specs.declared.fault.WireFault.{WireFault}
use Rattle.cq_wire.specs.declared.version.TheConstants.{VERSION}
use Rattle.cq_wire.specs.Reading.{number_at, whole_at}

-- the stream of a command, if it is an arrival
abbrev pub stream_in : Command → Option ℕ
stream_in (commands.Arrive stream clock one) = Some stream
stream_in other = None

-- what is read first, if it is
abbrev pub first_of : {A : Type 0} → Result (A × List ℕ) WireFault → Option A
first_of (Ok x) = Some x.0
first_of (Err fault) = None

-- the stream, behind the version
unfoldable pub stream_at : List ℕ → Option ℕ
stream_at [] = None
stream_at (kind ∷ rest) = if kind == 0 then first_of (number_at w64 rest) else None

-- The stream of the arrival that bytes begin with, whatever stands behind its number. None where they don't begin as those of an arrival.
unfoldable pub stream_of : List ℕ → Option ℕ
stream_of [] = None
stream_of (version ∷ rest) = if version == VERSION then stream_at rest else None

-- What is read of bytes has the stream that they begin with.
abbrev pub StreamsAreFirst : Type 0
StreamsAreFirst = (bytes : List ℕ) (x : Command) → whole_at command_at bytes ≡ Ok x → stream_of bytes ≡ stream_in x
