-- Frames: a length, in four bytes, and so many bytes.
use Rattle.std.specs.Prelude.{◌≡◌, ℕ, ◌≤◌, List, ◌++◌, length, Ok, nat_le}
use Rattle.std.specs.Int.{w32}
use Rattle.cq_frames.specs.declared.frame.TheConstants.{FRAME_LIMIT}
use Rattle.cq_wire.specs.declared.fault.WireFault.TheVariants.{BadNumber}
use Rattle.cq_wire.specs.Layout.{text}
use Rattle.cq_wire.specs.Reading.{◌>>=◌, Reader, kept, number_at, bytes_at}

-- What is read of a frame: its bytes. It is truncated where they aren't all there, and its number is bad where they are too many.
unfoldable pub frame_at : Reader (List ℕ)
frame_at bytes = do
  n ← number_at w32 bytes
  few ← kept (nat_le n.0 FRAME_LIMIT) BadNumber n
  bytes_at few.0 few.1

-- What is written as a frame is cut off as that frame, whatever stands behind it.
abbrev pub AreCutOff : Type 0
AreCutOff = (bytes rest : List ℕ) → length bytes ≤ FRAME_LIMIT → frame_at (text bytes ++ rest) ≡ Ok (bytes, rest)
