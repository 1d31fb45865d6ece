-- The frames that an input is cut into.
use Rattle.std.specs.Prelude.{ℕ, zero, suc, ◌+◌, List, [], ◌∷◌, take, Option, None, Some, Result, Ok, Err}
use Rattle.std.specs.Int.{w32, from_le_bytes}
use Rattle.cq_frames.specs.Frames.{frame_at}
use Rattle.cq_wire.specs.declared.fault.WireFault.{WireFault}
use Rattle.cq_wire.specs.declared.fault.WireFault.TheVariants.{Truncated, BadTag, BadText, BadNumber, BytesLeft, OtherVersion}

-- how many bytes the frame has that begins here, its length left out, as its first four bytes say
unfoldable pub said_size : List ℕ → ℕ
said_size bytes = from_le_bytes w32 (take 4 bytes)

-- The frame that is read here, before those behind it: its bytes, or none where it is too long. Where its length or its bytes aren't all
-- there it is unfinished, and no frame.
abbrev pub frame_before : Result (List ℕ × List ℕ) WireFault → List (Option (List ℕ)) → List (Option (List ℕ))
frame_before (Ok read) later = Some read.0 ∷ later
frame_before (Err BadNumber) later = None ∷ later
frame_before (Err Truncated) later = []
frame_before (Err BadTag) later = []
frame_before (Err BadText) later = []
frame_before (Err BytesLeft) later = []
frame_before (Err OtherVersion) later = []

-- The frames of these bytes behind the first so many of them. A frame takes four bytes, and those that it says. So the bytes of one that is
-- too long are passed over like those of any other, and where they aren't all there, nothing is left.
unfoldable pub frames_behind : ℕ → List ℕ → List (Option (List ℕ))
frames_behind count [] = []
frames_behind zero (b ∷ bytes) = frame_before (frame_at (b ∷ bytes)) (frames_behind (3 + said_size (b ∷ bytes)) bytes)
frames_behind (suc count) (b ∷ bytes) = frames_behind count bytes

-- The frames of an input, in order; of one that is too long none. What is left at the end is an unfinished frame.
abbrev pub frames_of : List ℕ → List (Option (List ℕ))
frames_of input = frames_behind 0 input
