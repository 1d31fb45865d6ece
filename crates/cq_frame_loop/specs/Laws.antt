-- Laws of how an input is cut.
use Rattle.std.specs.Prelude.{◌≡◌, ℕ, ◌<◌, ◌^◌, nat_le, if◌then◌else◌, List, ◌++◌, length, map, Option, Some, None}
use Rattle.std.specs.List.{flat_map}
use Rattle.cq_base.specs.Relations.{Among}
use Rattle.cq_frames.specs.declared.frame.TheConstants.{FRAME_LIMIT}
use Rattle.cq_wire.specs.Layout.{text}
use Rattle.cq_frame_loop.specs.Cutting.{frames_of}

-- bytes as they are read of a frame: none where they are too many
abbrev pub heard : List ℕ → Option (List ℕ)
heard bytes = if nat_le (length bytes) FRAME_LIMIT then Some bytes else None

-- What is written as frames, one behind another, is cut into just these frames, whatever stands behind them.
abbrev pub AreCut : Type 0
AreCut = (frames : List (List ℕ)) (rest : List ℕ) → ((bytes : List ℕ) → Among bytes frames → length bytes < 2 ^ 32)
    → frames_of (flat_map text frames ++ rest) ≡ map heard frames ++ frames_of rest
