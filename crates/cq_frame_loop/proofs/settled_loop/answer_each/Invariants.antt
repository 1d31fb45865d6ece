-- The frames before the rest were answered. What was told of them is settled and written, or stands in `out` where a frame follows.
use Rattle.std.proofs.Common.{◌≡◌, ◌⊎◌, ◌≤◌, ◌++◌, [], List, ℕ, Option, length, vec_capacity}
use Rattle.std.specs.Io.KnownBytes.{Appends}
use Rattle.cq_frame_loop.specs.within.Advances.{BeginsWith}
use Rattle.cq_frame_loop.specs.within.Settled.{Proceeds}
use Rattle.cq_frame_loop.specs.declared.handler.TheConstants.{ANSWER_ROOM}
use Rattle.cq_frame_loop.proofs.settled_loop.answer_each.Given as goal

abbrev pub invariant-loop-frame : goal.invariant-loop-frame
invariant-loop-frame g l =
    (output : List ℕ) × Appends (g.W.SettledSink.taken l.initial.writer) (g.W.SettledSink.taken l.writer) output
    × Proceeds g.H.SettlingHandler.answers g.H.SettlingHandler.is_settled l.initial.handler l.count l.bytes output l.out.items l.handler l.passed l.rest
    × (1 ≤ length l.rest → l.passed ≡ 0) × ((front : List ℕ) × (l.bytes ≡ front ++ l.rest)) × (l.end.items ≡ []) × (ANSWER_ROOM ≤ vec_capacity l.end)
    × g.H.SettlingHandler.is_ready l.handler × ((g.H.SettlingHandler.is_settled l.handler × (l.out.items ≡ [])) ⊎ ((frame : Option (List ℕ)) × (size : ℕ) × BeginsWith l.rest frame size))

abbrev pub decreases-loop-frame : goal.decreases-loop-frame
decreases-loop-frame g l = length l.rest
