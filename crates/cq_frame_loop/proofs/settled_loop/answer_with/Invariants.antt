-- Each frame of the input so far was answered, what was told is settled and written, and an unfinished frame is left. Each read took a
-- byte at least.
use Rattle.std.proofs.Common.{◌≡◌, ◌≤◌, ◌<◌, ◌+◌, ◌⊎◌, true, [], List, ℕ, length, take, vec_capacity}
use Rattle.std.specs.Io.KnownBytes.{Consumes, Appends}
use Rattle.cq_frames.specs.declared.frame.TheConstants.{FRAME_LIMIT}
use Rattle.cq_frame_loop.specs.Cutting.{frames_behind}
use Rattle.cq_frame_loop.specs.within.Advances.{Advances}
use Rattle.cq_frame_loop.specs.declared.handler.TheConstants.{ANSWER_ROOM}
use Rattle.cq_frame_loop.proofs.settled_loop.answer_with.Given as goal

abbrev pub invariant-loop : goal.invariant-loop
invariant-loop g l =
    (input output : List ℕ) × Consumes (g.R.Read.remaining l.initial.reader) (g.R.Read.remaining l.reader) input
    × Appends (g.W.SettledSink.taken l.initial.writer) (g.W.SettledSink.taken l.writer) output
    × Advances g.H.SettlingHandler.answers l.initial.handler 0 input output l.handler l.passed (take l.len l.buffer)
    × (frames_behind l.passed (take l.len l.buffer) ≡ []) × (l.len < FRAME_LIMIT + 4) × (l.out.items ≡ []) × (l.end.items ≡ []) × (ANSWER_ROOM ≤ vec_capacity l.end)
    × (l.counter ≤ length input) × ((input ≡ []) ⊎ (g.W.SettledSink.is_passed_on l.writer ≡ true)) × g.H.SettlingHandler.is_ready l.handler × g.H.SettlingHandler.is_settled l.handler
