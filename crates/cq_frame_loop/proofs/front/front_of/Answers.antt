-- By how many bytes are there, and what they say.
use Rattle.std.proofs.Common.{◌≡◌, take, drop, arith}
use Rattle.cq_frame_loop.specs.Cutting.{said_size}
use Rattle.cq_frame_loop.proofs.Cuts.{begins_overlong, begins_whole, unfinished_short, unfinished_cut}
use Rattle.cq_frame_loop.proofs.front.front_of.Goals as goal

pub returns-then-bytes-lt4-clause-unfinished : goal.returns-then-bytes-lt4-clause-unfinished
returns-then-bytes-lt4-clause-unfinished c = unfinished_short c.args.bytes.now (omega arith)

pub overflow_add-result : goal.overflow_add-result
overflow_add-result c = let small = c.size_of-size.ensures.small in omega (arith, small)

pub returns-then-size-gt-FRAME_LIMIT-clause-begins :
    goal.returns-then-size-gt-FRAME_LIMIT-clause-begins
returns-then-size-gt-FRAME_LIMIT-clause-begins c =
    let is = c.size_of-size.ensures.value in
    begins_overlong c.args.bytes.now _ (omega arith) (omega arith) (omega arith)

pub returns-then-rest-size-clause-unfinished : goal.returns-then-rest-size-clause-unfinished
returns-then-rest-size-clause-unfinished c =
    let is = c.size_of-size.ensures.value in
    unfinished_cut c.args.bytes.now (omega arith) (omega arith) (omega (arith, c.split_at.ensures.back_len))

pub returns-clause-begins : goal.returns-clause-begins
returns-clause-begins c =
    let is = c.size_of-size.ensures.value in
    let front = c.split_at-2.ensures.front in
    let back = c.split_at.ensures.back in
    let part : c.split_at-2.result.0.now ≡ take (said_size c.args.bytes.now) (drop 4 c.args.bytes.now) = cc in
    begins_whole c.args.bytes.now _ _ (omega arith) (omega arith) (omega (arith, c.split_at.ensures.back_len)) part (omega arith)
