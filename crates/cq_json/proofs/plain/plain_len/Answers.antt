use Rattle.std.proofs.Common.{◌-◌, length, take, drop, arith, length-drop}
use Rattle.std.proofs.lemmas.List.{length-take}
use Rattle.std.proofs.lemmas.List.Sums.{prefix_len-le-length}
use Rattle.json.specs.Run.{is_plain}
use Rattle.cq_json.proofs.PlainLanes.{plain_on, plain_up_to}
use Rattle.cq_json.proofs.plain.plain_len.Goals as goal

pub returns-then-plain-lt-LANES : goal.returns-then-plain-lt-LANES
returns-then-plain-lt-LANES c =
    let r = c.plain_lanes-plain.result in
    let run = plain_up_to c.args.bytes.now c.loop-len.len 16 r (omega arith) c.plain_lanes-plain.ensures (omega arith) in
    omega (arith, run, c.loop-len.invariant.0)

pub loop-len-preserved : goal.loop-len-preserved
loop-len-preserved c =
    let r = c.plain_lanes-plain.result in
    let run = plain_on c.args.bytes.now c.loop-len.len 16 r (omega arith) c.plain_lanes-plain.ensures (omega arith) in
    (omega (arith, run, c.loop-len.invariant.0), omega arith)

pub overflow_add-result-2 : goal.overflow_add-result-2
overflow_add-result-2 c =
    let b = c.args.bytes.now in
    let behind = take (length b - c.loop-len.len) (drop c.loop-len.len b) in
    omega (arith, c.plain_len_by_bytes.ensures, prefix_len-le-length is_plain behind, length-take (length b - c.loop-len.len) (drop c.loop-len.len b), length-drop c.loop-len.len b)
