-- Up to the first of these bytes, or all.
use Rattle.std.proofs.Common.{length, arith}
use Rattle.cq_kept_base.proofs.Escapes.{line_until}
use Rattle.cq_kept_base.proofs.stuffing.line_in_front.Goals as goal

pub returns-in-Some-clause-line : goal.returns-in-Some-clause-line
returns-in-Some-clause-line c =
    let first = c.in-Some.ensures in
    line_until c.args.bytes.now c.in-Some.place first.0.before (omega (arith, first.0.high))

pub returns-in-Some-clause-within : goal.returns-in-Some-clause-within
returns-in-Some-clause-within c = omega (arith, c.in-Some.ensures.0.high)

pub returns-in-None-clause-line : goal.returns-in-None-clause-line
returns-in-None-clause-line c = line_until c.args.bytes.now (length c.args.bytes.now) c.in-None.ensures (omega arith)
