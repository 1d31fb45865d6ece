-- Up to the first of these bytes, or all.
use Rattle.std.proofs.Common.{length, arith}
use Rattle.cq_kept_base.proofs.Escapes.{unescaped_until}
use Rattle.cq_kept_base.proofs.stuffing.unescaped_in_front.Goals as goal

pub returns-in-Some-clause-unescaped : goal.returns-in-Some-clause-unescaped
returns-in-Some-clause-unescaped c =
    let first = c.in-Some.ensures in
    unescaped_until c.args.bytes.now c.in-Some.place first.0.before (omega (arith, first.0.high))

pub returns-in-Some-clause-within : goal.returns-in-Some-clause-within
returns-in-Some-clause-within c = omega (arith, c.in-Some.ensures.0.high)

pub returns-in-None-clause-unescaped : goal.returns-in-None-clause-unescaped
returns-in-None-clause-unescaped c = unescaped_until c.args.bytes.now (length c.args.bytes.now) c.in-None.ensures (omega arith)
