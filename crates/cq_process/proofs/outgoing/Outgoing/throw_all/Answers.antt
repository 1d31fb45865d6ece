-- One message more is put at each turn.
use Rattle.std.proofs.Common.{arith}
use Rattle.cq_process.proofs.Throwing.{counts-more, throws-more, throws-none}
use Rattle.cq_process.proofs.outgoing.Outgoing.throw_all.Goals as goal

pub loop-init : goal.loop-init
loop-init c = record {
  throws = throws-none c.args.core.now c.args.to c.args.self.now;
  few = omega (arith, c.last_put-counter.ensures);
  counts = λ back s outbox w. c.last_put-counter.ensures;
}

pub loop-preserved : goal.loop-preserved
loop-preserved c =
    let at = c.loop in
    record {
      throws = throws-more c.args.core.now at.core c.throw_next.new.core c.args.to c.args.self.now at.self c.throw_next.new.self at.invariant.throws c.throw_next.ensures.throws;
      few = let was = at.invariant.few in let one = c.throw_next.ensures.few in omega arith;
      counts = counts-more c.args.core.now at.core c.throw_next.new.core c.args.to c.args.self.now at.self c.throw_next.new.self at.counter at.invariant.throws at.invariant.counts (c.throw_next.ensures.counts c.if-throw_next.false);
    }

pub returns-then-throw_next-clause-throws : goal.returns-then-throw_next-clause-throws
returns-then-throw_next-clause-throws c =
    let at = c.loop in
    throws-more c.args.core.now at.core c.throw_next.new.core c.args.to c.args.self.now at.self c.throw_next.new.self at.invariant.throws c.throw_next.ensures.throws
