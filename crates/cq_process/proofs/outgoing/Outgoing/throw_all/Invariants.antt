-- So far messages were put, one at each turn, as long as the core stood for something.
use Rattle.std.proofs.Common.{◌≤◌}
use Rattle.cq_process.specs.Putting.{Throws}
use Rattle.cq_process.proofs.Throwing.{Counts}
use Rattle.cq_process.proofs.outgoing.Outgoing.throw_all.Given as goal

abbrev pub invariant-loop : goal.invariant-loop
invariant-loop l = record {
  throws : Throws l.initial.core l.core l.to l.initial.self l.self;
  few : l.self.put ≤ l.counter;
  counts : Counts l.initial.core l.core l.to l.initial.self l.self l.counter;
}
