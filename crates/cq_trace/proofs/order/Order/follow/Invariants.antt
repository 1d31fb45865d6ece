-- So far the events before this place came.
use Rattle.std.proofs.Common.{◌≡◌, ◌++◌, take, drop}
use Rattle.cq_trace.specs.within.Along.{Leads}
use Rattle.cq_trace.proofs.order.Order.follow.Given as goal

abbrev pub invariant-loop-place : goal.invariant-loop-place
invariant-loop-place l = record {
  leads : Leads l.self;
  size : l.self.size ≡ l.fn.self.size;
  came : l.self.events.items ≡ l.fn.self.events.items ++ drop l.fn.from (take l.place l.events);
}
