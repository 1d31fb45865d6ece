use Rattle.std.proofs.Common.{◌≡◌, ◌-◌}
use Rattle.cq_wire.specs.Reading.{several_at, delivery_at}
use Rattle.cq_wire.proofs.Loop.{behind}
use Rattle.cq_wire.proofs.replies.several_of.Given as goal

abbrev pub invariant-loop : goal.invariant-loop
invariant-loop l = behind l.deliveries.items (several_at delivery_at (l.count - l.counter) l.rest) ≡ several_at delivery_at l.count l.bytes
