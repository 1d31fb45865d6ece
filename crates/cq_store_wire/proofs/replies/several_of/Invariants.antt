-- What was read, and what is still to be read, is all that is read.
use Rattle.std.proofs.Common.{◌≡◌, ◌-◌}
use Rattle.cq_wire.specs.Reading.{several_at}
use Rattle.cq_wire.proofs.Loop.{behind}
use Rattle.cq_store_wire.specs.Reading.{delivery_record_at}
use Rattle.cq_store_wire.proofs.replies.several_of.Given as goal

abbrev pub invariant-loop : goal.invariant-loop
invariant-loop l = behind l.records.items (several_at delivery_record_at (l.count - l.counter) l.rest) ≡ several_at delivery_record_at l.count l.bytes
