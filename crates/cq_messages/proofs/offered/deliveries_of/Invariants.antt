-- Listed are the messages of the numbers that the loop has passed.
use Rattle.std.proofs.Common.{◌≡◌, map, take}
use Rattle.cq_base.specs.queue.Receiving.{delivery_of}
use Rattle.cq_messages.specs.within.Offered.{numbered}
use Rattle.cq_messages.specs.Slots.{live}
use Rattle.cq_messages.proofs.offered.deliveries_of.Given as goal

abbrev pub invariant-loop-i : goal.invariant-loop-i
invariant-loop-i l = l.deliveries.items ≡ map (delivery_of l.incarnation) (numbered (live l.slots) (take l.i l.numbers))
