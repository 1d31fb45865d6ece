-- Copied are the slots that the loop has passed.
use Rattle.std.proofs.Common.{◌≡◌, take}
use Rattle.cq_messages.proofs.copies.copies.Given as goal

abbrev pub invariant-loop-slot : goal.invariant-loop-slot
invariant-loop-slot l = l.copy.items ≡ take l.slot-index l.slots
