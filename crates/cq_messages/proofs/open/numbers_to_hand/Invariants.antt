-- Added are the groups whose leading messages the loop has passed, up to `size` of all.
use Rattle.std.proofs.Common.{◌≡◌, ◌≤◌, ◌-◌, take, length}
use Rattle.cq_messages.specs.within.Opened.{numbers_led, leaders_upto}
use Rattle.cq_messages.specs.Slots.{live}
use Rattle.cq_messages.proofs.open.numbers_to_hand.Given as goal

abbrev pub invariant-loop-from : goal.invariant-loop-from
invariant-loop-from l = record {
  within : l.from ≤ length l.slots;
  led : l.numbers.items ≡ take l.size (numbers_led (live l.slots) (leaders_upto l.moment l.slots l.from));
}

abbrev pub decreases-loop-from : goal.decreases-loop-from
decreases-loop-from l = length l.slots - l.from
