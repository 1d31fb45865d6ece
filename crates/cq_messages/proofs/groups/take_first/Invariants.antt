-- The numbers that the loop has passed are others.
use Rattle.std.proofs.Common.{◌≡◌, ◌++◌, take, drop}
use Rattle.cq_messages.specs.within.Groups.{without}
use Rattle.cq_messages.proofs.groups.take_first.Given as goal

abbrev pub invariant-loop-i : goal.invariant-loop-i
invariant-loop-i l = record {
  same : l.numbers.items ≡ l.initial.numbers.items;
  passed : without l.number l.numbers.items ≡ take l.i l.numbers.items ++ without l.number (drop l.i l.numbers.items);
}
