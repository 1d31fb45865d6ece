-- Added are the numbers that the loop has passed, up to `size` of all.
use Rattle.std.proofs.Common.{◌≡◌, ◌++◌, take}
use Rattle.cq_messages.proofs.open.push_group.Given as goal

abbrev pub invariant-loop-i : goal.invariant-loop-i
invariant-loop-i l = l.numbers.items ≡ take l.size (l.initial.numbers.items ++ take l.i l.group.numbers)
