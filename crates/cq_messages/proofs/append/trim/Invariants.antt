-- What is left is a prefix with the same messages.
use Rattle.std.proofs.Common.{◌≡◌, ◌≤◌, take, length}
use Rattle.cq_messages.specs.Slots.{live}
use Rattle.cq_messages.proofs.append.trim.Given as goal

abbrev pub invariant-loop-len : goal.invariant-loop-len
invariant-loop-len l = record {
  prefix : l.slots.items ≡ take l.len l.initial.slots.items;
  within : l.len ≤ length l.initial.slots.items;
  same : live (take l.len l.initial.slots.items) ≡ live l.initial.slots.items;
}

abbrev pub decreases-loop-len : goal.decreases-loop-len
decreases-loop-len l = l.len
