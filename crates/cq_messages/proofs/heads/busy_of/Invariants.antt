-- So far the latest of the timeouts of the messages that the loop has passed.
use Rattle.std.proofs.Common.{◌≡◌, take}
use Rattle.cq_messages.specs.Slots.{live, in_group, busy}
use Rattle.cq_messages.proofs.heads.busy_of.Given as goal

abbrev pub invariant-loop-i : goal.invariant-loop-i
invariant-loop-i l = l.most ≡ busy (take l.i (in_group l.group (live l.slots)))
