-- No message before the place is behind the number.
use Rattle.cq_messages.specs.Ordered.{is_after}
use Rattle.cq_messages.specs.within.Passing.{NonePasses}
use Rattle.cq_messages.proofs.messages.restore.first_after.Given as goal

abbrev pub invariant-loop-place : goal.invariant-loop-place
invariant-loop-place l = NonePasses (is_after l.sequence) l.slots 0 l.place
