-- The messages of the numbers that the loop has passed are handed out.
use Rattle.std.proofs.Common.{◌≡◌, take, map}
use Rattle.cq_messages.specs.Changes.{marked}
use Rattle.cq_messages.proofs.messages.Messages.mark.Given as goal

abbrev pub invariant-loop-i : goal.invariant-loop-i
invariant-loop-i l = l.self ≡ map (marked l.moment l.end (take l.i l.numbers)) l.initial.self
