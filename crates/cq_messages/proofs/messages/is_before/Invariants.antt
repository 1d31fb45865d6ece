-- None that the loop has passed is that number.
use Rattle.std.proofs.Common.{◌≡◌, ◌==◌, take, get_or, false}
use Rattle.std.specs.List.{list_any}
use Rattle.cq_messages.proofs.messages.is_before.Given as goal

abbrev pub invariant-loop-i : goal.invariant-loop-i
invariant-loop-i l = list_any (λ n. n == get_or l.numbers l.place 0) (take l.i l.numbers) ≡ false
