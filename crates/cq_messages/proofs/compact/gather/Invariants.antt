-- Gathered is what stood beside the slots that the loop has passed; behind it all is as before.
use Rattle.std.proofs.Common.{◌≡◌, ℕ, ◌≤◌, length, get_or, take}
use Rattle.cq_messages.specs.declared.slot.Slot.{Slot}
use Rattle.cq_messages.specs.within.Gathered.{IsBeside, full_slots}
use Rattle.cq_messages.proofs.compact.gather.Given as goal

abbrev pub invariant-loop-from : goal.invariant-loop-from
invariant-loop-from g l = record {
  long : length (g.T.NumberList.numbers l.beside) ≡ length (g.T.NumberList.numbers l.initial.beside);
  to : l.to ≡ length (full_slots (take l.from l.slots));
  prefix : (f : Slot → ℕ) → IsBeside f l.slots (g.T.NumberList.numbers l.initial.beside) → IsBeside f (full_slots (take l.from l.slots)) (g.T.NumberList.numbers l.beside);
  rest : (k : ℕ) → l.from ≤ k → get_or (g.T.NumberList.numbers l.beside) k 0 ≡ get_or (g.T.NumberList.numbers l.initial.beside) k 0;
}
