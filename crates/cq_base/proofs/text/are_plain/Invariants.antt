-- So far each byte is plain, unless one was found that isn't.
use Rattle.std.proofs.Common.{◌≡◌, ◌<◌, ◌≤◌, ◌-◌, ℕ, true, get_or}
use Rattle.cq_base.specs.within.PlainBytes.{IsPlain}
use Rattle.cq_base.proofs.text.are_plain.Given as goal

abbrev pub invariant-loop-at : goal.invariant-loop-at
invariant-loop-at l = l.plain ≡ true → (k : ℕ) → l.from ≤ k → k < l.at → IsPlain (get_or l.bytes (k - 2) 0) (get_or l.bytes (k - 1) 0) (get_or l.bytes k 0)
