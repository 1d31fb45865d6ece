use Rattle.std.proofs.Common.{◌≡◌, ◌++◌, ℕ, List, length}
use Rattle.cq_kept_base.specs.Stuffing.{Stuffs}
use Rattle.cq_kept_base.proofs.stuffing.stuff.Given as goal

abbrev pub invariant-loop-rest : goal.invariant-loop-rest
invariant-loop-rest l = (done : List ℕ) × (done ++ l.rest ≡ l.initial.rest) × Stuffs l.initial.text.items l.text.items done

abbrev pub decreases-loop-rest : goal.decreases-loop-rest
decreases-loop-rest l = length l.rest
