-- It is about the members that the loop hasn't passed.
use Rattle.std.proofs.Common.{◌≡◌, ℕ, List, ◌∷◌, drop}
use Rattle.cq_chain.specs.Masters.{closing}
use Rattle.cq_chain.proofs.master.neighbours.closing.Given as goal

abbrev pub invariant-loop-i : goal.invariant-loop-i
invariant-loop-i l = (p : ℕ) (rest : List ℕ) → l.chain ≡ p ∷ rest → (q : ℕ) (more : List ℕ) → drop l.i l.chain ≡ q ∷ more → closing p l.id rest ≡ closing q l.id more
