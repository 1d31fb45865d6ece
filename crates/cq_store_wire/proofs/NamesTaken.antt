-- What holds of the names up to a place.
use Rattle.std.proofs.Common.{ℕ, zero, suc, ◌≤◌, List, [], ◌∷◌, length, take, arith}
use Rattle.std.specs.Prelude.{slice_get}
use Rattle.std.specs.List.{AllByRecursion}
use Rattle.cq_store.specs.Stands.{QueueRecord}
use Rattle.cq_wire.specs.Limits.{IfThere}
use Rattle.cq_store_wire.specs.Laws.{IsName}

pub one-more : (names : List (List ℕ × QueueRecord)) (i : ℕ) → AllByRecursion IsName (take i names) → IfThere IsName (slice_get names i) → AllByRecursion IsName (take (suc i) names)
one-more [] zero all one = tt
one-more [] (suc i) all one = tt
one-more (n ∷ ns) zero all one = (one, tt)
one-more (n ∷ ns) (suc i) all one = (all.0, one-more ns i all.1 one)

pub all-taken : (names : List (List ℕ × QueueRecord)) (i : ℕ) → length names ≤ i → AllByRecursion IsName (take i names) → AllByRecursion IsName names
all-taken [] i past all = tt
all-taken (n ∷ ns) zero past all = absurd (omega (arith, past))
all-taken (n ∷ ns) (suc i) past all = (all.0, all-taken ns i (omega (arith, past)) all.1)
