-- Where each place is before `end`, all numbers count that are at most the limit.
use Rattle.std.proofs.Common.{ℕ, List, arith}
use Rattle.cq_min_index.proofs.Counting.{counted-before}
use Rattle.cq_min_index.proofs.packed.count_between.Goals as goal

pub returns-then-places-end-clause-counted : goal.returns-then-places-end-clause-counted
returns-then-places-end-clause-counted c =
    let numbers : List ℕ = c.args.numbers.now in
    let places : List ℕ = c.args.places.now in
    let all = c.if-places-end.true in
    let long = c.requires.long in
    let within = c.requires.within in
    let order = c.requires.order in
    let counted = c.count_small_between.ensures.counted in
    let at_to = counted-before numbers places c.args.limit c.args.end c.args.to (λ j l. let p = c.requires.places j (omega arith) in omega arith) in
    let at_from = counted-before numbers places c.args.limit c.args.end c.args.from (λ j l. let p = c.requires.places j (omega arith) in omega arith) in
    omega arith
