-- Each place still has a position, and each position its place.
use Rattle.std.proofs.Common.{◌≡◌, ℕ, List, ◌∙◌, ap, subst, length, get_or, arith}
use Rattle.std.specs.List.{SwappedAt}
use Rattle.std.proofs.lemmas.List.{get_or_default}
use Rattle.std.proofs.lemmas.List.Edits.{length-swap}
use Rattle.std.proofs.lemmas.List.Sorted.{IsPermutation-swap}
use Rattle.cq_min_index.proofs.Packing.{placed-exchanged}
use Rattle.cq_min_index.proofs.packed.exchange.Goals as goal

pub returns-clause-placed : goal.returns-clause-placed
returns-clause-placed c =
    let placed = c.requires.placed in
    let long = placed.long in
    let places : List ℕ = c.args.places.now.items in
    let positions : List ℕ = c.args.positions.now.items in
    let positions' : List ℕ = c.swap-2.new.self.items in
    let one : ℕ = c.index-at_one.result.now in
    let other : ℕ = c.index-at_other.result.now in
    let is_one : one ≡ get_or places c.args.one 0 = c.index-at_one.ensures ∙ get_or_default places c.args.one one 0 (omega arith) in
    let is_other : other ≡ get_or places c.args.other 0 = c.index-at_other.ensures ∙ get_or_default places c.args.other other 0 (omega arith) in
    let swapped : SwappedAt positions positions' (get_or places c.args.one 0) (get_or places c.args.other 0)
    = subst (λ y. SwappedAt positions positions' (get_or places c.args.one 0) y) is_other (subst (λ x. SwappedAt positions positions' x other) is_one c.swap-2.ensures.by_index) in
    let in_one = placed.place c.args.one c.requires.one in
    let in_other = placed.place c.args.other c.requires.other in
    placed-exchanged places c.swap.new.self.items positions positions' c.args.one c.args.other placed c.requires.one c.requires.other c.swap.ensures.by_index swapped
    (ap length c.swap.ensures.items ∙ length-swap places c.args.one c.args.other)
    (ap length c.swap-2.ensures.items ∙ length-swap positions one other)
    (IsPermutation-swap positions positions' one other (omega arith) (omega arith) c.swap-2.ensures.items)
