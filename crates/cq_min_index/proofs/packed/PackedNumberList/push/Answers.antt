-- One place more, of the largest number, on which the number is written then.
use Rattle.std.proofs.Common.{◌≡◌, ◌∙◌, ap, List, ℕ, [], ◌∷◌, ◌++◌, length, set, arith}
use Rattle.cq_min_index.specs.declared.spans.TheConstants.{LARGEST}
use Rattle.cq_min_index.specs.Packing.{by_place}
use Rattle.cq_min_index.proofs.Packing.{packed-pushed, by_place-pushed}
use Rattle.cq_min_index.proofs.packed.PackedNumberList.push.Goals as goal

pub invariant_of-self-2 : goal.invariant_of-self-2
invariant_of-self-2 c =
    let positions : List ℕ = c.self.inside.positions.items in
    let n : ℕ = c.len-place.result in
    let last : n ≡ length positions = omega arith in
    rw (c.in_ok-push.ensures.ok, c.push_reserved.ensures.items, c.push_reserved-2.ensures.items, c.in_ok-reserve.ensures.items, c.in_ok-reserve-2.ensures.items)
    (packed-pushed c.self.inside.numbers c.self.inside.places.items positions c.self.inside.small n c.self.invariant last)

pub returns-clause-ok : goal.returns-clause-ok
returns-clause-ok c =
    let numbers : List ℕ = c.self.inside.numbers in
    let positions : List ℕ = c.self.inside.positions.items in
    let n : ℕ = c.len-place.result in
    let last : n ≡ length positions = omega arith in
    let grown : c.push_reserved-2.new.self.items ≡ positions ++ n ∷ [] = c.push_reserved-2.ensures.items ∙ ap (λ xs. xs ++ n ∷ []) c.in_ok-reserve-2.ensures.items in
    c.set.ensures
    ∙ ap (λ xs. set (by_place xs c.push_reserved-2.new.self.items) n c.args.number) c.in_ok-push.ensures.ok
    ∙ ap (λ xs. set (by_place (numbers ++ LARGEST ∷ []) xs) n c.args.number) grown
    ∙ by_place-pushed numbers positions n c.args.number c.self.invariant.long c.self.invariant.placed.position last
    ∙ ap (λ xs. xs ++ c.args.number ∷ []) c.self.view_is
