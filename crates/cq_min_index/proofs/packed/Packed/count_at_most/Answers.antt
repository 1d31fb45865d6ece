-- Each round comes to the next small number and goes on to the end of its block, until none is left.
use Rattle.std.proofs.Common.{ℕ, ◌∙◌, ap, sym, refl, List, length, take, nat_le, arith}
use Rattle.std.specs.List.{count_by, filter}
use Rattle.cq_min_index.specs.Firsts.{AreAbove, IsFirst}
use Rattle.cq_min_index.specs.Packing.{is_counted, upto}
use Rattle.cq_min_index.proofs.Counting.{counted-rest, counted-all}
use Rattle.cq_min_index.proofs.packed.Packed.count_at_most.Goals as goal

pub loop-from-preserved : goal.loop-from-preserved
loop-from-preserved c =
    let numbers : List ℕ = c.self.inside.numbers in
    let places : List ℕ = c.self.inside.places.items in
    let before = c.loop-from.invariant in
    let first : IsFirst numbers c.loop-from.from c.args.limit c.in-Some.position = c.in-Some.ensures.found in
    let after = first.after in
    let long = c.self.invariant.long in
    let long' = c.self.invariant.placed.long in
    let few = before.few in
    let counted = before.counted in
    let passed = counted-rest numbers places c.args.limit c.args.end c.loop-from.from c.in-Some.position after first.before in
    let run = c.count_between-count.ensures in
    record {
      within = omega arith;
      few = omega (arith, run.few);
      counted = omega (arith, rw c.deref.ensures.value at run.counted);
    }

pub returns-in-None : goal.returns-in-None
returns-in-None c =
    let numbers : List ℕ = c.self.inside.numbers in
    let places : List ℕ = c.self.inside.places.items in
    let before = c.loop-from.invariant in
    let above : AreAbove numbers c.args.limit c.loop-from.from (length numbers) = c.in-None.ensures.none refl in
    before.counted
    ∙ sym (counted-rest numbers places c.args.limit c.args.end c.loop-from.from (length numbers) before.within above)
    ∙ ap (λ n. count_by (is_counted numbers places c.args.limit c.args.end) (upto n)) c.self.invariant.long
    ∙ counted-all numbers places c.self.inside.positions.items c.args.limit c.args.end c.self.invariant.placed
    ∙ ap (λ xs. length (filter (λ n. nat_le n c.args.limit) (take c.args.end xs))) c.self.view_is

pub returns : goal.returns
returns c =
    let numbers : List ℕ = c.self.inside.numbers in
    let places : List ℕ = c.self.inside.places.items in
    let before = c.loop-from.invariant in
    let past = c.loop-from-test.false in
    let above : AreAbove numbers c.args.limit c.loop-from.from (length numbers) = λ k a b. (let is = c.self.invariant.rest k (omega arith) b in omega (arith, is, c.requires)) in
    before.counted
    ∙ sym (counted-rest numbers places c.args.limit c.args.end c.loop-from.from (length numbers) before.within above)
    ∙ ap (λ n. count_by (is_counted numbers places c.args.limit c.args.end) (upto n)) c.self.invariant.long
    ∙ counted-all numbers places c.self.inside.positions.items c.args.limit c.args.end c.self.invariant.placed
    ∙ ap (λ xs. length (filter (λ n. nat_le n c.args.limit) (take c.args.end xs))) c.self.view_is
