-- The number of that place is another, wherever it stands.
use Rattle.std.proofs.Common.{◌≡◌, ◌<◌, ◌≤◌, ◌∙◌, ap, sym, List, ℕ, length, get_or, set, arith}
use Rattle.std.proofs.lemmas.List.{get_or_default, length-map}
use Rattle.cq_min_index.specs.declared.spans.TheConstants.{LARGEST}
use Rattle.cq_min_index.specs.Packing.{by_place}
use Rattle.cq_min_index.proofs.Packing.{by_place-written, by_place-kept}
use Rattle.cq_min_index.proofs.packed.PackedNumberList.set.Goals as goal

pub returns-then-number-lt-LARGEST : goal.returns-then-number-lt-LARGEST
returns-then-number-lt-LARGEST c =
    let numbers : List ℕ = c.self.inside.numbers in
    let positions : List ℕ = c.self.inside.positions.items in
    let packed = c.self.invariant in
    let all = ap length c.self.view_is in
    let mapped = length-map positions (λ j. get_or numbers j 0) in
    let l : c.args.at < length positions = omega (arith, c.requires) in
    let is_at : c.index-position.result.now ≡ get_or positions c.args.at 0 = c.index-position.ensures ∙ get_or_default positions c.args.at c.index-position.result.now 0 l in
    ap (λ xs. by_place xs positions) (c.set.ensures ∙ ap (λ p. set numbers p c.args.number) is_at)
    ∙ by_place-written numbers c.self.inside.places.items positions c.args.at c.args.number packed.long packed.placed l
    ∙ ap (λ xs. set xs c.args.at c.args.number) c.self.view_is

pub returns-else-number-lt-LARGEST : goal.returns-else-number-lt-LARGEST
returns-else-number-lt-LARGEST c =
    let numbers : List ℕ = c.self.inside.numbers in
    let positions : List ℕ = c.self.inside.positions.items in
    let packed = c.self.invariant in
    let all = ap length c.self.view_is in
    let mapped = length-map positions (λ j. get_or numbers j 0) in
    let l : c.args.at < length positions = omega (arith, c.requires) in
    let is_at : c.index-position.result.now ≡ get_or positions c.args.at 0 = c.index-position.ensures ∙ get_or_default positions c.args.at c.index-position.result.now 0 l in
    let place : get_or c.self.inside.places.items c.index-position.result.now 0 ≡ c.args.at = ap (λ p. get_or c.self.inside.places.items p 0) is_at ∙ packed.placed.back c.args.at l in
    let largest : LARGEST ≡ c.args.number = omega (arith, c.ranges.number.fits) in
    c.take_out.ensures.number
    ∙ ap (λ k. set (by_place numbers positions) k LARGEST) place
    ∙ ap (set (by_place numbers positions) c.args.at) largest
    ∙ ap (λ xs. set xs c.args.at c.args.number) c.self.view_is

pub returns-then-number-lt-LARGEST-2 : goal.returns-then-number-lt-LARGEST-2
returns-then-number-lt-LARGEST-2 c =
    let numbers : List ℕ = c.self.inside.numbers in
    let positions : List ℕ = c.self.inside.positions.items in
    let packed = c.self.invariant in
    let all = ap length c.self.view_is in
    let mapped = length-map positions (λ j. get_or numbers j 0) in
    let l : c.args.at < length positions = omega (arith, c.requires) in
    let is_at : c.index-position.result.now ≡ get_or positions c.args.at 0 = c.index-position.ensures ∙ get_or_default positions c.args.at c.index-position.result.now 0 l in
    let place : get_or c.self.inside.places.items c.index-position.result.now 0 ≡ c.args.at = ap (λ p. get_or c.self.inside.places.items p 0) is_at ∙ packed.placed.back c.args.at l in
    c.put_in.ensures.number
    ∙ ap (λ k. set (by_place numbers positions) k c.args.number) place
    ∙ ap (λ xs. set xs c.args.at c.args.number) c.self.view_is

pub returns-else-number-lt-LARGEST-2 : goal.returns-else-number-lt-LARGEST-2
returns-else-number-lt-LARGEST-2 c =
    let numbers : List ℕ = c.self.inside.numbers in
    let positions : List ℕ = c.self.inside.positions.items in
    let packed = c.self.invariant in
    let all = ap length c.self.view_is in
    let mapped = length-map positions (λ j. get_or numbers j 0) in
    let l : c.args.at < length positions = omega (arith, c.requires) in
    let is_at : c.index-position.result.now ≡ get_or positions c.args.at 0 = c.index-position.ensures ∙ get_or_default positions c.args.at c.index-position.result.now 0 l in
    let largest : LARGEST ≡ c.args.number = omega (arith, c.ranges.number.fits) in
    let past : c.self.inside.small ≤ get_or positions c.args.at 0 = omega (arith, c.if-position-self.false) in
    sym c.self.view_is
    ∙ by_place-kept numbers c.self.inside.places.items positions c.self.inside.small c.args.at packed l past
    ∙ ap (set (by_place numbers positions) c.args.at) largest
    ∙ ap (λ xs. set xs c.args.at c.args.number) c.self.view_is
