-- The number of one place is the largest, and another stands at its position.
use Rattle.std.proofs.Common.{◌≡◌, ◌∙◌, ap, List, ℕ, get_or, set, arith}
use Rattle.cq_min_index.specs.declared.spans.TheConstants.{LARGEST}
use Rattle.cq_min_index.specs.Packing.{by_place}
use Rattle.cq_min_index.proofs.Packing.{AreExchanged, by_place-taken_out}
use Rattle.cq_min_index.proofs.packed.take_out.Goals as goal

pub returns-clause-number : goal.returns-clause-number
returns-clause-number c =
    let long = c.requires.long in
    let order = c.requires.position in
    let inside = c.requires.last in
    let e = c.exchange.ensures in
    let exchanged : AreExchanged c.args.places.now.items c.args.positions.now.items c.exchange.new.positions.items c.args.position c.args.last = record { long = e.long; first = e.one; second = e.other; others = e.others } in
    let numbers : List ℕ = c.args.numbers.now in
    let moved : ℕ = c.get-moved.result in
    let is_moved : moved ≡ get_or numbers c.args.last 0 = omega arith in
    ap (λ xs. by_place xs c.exchange.new.positions.items) (c.set-2.ensures ∙ ap (λ xs. set xs c.args.last LARGEST) (c.set.ensures ∙ ap (set numbers c.args.position) is_moved))
    ∙ by_place-taken_out numbers c.args.places.now.items c.args.positions.now.items c.exchange.new.positions.items c.args.position c.args.last LARGEST long (omega arith) inside c.requires.placed exchanged
