-- The number of one place is another, and those of two positions are exchanged.
use Rattle.cq_min_index.proofs.Packing.{AreExchanged, by_place-put_in}
use Rattle.cq_min_index.proofs.packed.put_in.Goals as goal

pub returns-clause-number : goal.returns-clause-number
returns-clause-number c =
    let e = c.exchange.ensures in
    let exchanged : AreExchanged c.args.places.now.items c.args.positions.now.items c.exchange.new.positions.items c.args.position c.args.first = record { long = e.long; first = e.one; second = e.other; others = e.others } in
    rw c.set.ensures (by_place-put_in c.args.numbers.now c.args.places.now.items c.args.positions.now.items c.exchange.new.positions.items c.args.position c.args.first c.args.number c.requires.long c.requires.position c.requires.first c.requires.same c.requires.placed exchanged)
