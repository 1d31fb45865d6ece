-- The first member isn't the one that is gone.
use Rattle.std.proofs.Common.{◌≡◌, ◌<◌, ◌+◌, ◌∙◌, ◌∷◌, ◌==◌, ap, sym, subst, length, drop, get_or, false, arith}
use Rattle.std.proofs.lemmas.Bool.{ne_eqb}
use Rattle.cq_chain.specs.Masters.{said_of_loss}
use Rattle.cq_chain.specs.within.Waiting.{IsSaid}
use Rattle.cq_chain.proofs.Neighbours.{two-dropped, place-is, loss-later}
use Rattle.cq_chain.proofs.master.neighbours.said_of_loss.Goals as goal

pub returns : goal.returns
returns c =
    let xs = c.args.chain.now in
    let more : 0 + 1 < length xs = omega arith in
    let some : 0 < length xs = omega arith in
    let two = two-dropped xs 0 more in
    let is = place-is xs 0 c.index-chain-0.result some in
    let other : (get_or xs 0 0 == c.args.id) ≡ false = ne_eqb (get_or xs 0 0) c.args.id (λ e. omega (arith, is)) in
    subst (λ all. IsSaid c.closing.result all) (sym (ap (λ ys. said_of_loss c.args.id ys) two ∙ loss-later c.args.id (get_or xs 0 0) (get_or xs 1 0) (drop 2 xs) other))
    (c.closing.ensures (get_or xs 0 0) (get_or xs 1 0 ∷ drop 2 xs) two)
