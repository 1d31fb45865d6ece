-- By the place of the member.
use Rattle.std.proofs.Common.{◌≡◌, ◌<◌, ◌≤◌, ◌+◌, ◌∙◌, ◌∷◌, ◌==◌, ap, sym, subst, length, drop, get_or, Some, false, arith}
use Rattle.std.proofs.lemmas.Bool.{ne_eqb}
use Rattle.std.proofs.lemmas.List.{drop_more, drop_all}
use Rattle.cq_chain.specs.Masters.{closing}
use Rattle.cq_chain.specs.within.Waiting.{IsSaid}
use Rattle.cq_chain.proofs.Neighbours.{two-dropped, place-is, closing-step, closing-of}
use Rattle.cq_chain.proofs.master.neighbours.closing.Goals as goal

pub returns-then-get : goal.returns-then-get
returns-then-get c = λ p rest h.
    let xs = c.args.chain.now in
    let i = c.loop-i.i in
    let within : i + 1 < length xs = omega arith in
    let two = two-dropped xs i within in
    let is : get_or xs (i + 1) 0 ≡ c.args.id = omega (arith, place-is xs (i + 1) c.index-chain-i.result within) in
    subst (λ all. IsSaid (Some c.closing_at.result) all)
    (sym (c.loop-i.invariant p rest h (get_or xs i 0) (get_or xs (i + 1) 0 ∷ drop (i + 1 + 1) xs) two ∙ ap (λ x. closing (get_or xs i 0) x (get_or xs (i + 1) 0 ∷ drop (i + 1 + 1) xs)) (sym is)))
    (c.closing_at.ensures (get_or xs i 0) (get_or xs (i + 1) 0) (drop (i + 1 + 1) xs) two)

pub loop-i-preserved : goal.loop-i-preserved
loop-i-preserved c = λ p rest h q more k.
    let xs = c.args.chain.now in
    let i = c.loop-i.i in
    let within : i + 1 < length xs = omega arith in
    let is = place-is xs (i + 1) c.index-chain-i.result within in
    let other : (get_or xs (i + 1) 0 == c.args.id) ≡ false = ne_eqb (get_or xs (i + 1) 0) c.args.id (λ e. omega (arith, is)) in
    c.loop-i.invariant p rest h (get_or xs i 0) (get_or xs (i + 1) 0 ∷ drop (i + 1 + 1) xs) (two-dropped xs i within)
    ∙ closing-step (get_or xs i 0) (get_or xs (i + 1) 0) c.args.id (drop (i + 1 + 1) xs) other
    ∙ closing-of c.args.id (get_or xs (i + 1) 0) q (drop (i + 1 + 1) xs) more (sym (drop_more xs (i + 1) 0 within) ∙ k)

pub returns : goal.returns
returns c = λ p rest h.
    let xs = c.args.chain.now in
    let i = c.loop-i.i in
    let one : i < length xs = omega (arith, ap (λ ys. length ys) h) in
    let end : length xs ≤ i + 1 = omega arith in
    c.loop-i.invariant p rest h (get_or xs i 0) (drop (i + 1) xs) (drop_more xs i 0 one) ∙ ap (λ ys. closing (get_or xs i 0) c.args.id ys) (drop_all (i + 1) xs end)
