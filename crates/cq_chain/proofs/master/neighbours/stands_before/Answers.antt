-- By the place of the pair.
use Rattle.std.proofs.Common.{◌<◌, ◌≤◌, ◌+◌, ◌∙◌, ◌||◌, ap, sym, length, drop, get_or, arith}
use Rattle.cq_chain.specs.Masters.{stands_before}
use Rattle.cq_chain.proofs.Neighbours.{two-dropped, before-step, before-none}
use Rattle.cq_chain.proofs.master.neighbours.stands_before.Goals as goal

pub returns-then-is_pair_at : goal.returns-then-is_pair_at
returns-then-is_pair_at c =
    let xs = c.args.chain.now in
    let i = c.loop-i.i in
    let within : i + 1 < length xs = omega arith in
    let pair = c.is_pair_at.ensures (get_or xs i 0) (get_or xs (i + 1) 0) (drop (i + 1 + 1) xs) (two-dropped xs i within) in
    sym (c.loop-i.invariant ∙ before-step c.args.pred c.args.succ xs i within ∙ ap (λ t. t || stands_before c.args.pred c.args.succ (drop (i + 1) xs)) (sym pair ∙ c.if-is_pair_at.true))

pub loop-i-preserved : goal.loop-i-preserved
loop-i-preserved c =
    let xs = c.args.chain.now in
    let i = c.loop-i.i in
    let within : i + 1 < length xs = omega arith in
    let pair = c.is_pair_at.ensures (get_or xs i 0) (get_or xs (i + 1) 0) (drop (i + 1 + 1) xs) (two-dropped xs i within) in
    c.loop-i.invariant ∙ before-step c.args.pred c.args.succ xs i within ∙ ap (λ t. t || stands_before c.args.pred c.args.succ (drop (i + 1) xs)) (sym pair ∙ c.if-is_pair_at.false)

pub returns : goal.returns
returns c =
    let xs = c.args.chain.now in
    let end : length xs ≤ c.loop-i.i + 1 = omega arith in
    sym (c.loop-i.invariant ∙ before-none c.args.pred c.args.succ xs c.loop-i.i end)
