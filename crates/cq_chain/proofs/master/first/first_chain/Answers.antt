-- One more number.
use Rattle.std.proofs.Common.{◌≡◌, ◌+◌, ◌∙◌, ◌++◌, ◌∷◌, [], ap, sym, arith}
use Rattle.cq_chain.specs.Masters.{numbers_from}
use Rattle.cq_chain.proofs.Neighbours.{numbers-more, numbers-none}
use Rattle.cq_chain.proofs.master.first.first_chain.Goals as goal

pub loop-k-init : goal.loop-k-init
loop-k-init c = c.new-chain.ensures.items ∙ sym (numbers-none 1)

pub loop-k-preserved : goal.loop-k-preserved
loop-k-preserved c =
    let is : c.in-Some.id ≡ 1 + c.loop-k.k = omega (arith, c.in-Some.ensures.value) in
    c.in_ok-push-in-Some.ensures.items ∙ ap (λ xs. xs ++ c.in-Some.id ∷ []) c.loop-k.invariant ∙ ap (λ n. numbers_from 1 c.loop-k.k ++ n ∷ []) is ∙ sym (numbers-more 1 c.loop-k.k)
