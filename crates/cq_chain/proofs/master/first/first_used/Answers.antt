-- One more number, which isn't among those before it.
use Rattle.std.proofs.Common.{◌≡◌, ◌≤◌, ◌+◌, ◌∙◌, ◌++◌, ◌∷◌, [], ◌==◌, ap, sym, subst, false, arith, if◌then◌else◌}
use Rattle.std.specs.List.{list_any}
use Rattle.cq_chain.specs.Masters.{numbers_from}
use Rattle.cq_chain.proofs.Neighbours.{numbers-more, numbers-none, numbers-below, less-differs}
use Rattle.cq_chain.proofs.master.first.first_used.Goals as goal

pub loop-k-init : goal.loop-k-init
loop-k-init c = c.new-used.ensures.empty ∙ sym (numbers-none 1)

pub loop-k-preserved : goal.loop-k-preserved
loop-k-preserved c =
    let id = c.in-Some.id in
    let is : id ≡ 1 + c.loop-k.k = omega (arith, c.in-Some.ensures.value) in
    let above : 1 + c.loop-k.k ≤ id = omega arith in
    let keys = c.loop-k.used.keys in
    let new : list_any (λ x. id == x) keys ≡ false = subst (λ xs. list_any (λ x. id == x) xs ≡ false) (sym c.loop-k.invariant) (numbers-below (λ x. id == x) 1 c.loop-k.k id (λ x h. less-differs x id h) above) in
    c.in_ok-insert-in-Some.ensures.keys ∙ ap (λ b. if b then keys else keys ++ id ∷ []) new ∙ ap (λ xs. xs ++ id ∷ []) c.loop-k.invariant ∙ ap (λ n. numbers_from 1 c.loop-k.k ++ n ∷ []) is ∙ sym (numbers-more 1 c.loop-k.k)
