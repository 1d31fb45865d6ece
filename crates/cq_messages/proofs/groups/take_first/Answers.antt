-- The number found is the first.
use Rattle.std.proofs.Common.{◌≡◌, ◌<◌, ◌+◌, ◌∙◌, ap, sym, subst, arith, take, drop, get_or, length, ◌++◌, suc}
use Rattle.std.specs.Prelude.{OnSome, suc}
use Rattle.std.specs.List.{remove}
use Rattle.std.proofs.lemmas.List.{drop_more, get_or_default}
use Rattle.cq_messages.specs.within.Groups.{without}
use Rattle.cq_messages.proofs.GroupsAt.{without-at}
use Rattle.cq_messages.proofs.groups.take_first.Goals as goal

pub returns-then-index-number : goal.returns-then-index-number
returns-then-index-number c =
    let xs = c.loop-i.numbers.items in
    let i = c.loop-i.i in
    let n = c.args.number in
    let inside : i < length xs = omega (arith, ap length c.loop-i.invariant.same) in
    let at : get_or xs i 0 ≡ n = sym (get_or_default xs i c.index.result.now 0 inside) ∙ sym c.index.ensures ∙ c.if-index-number.true in
    let taken : c.remove.new.self.items ≡ remove xs i = subst (λ o. OnSome o (c.remove.new.self.items ≡ remove xs i)) (c.remove.ensures.succeeds 0 (omega arith)) c.remove.ensures.items in
    taken ∙ sym (ap (without n) (sym c.loop-i.invariant.same) ∙ c.loop-i.invariant.passed ∙ ap (λ ys. take i xs ++ without n ys) (drop_more xs i 0 inside) ∙ ap (λ ys. take i xs ++ ys) (without-at n (drop (i + 1) xs) i (get_or xs i 0) at) ∙ ap (λ k. take i xs ++ drop k xs) (let e : i + 1 ≡ suc i = omega arith in e))
