-- The slot at the end has no message.
use Rattle.std.proofs.Common.{◌≡◌, ◌+◌, ◌-◌, ◌∙◌, ap, sym, subst, arith, take, length, get_or, None, not}
use Rattle.std.proofs.lemmas.List.{take-take, get_or-take, get_or_read, length-take-le}
use Rattle.cq_messages.specs.Slots.{live, gone}
use Rattle.cq_messages.proofs.Pushing.{trimmed-more, no_some}
use Rattle.cq_messages.proofs.append.trim.Goals as goal

pub loop-len-preserved : goal.loop-len-preserved
loop-len-preserved c =
    let ss = c.args.slots.now.items in
    let xs = c.loop-len.slots.items in
    let n = c.loop-len.len in
    let k = n - 1 in
    let upto = c.loop-len.invariant.within in
    let prefix = c.loop-len.invariant.prefix in
    let many : length xs ≡ n = ap length prefix ∙ length-take-le n ss upto in
    let read = get_or_read xs k c.index.result.now (omega arith) c.index.ensures gone in
    let at : get_or xs k gone ≡ get_or ss k gone = ap (λ ys. get_or ys k gone) prefix ∙ get_or-take n ss k gone (omega arith) in
    let none : (get_or ss k gone).message ≡ None = ap (λ s. s.message) (sym at) ∙ ap (λ s. s.message) (sym read) ∙ no_some c.index.result.now.message (c.is_none.ensures ∙ ap not c.if-is_none.true) in
    let e : k + 1 ≡ n = omega arith in
    record {
      prefix = c.truncate.ensures.items ∙ ap (take k) prefix ∙ take-take k n ss (omega arith);
      within = omega arith;
      same = trimmed-more ss k (omega arith) none (subst (λ j. live (take j ss) ≡ live ss) (sym e) c.loop-len.invariant.same);
    }
