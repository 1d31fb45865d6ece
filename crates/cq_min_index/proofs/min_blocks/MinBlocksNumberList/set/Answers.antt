-- The least of the block is the new number, what it was, or what is found after the write.
use Rattle.std.proofs.Common.{◌<◌, length, arith, sym, subst}
use Rattle.std.proofs.lemmas.List.{get_or_default}
use Rattle.cq_min_index.specs.within.Spans.{AreSpans}
use Rattle.cq_min_index.proofs.Summaries.{summary-lower, summary-keep, summary-set}
use Rattle.cq_min_index.proofs.min_blocks.MinBlocksNumberList.set.Goals as goal

pub invariant_of-self : goal.invariant_of-self
invariant_of-self g c =
    let h : c.args.at < length c.self.inside.low.items = subst (λ xs. c.args.at < length xs) (sym c.self.view_is) c.requires in (
      rw c.set.ensures (summary-lower c.self.inside.low.items (g.T.NumberList.numbers c.self.inside.high) c.args.at c.args.number c.self.invariant.0 h (omega arith)),
      subst (λ xs. AreSpans xs c.widen.new.spans.items) c.deref.ensures.value c.widen.ensures,
    )

pub invariant_of-self-then-before-least : goal.invariant_of-self-then-before-least
invariant_of-self-then-before-least g c =
    let low = c.self.inside.low.items in
    let h : c.args.at < length low = subst (λ xs. c.args.at < length xs) (sym c.self.view_is) c.requires in (
      rw c.set-then-before-least.ensures (summary-set low (g.T.NumberList.numbers c.self.inside.high) c.args.at c.args.number c.least_of-least.result c.self.invariant.0 h
          (rw c.deref-then-before-least-2.ensures.value at c.least_of-least.ensures.below)
          (rw c.deref-then-before-least-2.ensures.value at c.least_of-least.ensures.reached)),
      subst (λ xs. AreSpans xs c.narrow.new.spans.items) c.deref-then-before-least.ensures.value c.narrow.ensures,
    )

pub invariant_of-self-else-before-least : goal.invariant_of-self-else-before-least
invariant_of-self-else-before-least g c =
    let h : c.args.at < length c.self.inside.low.items = subst (λ xs. c.args.at < length xs) (sym c.self.view_is) c.requires in (
      summary-keep c.self.inside.low.items (g.T.NumberList.numbers c.self.inside.high) c.args.at c.args.number c.self.invariant.0 h (omega arith) (λ same. c.if-before-least.false (let is = get_or_default c.self.inside.low.items c.args.at c.index-before.result.now 0 h in omega (arith, is, same))),
      subst (λ xs. AreSpans xs c.widen.new.spans.items) c.deref.ensures.value c.widen.ensures,
    )
