-- The slots are in order.
use Rattle.std.proofs.Common.{◌+◌, ◌-◌, ◌/◌, ◌<◌, ◌≤◌, length, get_or, arith, subst}
use Rattle.std.proofs.lemmas.List.{get_or_default}
use Rattle.cq_messages.specs.Slots.{gone}
use Rattle.cq_messages.proofs.Ascending.{ascending-upto}
use Rattle.cq_messages.proofs.places.count_below.Goals as goal

pub loop-low-preserved-then-slots-middle : goal.loop-low-preserved-then-slots-middle
loop-low-preserved-then-slots-middle c =
    let slots = c.args.slots.now in
    let middle = c.loop-low.low + (c.loop-low.high - c.loop-low.low) / 2 in
    let inside : middle < length slots = omega arith in
    let read = get_or_default slots middle c.index-slots-middle.result gone inside in
    let small : (get_or slots middle gone).sequence < c.args.sequence = subst (λ s. s.sequence < c.args.sequence) read c.if-slots-middle.true in
    record {
      order = omega arith;
      within = omega arith;
      below = λ k h. let o = ascending-upto 0 slots k middle c.requires (omega arith) inside in omega arith;
      above = c.loop-low.invariant.above;
    }

pub loop-low-preserved : goal.loop-low-preserved
loop-low-preserved c =
    let slots = c.args.slots.now in
    let middle = c.loop-low.low + (c.loop-low.high - c.loop-low.low) / 2 in
    let inside : middle < length slots = omega arith in
    let read = get_or_default slots middle c.index-slots-middle.result gone inside in
    let large : c.args.sequence ≤ (get_or slots middle gone).sequence = subst (λ s. c.args.sequence ≤ s.sequence) read c.if-slots-middle.false in
    record {
      order = omega arith;
      within = omega arith;
      below = c.loop-low.invariant.below;
      above = λ k h l. let o = ascending-upto 0 slots middle k c.requires h l in omega arith;
    }
