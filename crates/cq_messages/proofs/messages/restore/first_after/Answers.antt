-- The first slot whose message is behind the number has the first such message.
use Rattle.std.proofs.Common.{◌∙◌, ◌<◌, ap, sym, subst, arith}
use Rattle.std.proofs.lemmas.List.{get_or_default}
use Rattle.cq_messages.specs.Ordered.{is_after}
use Rattle.cq_messages.specs.Slots.{gone}
use Rattle.cq_messages.proofs.Afters.{early-fails, find-passing, find-none, test_true}
use Rattle.cq_messages.proofs.messages.restore.first_after.Goals as goal

pub loop-place-init : goal.loop-place-init
loop-place-init c = λ k a b.
    let within = c.count_below-place.ensures.within in
    let small = c.count_below-place.ensures.below k b in
    early-fails c.args.slots.now c.args.sequence k c.requires (omega arith) (omega arith)

pub returns-then-sequence-message : goal.returns-then-sequence-message
returns-then-sequence-message c =
    let slots = c.args.slots.now in
    let read = get_or_default slots c.loop-place.place c.index-slots-place.result gone c.loop-place-test.true in
    let over : c.args.sequence < c.in-Some.message.sequence = subst (λ m. c.args.sequence < m.sequence) c.message.view_is c.if-sequence-message.true in
    sym (find-passing (is_after c.args.sequence) slots c.loop-place.place c.in-Some.message c.loop-place-test.true c.loop-place.invariant (sym (ap (λ s. s.message) read) ∙ c.in-Some.is) (test_true c.args.sequence c.in-Some.message.sequence over))

pub returns : goal.returns
returns c = sym (find-none (is_after c.args.sequence) c.args.slots.now (λ k a b. let end = c.loop-place-test.false in c.loop-place.invariant k a (omega arith)))
