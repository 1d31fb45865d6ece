use Rattle.std.proofs.Common.{◌∙◌}
use Rattle.cq_chain_wire.proofs.Passing.{none-passed, passed-on, whole-passed}
use Rattle.cq_chain_wire.proofs.pass.passed.Goals as goal

pub loop-alloc-init : goal.loop-alloc-init
loop-alloc-init c = none-passed c.args.message.now c.new-writer.result c.new-reader.result c.new-writer.ensures.start c.new-writer.ensures.bodies c.new-reader.ensures

pub loop-alloc-preserved : goal.loop-alloc-preserved
loop-alloc-preserved c =
    let one = c.in_ok-next.ensures.ok in
    passed-on c.args.message.now c.loop-alloc.writer c.next.new.self c.loop-alloc.reader c.in-Ok-More.next c.new-bytes.result.items one.0 c.deref.result.now c.new-bytes.ensures.items (c.deref.ensures.value ∙ one.1) c.loop-alloc.invariant one.2
    (rw c.in-Ok-More.field-0-is at c.in-Ok-More.ensures)

pub returns-in-Ok-Whole : goal.returns-in-Ok-Whole
returns-in-Ok-Whole c =
    let one = c.in_ok-next.ensures.ok in
    whole-passed c.args.message.now c.in-Ok-Whole.other c.loop-alloc.writer c.next.new.self c.loop-alloc.reader c.new-bytes.result.items one.0 c.deref.result.now c.message_holds.ensures c.new-bytes.ensures.items (c.deref.ensures.value ∙ one.1)
    c.loop-alloc.invariant one.2 (rw c.in-Ok-Whole.field-0-is at c.in-Ok-Whole.ensures)
