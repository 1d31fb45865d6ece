use Rattle.std.proofs.Common.{◌∙◌}
use Rattle.cq_store_wire.proofs.Passing.{begun, chunk-passed-on, whole-passed}
use Rattle.cq_store_wire.proofs.pass.passed.Goals as goal

pub loop-alloc-init : goal.loop-alloc-init
loop-alloc-init c = begun c.args.store.now c.new-writer.result.bodies c.new-writer.result.place c.new-reader.result c.new-writer.ensures.start c.new-writer.ensures.bodies c.new-reader.ensures

pub loop-alloc-preserved : goal.loop-alloc-preserved
loop-alloc-preserved c =
    let one = c.in_ok-next.ensures.ok in
    chunk-passed-on c.args.store.now _ _ c.loop-alloc.reader c.in-Ok.next c.new-bytes.result.items one.0 c.deref.result.now c.new-bytes.ensures.items (c.deref.ensures.value ∙ one.1) c.loop-alloc.invariant one.2 c.in-Ok.ensures

pub returns-in-Ok-store : goal.returns-in-Ok-store
returns-in-Ok-store c = whole-passed c.args.store.now c.in-Ok-store.other c.loop-alloc.writer.bodies c.loop-alloc.writer.place c.loop-alloc.reader c.store_fits.ensures (c.is_done.ensures.yes c.loop-alloc-test.false) c.loop-alloc.invariant c.in-Ok-store.ensures
