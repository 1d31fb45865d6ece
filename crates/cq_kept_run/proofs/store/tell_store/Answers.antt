use Rattle.std.proofs.Common.{◌∙◌}
use Rattle.cq_kept_run.proofs.Telling.{all_told, begun, chunk_told}
use Rattle.cq_kept_run.proofs.store.tell_store.Goals as goal

pub loop-alloc-init : goal.loop-alloc-init
loop-alloc-init g c = record {
  works = c.requires;
  told = begun c.args.store.now c.new-writer.result.bodies c.new-writer.result.place _ c.new-writer.ensures.start c.new-writer.ensures.bodies;
}

pub loop-alloc-preserved : goal.loop-alloc-preserved
loop-alloc-preserved g c =
    let one = c.in_ok-next.ensures.ok in
    let i = c.loop-alloc.invariant in
    record {
      works = c.in_ok-tell_chunk.ensures.ok;
      told = chunk_told c.args.store.now _ _ _ _ _ _ _ c.new-chunk.result.items one.0 c.deref.result.now c.new-chunk.ensures.items (c.deref.ensures.value ∙ one.1) i.told one.2 c.in_ok-tell_chunk.ensures.told;
    }

pub returns-clause-told : goal.returns-clause-told
returns-clause-told g c = all_told c.args.store.now c.loop-alloc.writer.bodies c.loop-alloc.writer.place _ _ c.store_fits.ensures (c.is_done.ensures.yes c.loop-alloc-test.false) c.loop-alloc.invariant.told
