-- One chunk more, up to the end of the store.
use Rattle.std.proofs.Common.{◌≡◌, List, ℕ, [], Some, Ok, refl, sym, ◌∙◌, ap, append-nil}
use Rattle.std.specs.Prelude.{◌++◌}
use Rattle.cq_records.specs.Frames.{joined}
use Rattle.cq_journal.proofs.Copies.{rests_on, rests_self}
use Rattle.cq_store_wire.specs.declared.build.State.{State}
use Rattle.cq_store_wire.specs.declared.build.State.TheVariants as states
use Rattle.cq_store_wire.specs.Building.{fed}
use Rattle.cq_store_wire.proofs.Passing.{all-passed, begun}
use Rattle.cq_kept_base.specs.Writing.{writer_records}
use Rattle.cq_kept_session.specs.Bases.{based, fresh, read}
use Rattle.cq_kept_session.proofs.Bases.{with_chunk}
use Rattle.cq_kept_base.proofs.Written.{chunk_is_fed, some_chunk}
use Rattle.cq_kept_session.proofs.rewriting.add_store.Goals as goal

pub loop-alloc-init : goal.loop-alloc-init
loop-alloc-init g c = record {
  journal = c.requires.journal;
  rests = rests_self c.args.journal.now (λ f. g.met.D.Device.only_now c.args.journal.now.root.log.device.device f) c.requires.journal.regions;
  base = c.requires.base;
  added = λ header is. (states.Empty, is, begun c.args.store.now c.new-writer.result.bodies c.new-writer.result.place states.Empty c.new-writer.ensures.start c.new-writer.ensures.bodies refl);
}

pub loop-alloc-preserved : goal.loop-alloc-preserved
loop-alloc-preserved g c =
    let i = c.loop-alloc.invariant in
    let a = c.in_ok-add_piece.ensures in
    let chunk = c.in_ok-chunk.ensures.chunk in
    record {
      journal = a.journal;
      rests = rests_on c.args.journal.now c.loop-alloc.journal c.add_piece.new.journal i.rests c.add_piece.ensures.rests;
      base = a.base;
      added = λ header is.
          let so_far = i.added header is in
          let one = chunk_is_fed c.args.store.now _ _ so_far.0 _ c.store_fits.ensures so_far.2 chunk in
          let is_fed : fed c.deref.result.now so_far.0 ≡ Ok one.next = ap (λ (l : List ℕ). fed l so_far.0) c.deref.ensures.value ∙ one.is in
          let begun : read fresh (joined (writer_records c.loop-alloc.journal c.loop-alloc.base) ++ []) ≡ based [] (Some header) so_far.0 =
          ap (λ (l : List ℕ). read fresh l) (append-nil (joined (writer_records c.loop-alloc.journal c.loop-alloc.base))) ∙ so_far.1 in
          (one.next, c.in_ok-add_piece.ensures.added (Some header) so_far.0 (based [] (Some header) one.next) begun (with_chunk c.deref.result.now header so_far.0 one.next is_fed), one.passed);
    }

pub add_piece-requires-clause-payload : goal.add_piece-requires-clause-payload
add_piece-requires-clause-payload g c = λ none. some_chunk _ _ _ c.in_ok-chunk.ensures.chunk (sym c.deref.ensures.value ∙ none)

pub returns-clause-added : goal.returns-clause-added
returns-clause-added g c = λ header is.
    let so_far = c.loop-alloc.invariant.added header is in
    let whole = all-passed c.args.store.now c.loop-alloc.writer.bodies c.loop-alloc.writer.place so_far.0 c.store_fits.ensures (c.is_done.ensures.yes c.loop-alloc-test.false) so_far.2 in
    so_far.1 ∙ ap (λ (s : State). based [] (Some header) s) whole

pub returns-in_err-chunk-clause-rests : goal.returns-in_err-chunk-clause-rests
returns-in_err-chunk-clause-rests g c = c.loop-alloc.invariant.rests

pub returns-in_err-add_piece-clause-rests : goal.returns-in_err-add_piece-clause-rests
returns-in_err-add_piece-clause-rests g c = rests_on c.args.journal.now c.loop-alloc.journal c.add_piece.new.journal c.loop-alloc.invariant.rests c.add_piece.ensures.rests
