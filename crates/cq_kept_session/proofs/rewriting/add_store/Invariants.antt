-- The chunks before the place are in the base.
use Rattle.std.proofs.Common.{◌≡◌, [], Some, length}
use Rattle.cq_records.specs.Frames.{joined}
use Rattle.cq_journal.specs.Base.{IsBase}
use Rattle.cq_journal.specs.Journal.{IsJournal}
use Rattle.cq_journal.specs.Rests.{Rests}
use Rattle.cq_store_wire.specs.Order.{parts_from}
use Rattle.cq_store_wire.specs.declared.build.State.{State}
use Rattle.cq_store_wire.specs.declared.build.State.TheVariants as states
use Rattle.cq_store_wire.proofs.Passing.{IsPassed}
use Rattle.cq_kept_base.specs.Writing.{writer_records}
use Rattle.cq_kept_session.specs.Bases.{based, fresh, read}
use Rattle.cq_kept_session.specs.declared.base.Header.{Header}
use Rattle.cq_kept_session.proofs.rewriting.add_store.Given as goal

abbrev pub invariant-loop-alloc : goal.invariant-loop-alloc
invariant-loop-alloc g l = record {
  journal : IsJournal l.journal;
  rests : Rests l.initial.journal l.journal;
  base : IsBase l.journal l.base.base;
  added : (header : Header) → read fresh (joined (writer_records l.initial.journal l.initial.base)) ≡ based [] (Some header) states.Empty
      → (state : State) × (read fresh (joined (writer_records l.journal l.base)) ≡ based [] (Some header) state) × IsPassed l.store (parts_from l.store l.writer.bodies l.writer.place) state;
}

abbrev pub decreases-loop-alloc : goal.decreases-loop-alloc
decreases-loop-alloc g l = length (parts_from l.store l.writer.bodies l.writer.place)
