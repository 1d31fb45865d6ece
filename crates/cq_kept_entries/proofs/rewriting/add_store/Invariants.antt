-- The chunks before the place are in the base.
use Rattle.std.proofs.Common.{◌≡◌, [], length}
use Rattle.cq_records.specs.Frames.{joined}
use Rattle.cq_journal.specs.Base.{IsBase}
use Rattle.cq_journal.specs.Journal.{IsJournal}
use Rattle.cq_journal.specs.Rests.{Rests}
use Rattle.cq_store_wire.specs.Order.{parts_from}
use Rattle.cq_store_wire.specs.declared.build.State.{State}
use Rattle.cq_store_wire.specs.declared.build.State.TheVariants as states
use Rattle.cq_store_wire.proofs.Passing.{IsPassed}
use Rattle.cq_kept_base.specs.Writing.{writer_records}
use Rattle.cq_kept_entries.specs.Pieces.{at, read, start, storing}
use Rattle.cq_kept_entries.proofs.rewriting.add_store.Given as goal

abbrev pub invariant-loop-alloc : goal.invariant-loop-alloc
invariant-loop-alloc g l = record {
  journal : IsJournal l.journal;
  rests : Rests l.initial.journal l.journal;
  base : IsBase l.journal l.base.base;
  added : read start (joined (writer_records l.initial.journal l.initial.base)) ≡ at [] (storing states.Empty)
      → (state : State) × (read start (joined (writer_records l.journal l.base)) ≡ at [] (storing state)) × IsPassed l.store (parts_from l.store l.writer.bodies l.writer.place) state;
}

abbrev pub decreases-loop-alloc : goal.decreases-loop-alloc
decreases-loop-alloc g l = length (parts_from l.store l.writer.bodies l.writer.place)
