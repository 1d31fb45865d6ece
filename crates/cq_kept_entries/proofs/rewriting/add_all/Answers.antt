-- The first piece, the store, and the end.
use Rattle.std.proofs.Common.{◌≡◌, [], ◌∙◌, ap}
use Rattle.cq_records.specs.Frames.{joined}
use Rattle.cq_journal.proofs.Copies.{rests_on}
use Rattle.cq_store_wire.specs.declared.build.State.TheVariants as states
use Rattle.cq_kept_base.specs.Writing.{writer_records}
use Rattle.cq_kept_entries.specs.Pieces.{at, read, start, storing}
use Rattle.cq_kept_entries.proofs.Rewritten.{base_begun, base_ended, if_ok}
use Rattle.cq_kept_entries.proofs.rewriting.add_all.Goals as goal

pub returns-in_err-add_store-clause-rests : goal.returns-in_err-add_store-clause-rests
returns-in_err-add_store-clause-rests g c = rests_on c.args.journal.now c.add_record.new.journal c.add_store.new.journal c.add_record.ensures.rests c.add_store.ensures.rests

pub returns-clause-rests : goal.returns-clause-rests
returns-clause-rests g c =
    let both = rests_on c.args.journal.now c.add_record.new.journal c.add_store.new.journal c.add_record.ensures.rests c.add_store.ensures.rests in
    rests_on c.args.journal.now c.add_store.new.journal c.end_base.new.journal both c.end_base.ensures.rests

pub returns-clause-stands : goal.returns-clause-stands
returns-clause-stands g c =
    let begun : read start (joined (writer_records c.add_record.new.journal c.add_record.new.base)) ≡ at [] (storing states.Empty) =
    ap (λ rs. read start (joined rs)) c.in_ok-add_record.ensures.added ∙ base_begun (writer_records c.args.journal.now c.args.base.now) c.requires.empty in
    let stored = c.in_ok-add_store.ensures.added begun in
    if_ok c.end_base.result c.end_base.ensures.added (λ is. ap (λ rs. read start (joined rs)) is ∙ base_ended (writer_records c.add_store.new.journal c.add_store.new.base) c.args.store.now stored)
