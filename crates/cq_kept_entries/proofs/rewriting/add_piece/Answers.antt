-- The piece is a record.
use Rattle.std.proofs.Common.{◌∙◌, ap}
use Rattle.cq_records.specs.Frames.{joined}
use Rattle.cq_journal.proofs.Copies.{rests_self}
use Rattle.cq_kept_base.specs.Writing.{writer_records}
use Rattle.cq_kept_entries.specs.Pieces.{read, start}
use Rattle.cq_kept_entries.proofs.Rewritten.{chunk_added, fed_some, if_ok}
use Rattle.cq_kept_entries.proofs.rewriting.add_piece.Goals as goal

pub returns-in_err-text-clause-rests : goal.returns-in_err-text-clause-rests
returns-in_err-text-clause-rests g c = rests_self c.args.journal.now (λ f. g.met.D.Device.only_now c.args.journal.now.root.log.device.device f) c.requires.journal.regions

pub returns-clause-added : goal.returns-clause-added
returns-clause-added g c = λ state next begun got.
    let t = c.in_ok-text.ensures in
    let old = writer_records c.args.journal.now c.args.base.now in
    if_ok c.add_record.result c.add_record.ensures.added (λ is.
    ap (λ rs. read start (joined rs)) is
    ∙ chunk_added old t.0 c.deref.result.now c.args.chunk.now state next (fed_some c.args.chunk.now state next got) t.1 (c.deref.ensures.value ∙ t.2) begun got)
