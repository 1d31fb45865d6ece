-- The piece is a record.
use Rattle.std.proofs.Common.{refl, ◌∙◌, ap}
use Rattle.cq_records.specs.Frames.{joined}
use Rattle.cq_journal.proofs.Copies.{rests_self}
use Rattle.cq_kept_base.specs.Writing.{writer_records}
use Rattle.cq_kept_session.specs.Bases.{fresh, read}
use Rattle.cq_kept_session.proofs.Pieces.{if_ok}
use Rattle.cq_kept_session.proofs.Written.{piece_added}
use Rattle.cq_kept_session.proofs.rewriting.add_piece.Goals as goal

pub returns-in_err-text-clause-rests : goal.returns-in_err-text-clause-rests
returns-in_err-text-clause-rests g c = rests_self c.args.journal.now (λ f. g.met.D.Device.only_now c.args.journal.now.root.log.device.device f) c.requires.journal.regions

pub returns-clause-added : goal.returns-clause-added
returns-clause-added g c = λ header state stage begun gives.
    let t = c.in_ok-text.ensures in
    let old = writer_records c.args.journal.now c.args.base.now in
    if_ok c.add_record.result c.add_record.ensures.added (λ is.
    ap (λ rs. read fresh (joined rs)) is
    ∙ piece_added old c.args.front.now c.args.front.now t.0 c.deref.result.now c.args.payload.now header state stage c.requires.payload refl t.1 (c.deref.ensures.value ∙ t.2) begun gives)
