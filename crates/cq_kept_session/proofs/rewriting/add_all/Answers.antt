-- The header, the store, and the end.
use Rattle.std.proofs.Common.{◌≡◌, [], ◌∷◌, ◌++◌, None, Some, ◌∙◌, ap}
use Rattle.cq_records.specs.Frames.{joined}
use Rattle.cq_journal.proofs.Copies.{rests_on}
use Rattle.cq_store_wire.specs.declared.build.State.TheVariants as states
use Rattle.cq_kept_base.specs.Writing.{writer_records}
use Rattle.cq_kept_session.specs.Bases.{based, fresh, read}
use Rattle.cq_kept_session.proofs.Bases.{with_header}
use Rattle.cq_kept_session.proofs.Pieces.{if_ok}
use Rattle.cq_kept_session.specs.Texts.{is_ended}
use Rattle.cq_kept_session.proofs.Chunks.{joined_more}
use Rattle.cq_kept_session.proofs.Written.{base_ended, line_ended}
use Rattle.cq_kept_session.proofs.rewriting.add_all.Goals as goal

pub returns-in_err-add_store-clause-rests : goal.returns-in_err-add_store-clause-rests
returns-in_err-add_store-clause-rests g c = rests_on c.args.journal.now c.add_piece.new.journal c.add_store.new.journal c.add_piece.ensures.rests c.add_store.ensures.rests

pub returns-clause-rests : goal.returns-clause-rests
returns-clause-rests g c =
    let both = rests_on c.args.journal.now c.add_piece.new.journal c.add_store.new.journal c.add_piece.ensures.rests c.add_store.ensures.rests in
    rests_on c.args.journal.now c.add_store.new.journal c.end_base.new.journal both c.end_base.ensures.rests

pub returns-clause-stands : goal.returns-clause-stands
returns-clause-stands g c = λ value is.
    let begun : read fresh (joined (writer_records c.args.journal.now c.args.base.now) ++ 2 ∷ []) ≡ based [] None states.Empty = ap (λ rs. read fresh (joined rs ++ 2 ∷ [])) c.requires.empty in
    let headed : read fresh (joined (writer_records c.add_piece.new.journal c.add_piece.new.base)) ≡ based [] (Some value) states.Empty =
    c.in_ok-add_piece.ensures.added None states.Empty (based [] (Some value) states.Empty) begun (with_header c.args.header.now value states.Empty is) in
    let stored = c.in_ok-add_store.ensures.added value headed in
    if_ok c.end_base.result c.end_base.ensures.added (λ is_more.
    ap (λ rs. read fresh (joined rs)) is_more ∙ base_ended (writer_records c.add_store.new.journal c.add_store.new.base) value c.args.store.now stored)

pub returns-clause-ended : goal.returns-clause-ended
returns-clause-ended g c =
    let old = writer_records c.add_store.new.journal c.add_store.new.base in
    if_ok c.end_base.result c.end_base.ensures.added (λ is. ap (λ rs. is_ended (joined rs)) is ∙ ap is_ended (joined_more old (10 ∷ [])) ∙ line_ended (joined old))
