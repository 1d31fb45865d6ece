-- A base is written, and then named in the place of all.
use Rattle.std.proofs.Common.{inl, inr, refl, sym, ◌∙◌, ap, subst}
use Rattle.cq_journal.specs.Base.{base_records}
use Rattle.cq_journal.specs.Journal.{IsJournal, journal_records}
use Rattle.cq_records.specs.Frames.{joined}
use Rattle.cq_kept_session.specs.Bases.{fresh, read}
use Rattle.cq_kept_session.specs.Texts.{is_ended}
use Rattle.cq_kept_session.proofs.Pieces.{if_ok}
use Rattle.cq_kept_base.proofs.Rewriting.{rests_tries, rewrite_tries}
use Rattle.cq_kept_session.proofs.rewriting.replace_records.Goals as goal

pub returns-in_err-base-clause-tries : goal.returns-in_err-base-clause-tries
returns-in_err-base-clause-tries g c = (journal_records c.args.journal.now, rests_tries c.args.journal.now c.write_base.new.journal c.write_base.ensures.rests, inl refl)

pub returns-clause-tries : goal.returns-clause-tries
returns-clause-tries g c =
    let base = base_records c.write_base.new.journal c.in_ok-base.base in (
      base,
      rewrite_tries c.args.journal.now c.write_base.new.journal c.rewrite.new.self base c.write_base.ensures.rests c.rewrite.ensures.honest c.rewrite.ensures.any_moment,
      inr c.in_ok-base.ensures.stands,
    )

pub returns-clause-stands : goal.returns-clause-stands
returns-clause-stands g c = if_ok c.rewrite.result c.rewrite.ensures.rewritten (λ is. ap (λ rs. read fresh (joined rs)) is ∙ c.in_ok-base.ensures.stands)

pub returns-clause-ended : goal.returns-clause-ended
returns-clause-ended g c = if_ok c.rewrite.result c.rewrite.ensures.rewritten (λ is. ap (λ rs. is_ended (joined rs)) is ∙ c.in_ok-base.ensures.ended)

pub returns-clause-full : goal.returns-clause-full
returns-clause-full g c = λ full.
    let same = c.rewrite.ensures.full full in
    (subst IsJournal (sym same) c.in_ok-base.ensures.journal, ap journal_records same ∙ c.write_base.ensures.rests.records)
