-- A base is written, and then named in the place of all.
use Rattle.std.proofs.Common.{inl, inr, refl, sym, ◌∙◌, ap, subst}
use Rattle.cq_journal.specs.Base.{base_records}
use Rattle.cq_journal.specs.Journal.{IsJournal, journal_records}
use Rattle.cq_records.specs.Frames.{joined}
use Rattle.cq_kept_base.proofs.Rewriting.{rests_tries, rewrite_tries}
use Rattle.cq_kept_entries.specs.Pieces.{read, start}
use Rattle.cq_kept_entries.proofs.Rewritten.{if_ok}
use Rattle.cq_kept_entries.proofs.rewriting.replace_records.Goals as goal

pub returns-in_err-base-clause-tries : goal.returns-in_err-base-clause-tries
returns-in_err-base-clause-tries g c = (journal_records c.args.journal.now, rests_tries c.args.journal.now c.write_base.new.journal c.write_base.ensures.rests, inl refl)

pub returns-clause-tries : goal.returns-clause-tries
returns-clause-tries g c =
    let base = base_records c.write_base.new.journal c.in_ok-base.base in (
      base,
      rewrite_tries c.args.journal.now c.write_base.new.journal c.rewrite.new.self base c.write_base.ensures.rests c.rewrite.ensures.honest c.rewrite.ensures.any_moment,
      inr c.in_ok-base.ensures.stands,
    )

pub returns-clause-lengths : goal.returns-clause-lengths
returns-clause-lengths g c = if_ok c.rewrite.result c.rewrite.ensures.lengths (λ is. (is.0 ∙ c.write_base.ensures.rests.half, is.1 ∙ c.write_base.ensures.rests.len))

pub returns-clause-stands : goal.returns-clause-stands
returns-clause-stands g c = if_ok c.rewrite.result c.rewrite.ensures.rewritten (λ is. ap (λ rs. read start (joined rs)) is ∙ c.in_ok-base.ensures.stands)

pub returns-clause-full : goal.returns-clause-full
returns-clause-full g c = λ full.
    let same = c.rewrite.ensures.full full in
    (subst IsJournal (sym same) c.in_ok-base.ensures.journal, ap journal_records same ∙ c.write_base.ensures.rests.records)
