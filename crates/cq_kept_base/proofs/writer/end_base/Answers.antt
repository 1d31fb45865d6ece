-- All others are written, and then this one.
use Rattle.std.proofs.Common.{List, ℕ, ◌∷◌, [], ◌∙◌, ap}
use Rattle.std.specs.Prelude.{◌++◌}
use Rattle.cq_journal.proofs.Copies.{rests_on}
use Rattle.cq_kept_base.proofs.Written.{if_ok}
use Rattle.cq_kept_base.proofs.writer.end_base.Goals as goal

pub returns-in_err-add_record-clause-rests : goal.returns-in_err-add_record-clause-rests
returns-in_err-add_record-clause-rests g c = rests_on c.args.journal.now c.flush.new.journal c.add_record.new.journal c.flush.ensures.rests c.add_record.ensures.rests

pub returns-clause-rests : goal.returns-clause-rests
returns-clause-rests g c =
    let added = rests_on c.args.journal.now c.flush.new.journal c.add_record.new.journal c.flush.ensures.rests c.add_record.ensures.rests in
    rests_on c.args.journal.now c.add_record.new.journal c.flush-2.new.journal added c.flush-2.ensures.rests

pub returns-clause-added : goal.returns-clause-added
returns-clause-added g c =
    if_ok c.flush-2.result c.flush-2.ensures.same (λ is.
    is ∙ c.in_ok-add_record.ensures.added ∙ ap (λ rs. rs ++ c.args.text.now ∷ []) c.in_ok-flush.ensures.same)
