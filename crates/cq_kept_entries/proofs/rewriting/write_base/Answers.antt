use Rattle.std.proofs.Common.{◌≡◌, List, ℕ, ◌++◌, sym, ◌∙◌, ap, append-nil}
use Rattle.cq_journal.proofs.Copies.{rests_on}
use Rattle.cq_journal.specs.Base.{base_records}
use Rattle.cq_records.specs.Frames.{joined, records}
use Rattle.cq_kept_base.specs.Writing.{writer_records}
use Rattle.cq_kept_entries.specs.Pieces.{read, start}
use Rattle.cq_kept_entries.proofs.rewriting.write_base.Goals as goal

pub returns-in_err-add_all-clause-rests : goal.returns-in_err-add_all-clause-rests
returns-in_err-add_all-clause-rests g c = rests_on c.args.journal.now c.begin_base.new.journal c.add_all.new.journal c.begin_base.ensures.rests c.add_all.ensures.rests

pub returns-clause-rests : goal.returns-clause-rests
returns-clause-rests g c = rests_on c.args.journal.now c.begin_base.new.journal c.add_all.new.journal c.begin_base.ensures.rests c.add_all.ensures.rests

pub returns-clause-stands : goal.returns-clause-stands
returns-clause-stands g c =
    let w = c.add_all.new.base in
    let written = base_records c.add_all.new.journal w.base in
    let same : base_records c.add_all.new.journal c.into_base.result ≡ writer_records c.add_all.new.journal w =
    ap (λ b. base_records c.add_all.new.journal b) c.into_base.ensures ∙ sym (ap (λ (l : List ℕ). written ++ records l) c.in_ok-add_all.ensures.flushed ∙ append-nil written) in
    ap (λ rs. read start (joined rs)) same ∙ c.in_ok-add_all.ensures.stands
