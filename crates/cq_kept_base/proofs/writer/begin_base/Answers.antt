-- No record waits.
use Rattle.std.proofs.Common.{List, ℕ, ◌∙◌, ap, append-nil}
use Rattle.std.specs.Prelude.{◌++◌}
use Rattle.cq_journal.specs.Base.{base_records}
use Rattle.cq_records.specs.Frames.{records}
use Rattle.cq_kept_base.proofs.writer.begin_base.Goals as goal

pub returns-in_err-base-clause-rests : goal.returns-in_err-base-clause-rests
returns-in_err-base-clause-rests g c = let b = c.begin_base.ensures in record { half = b.lengths.0; len = b.lengths.1; records = b.records; honest = b.honest; moments = b.any_moment; intact = b.intact; stays = b.stays; later = b.later }

pub returns-clause-rests : goal.returns-clause-rests
returns-clause-rests g c = let b = c.begin_base.ensures in record { half = b.lengths.0; len = b.lengths.1; records = b.records; honest = b.honest; moments = b.any_moment; intact = b.intact; stays = b.stays; later = b.later }

pub returns-clause-empty : goal.returns-clause-empty
returns-clause-empty g c =
    ap (λ (l : List ℕ). base_records c.begin_base.new.self c.in_ok-base.base ++ records l) c.new.ensures ∙ append-nil (base_records c.begin_base.new.self c.in_ok-base.base) ∙ c.in_ok-base.ensures.empty
