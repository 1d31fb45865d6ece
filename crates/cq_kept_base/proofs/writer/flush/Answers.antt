-- What waited is behind the rest.
use Rattle.std.proofs.Common.{List, ℕ, ◌∙◌, ap, append-nil}
use Rattle.std.specs.Prelude.{◌++◌}
use Rattle.cq_journal.specs.Base.{base_records}
use Rattle.cq_records.specs.Frames.{records}
use Rattle.cq_kept_base.proofs.writer.flush.Goals as goal

pub returns-clause-same : goal.returns-clause-same
returns-clause-same g c =
    let now = base_records c.commit_batch.new.journal c.commit_batch.new.base in
    ap (λ (l : List ℕ). now ++ records l) c.clear.ensures ∙ append-nil now ∙ c.in_ok-commit_batch.ensures.added
