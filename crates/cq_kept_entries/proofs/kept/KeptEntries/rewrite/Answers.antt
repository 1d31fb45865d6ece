-- A base takes the place of all.
use Rattle.cq_kept_entries.proofs.Rewritten.{moments_rewritten}
use Rattle.cq_kept_entries.proofs.kept.KeptEntries.rewrite.Goals as goal

pub returns-clause-any_moment : goal.returns-clause-any_moment
returns-clause-any_moment g c =
    let t = c.replace_records.ensures.tries in
    moments_rewritten c.args.self.now c.replace_records.new.journal c.args.store.now t.0 t.1 t.2
