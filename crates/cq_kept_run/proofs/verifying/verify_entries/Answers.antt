-- What was read is what was told.
use Rattle.cq_kept_run.proofs.verifying.verify_entries.Goals as goal

pub returns : goal.returns
returns g c = let r = c.in_ok-contents.ensures in (c.in_ok-contents.contents, r.0, r.1, r.2, c.in_ok-tell_entries.ensures)
