-- What was read is what was told, of lines or of entries.
use Rattle.std.proofs.Common.{inl, inr}
use Rattle.cq_kept_run.proofs.Looked.{on_ok}
use Rattle.cq_kept_run.proofs.verifying.verify_source.Goals as goal

pub returns-in_ok-tell_contents-in-Ok : goal.returns-in_ok-tell_contents-in-Ok
returns-in_ok-tell_contents-in-Ok g c = let r = c.in-Ok.ensures in inl (c.in-Ok.contents, r.0, r.1, r.2, c.in_ok-tell_contents-in-Ok.ensures)

pub returns-in-Err : goal.returns-in-Err
returns-in-Err g c = on_ok c.verify_entries.result c.verify_entries.ensures inr
