-- What was read is what was written, of lines or of entries.
use Rattle.std.proofs.Common.{inl, inr}
use Rattle.cq_kept_run.proofs.Looked.{on_ok}
use Rattle.cq_kept_run.proofs.dumping.dump_source.Goals as goal

pub returns-in_ok-tell_lines-in-Ok : goal.returns-in_ok-tell_lines-in-Ok
returns-in_ok-tell_lines-in-Ok g c = let r = c.in-Ok.ensures in inl (c.in-Ok.contents, r.0, r.1, r.2, c.in_ok-tell_lines-in-Ok.ensures)

pub returns-in-Err : goal.returns-in-Err
returns-in-Err g c = on_ok c.dump_other.result c.dump_other.ensures inr
