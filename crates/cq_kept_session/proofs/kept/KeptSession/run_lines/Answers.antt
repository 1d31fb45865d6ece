-- The lines are run behind those from before.
use Rattle.cq_kept_session.proofs.Readings.{run_more}
use Rattle.cq_kept_session.proofs.kept.KeptSession.run_lines.Goals as goal

pub returns-clause-run : goal.returns-clause-run
returns-clause-run g c = λ size start lines fits run. run_more size start lines c.args.bytes.now c.restore.new.self fits (λ before are. c.in_ok-restore.ensures size before (run before are))
