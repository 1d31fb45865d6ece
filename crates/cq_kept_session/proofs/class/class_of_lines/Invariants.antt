use Rattle.std.proofs.Common.{length}
use Rattle.cq_kept_session.proofs.class.class_of_lines.Given as goal

abbrev pub decreases-loop-line : goal.decreases-loop-line
decreases-loop-line l = length l.rest
