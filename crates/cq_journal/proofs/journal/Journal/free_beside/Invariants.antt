use Rattle.std.proofs.Common.{◌-◌}
use Rattle.cq_journal.proofs.journal.Journal.free_beside.Given as goal

abbrev pub decreases-loop-half : goal.decreases-loop-half
decreases-loop-half g l = l.whole - l.place
