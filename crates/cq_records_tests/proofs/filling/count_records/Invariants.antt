use Rattle.std.proofs.Common.{◌≤◌, length}
use Rattle.cq_records_tests.proofs.filling.count_records.Given as goal

abbrev pub invariant-loop-number : goal.invariant-loop-number
invariant-loop-number g l = record { within : l.at ≤ length (g.D.Device.seen l.device) }
