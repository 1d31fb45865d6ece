use Rattle.cq_records.specs.Logs.{IsSettled}
use Rattle.cq_records_tests.proofs.filling.fill.Given as goal

abbrev pub invariant-loop : goal.invariant-loop
invariant-loop g l = record { settled : IsSettled g.D.Device.seen g.D.Device.may_leave l.log }
