-- All that waits is put, and what still waits is looked for.
use Rattle.cq_master_process.proofs.Answered.{takes-turns}
use Rattle.cq_master_process.proofs.process.MasterProcess.turns.Goals as goal

pub returns-in-Ok-clause-turns : goal.returns-in-Ok-clause-turns
returns-in-Ok-clause-turns c = takes-turns c.args.self.now c.put_in_order.new.self c.first_left.result c.args.out.now.items c.put_in_order.new.out.items c.in-Ok.ensures.puts c.first_left.ensures
