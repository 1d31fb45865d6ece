-- The core took it, and it counts.
use Rattle.std.proofs.Common.{refl}
use Rattle.cq_master_process.proofs.Cores.{took-alone}
use Rattle.cq_master_process.proofs.process.MasterProcess.take_counted.Goals as goal

pub returns-in-Ok-clause-took : goal.returns-in-Ok-clause-took
returns-in-Ok-clause-took c = record {
  done = took-alone c.args.self.now.core c.take.new.self c.args.from c.args.message.now c.in-Ok.ensures.ok;
  taken = c.count_taken.ensures.taken;
  put = c.count_taken.ensures.put;
  gone = c.count_taken.ensures.gone;
}

pub returns-in-Err-clause-same : goal.returns-in-Err-clause-same
returns-in-Err-clause-same c = record { core = c.in-Err.ensures.err; taken = refl; put = refl; gone = refl }
