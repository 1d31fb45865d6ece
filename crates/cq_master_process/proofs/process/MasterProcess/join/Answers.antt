-- It is the clause of the core's own call.
use Rattle.std.proofs.Common.{◌∙◌, refl}
use Rattle.cq_master_process.proofs.Cores.{joined-alone}
use Rattle.cq_master_process.proofs.process.MasterProcess.join.Goals as goal

pub returns-in-Ok-clause-done : goal.returns-in-Ok-clause-done
returns-in-Ok-clause-done c = record {
  done = joined-alone c.args.self.now.core c.join.new.self c.args.server c.in-Ok.ensures.ok c.in-Ok.ensures.refused;
  taken = refl;
  put = refl;
  gone = refl;
}

pub returns-in-Err-clause-refused : goal.returns-in-Err-clause-refused
returns-in-Err-clause-refused c = record { fault = c.in-Err.fault; why = c.in-Err.ensures.refused; is = c.from.ensures ∙ c.code.ensures }

pub returns-in-Err-clause-same : goal.returns-in-Err-clause-same
returns-in-Err-clause-same c = record { core = c.in-Err.ensures.err; taken = refl; put = refl; gone = refl }
