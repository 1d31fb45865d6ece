-- What was read as whole is the message that the core took.
use Rattle.cq_process.proofs.incoming.Incoming.take.Goals as goal

pub returns-in-Ok-clause-took : goal.returns-in-Ok-clause-took
returns-in-Ok-clause-took c = λ is. record {
  message = c.in-Ok-Whole.message;
  whole = rw c.in-Ok-Whole.field-0-is at c.in-Ok-Whole.ensures.read;
  done = c.in-Ok.ensures.ok;
}
