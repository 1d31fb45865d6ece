-- By what the line says.
use Rattle.std.proofs.lemmas.Result.{on_ok_weaker}
use Rattle.cq_script.specs.Output.{output}
use Rattle.cq_script.proofs.outcome.run_line.Goals as goal

pub returns-in-Ok-clause-ok : goal.returns-in-Ok-clause-ok
unfolding output
returns-in-Ok-clause-ok c = λ w at. rw c.in-Ok.is (c.run_event.ensures.ok w at)

pub returns-in-Err-clause-ok : goal.returns-in-Err-clause-ok
unfolding output
returns-in-Err-clause-ok c = λ w at. rw c.in-Err.is (
    on_ok_weaker c.write_refused.result (λ is. (rw (c.code.ensures, c.name.ensures) at is, at)) c.write_refused.ensures.ok)
