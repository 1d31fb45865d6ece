-- By whether anything is said.
use Rattle.std.proofs.Common.{subst}
use Rattle.cq_chain.specs.within.Waiting.{IsSaid}
use Rattle.cq_chain.proofs.master.Master.say.Goals as goal

pub returns-in-Some : goal.returns-in-Some
returns-in-Some c = λ m outbox all h said. c.say_one.ensures m outbox all h (subst (λ o. IsSaid o all) c.in-Some.is said)
