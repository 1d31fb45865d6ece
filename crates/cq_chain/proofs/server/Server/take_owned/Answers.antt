-- By who sent it.
use Rattle.std.proofs.Common.{subst, sym}
use Rattle.std.specs.Prelude.{IfErr}
use Rattle.cq_chain.specs.Faults.{IsRefusal}
use Rattle.cq_chain.specs.Refusals.{refusal_of_taking}
use Rattle.cq_chain.proofs.server.Server.take_owned.Goals as goal

pub returns-in-Server-clause-refused : goal.returns-in-Server-clause-refused
returns-in-Server-clause-refused c = λ s outbox m h means.
    subst (λ from. IfErr c.take_owned_from.result (λ untaken. IsRefusal untaken.fault (refusal_of_taking from m s))) (sym c.in-Server.is) (c.take_owned_from.ensures.refused s outbox m h means)
