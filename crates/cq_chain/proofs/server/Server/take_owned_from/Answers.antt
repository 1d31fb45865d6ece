-- By whether it is a snapshot.
use Rattle.std.proofs.Common.{subst, sym}
use Rattle.cq_chain.specs.Stands.{Means}
use Rattle.cq_chain.proofs.ServerRefusals.{snapshot-seen, snapshot-not-refused, none-refused, for-memory}
use Rattle.cq_chain.proofs.server.Server.take_owned_from.Goals as goal

pub returns-in-Ok-clause-taken : goal.returns-in-Ok-clause-taken
returns-in-Ok-clause-taken c = λ s outbox m h means.
    let is = snapshot-seen c.args.message c.in-Ok.state m c.in-Ok.ensures.snapshot means in none-refused c.take_store.result _ (snapshot-not-refused s c.args.from is.entries m is.is)

pub returns-in-Ok-clause-refused : goal.returns-in-Ok-clause-refused
returns-in-Ok-clause-refused c = λ s outbox m h means.
    let is = snapshot-seen c.args.message c.in-Ok.state m c.in-Ok.ensures.snapshot means in for-memory c.take_store.result _ _ c.take_store.ensures.back (snapshot-not-refused s c.args.from is.entries m is.is)

pub returns-in-Err-clause-refused : goal.returns-in-Err-clause-refused
returns-in-Err-clause-refused c = λ s outbox m h means. c.take_lent.ensures.refused s outbox m h (subst (λ x. Means x m) (sym c.in-Err.ensures.other) means)
