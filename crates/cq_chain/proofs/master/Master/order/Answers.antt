-- One message more waits for the server.
use Rattle.std.proofs.Common.{◌∷◌, [], refl}
use Rattle.cq_base.specs.declared.party.Party.TheVariants as parties
use Rattle.cq_chain.proofs.master.Master.order.Goals as goal

pub returns-clause-ok : goal.returns-clause-ok
returns-clause-ok c = λ x means m outbox h. c.say.ensures m outbox ((parties.Server c.args.to, x) ∷ []) (c.reserve.ensures.keeps m outbox h) (refl, (means, tt))
