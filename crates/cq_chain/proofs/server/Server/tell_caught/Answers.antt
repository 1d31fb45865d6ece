-- One message more waits for the master.
use Rattle.std.proofs.Common.{◌∷◌, [], ◌∙◌, ap, refl}
use Rattle.cq_base.specs.declared.party.Party.TheVariants as parties
use Rattle.cq_chain.specs.Messages as sent
use Rattle.cq_chain.proofs.ServerStands.{parts, with_posts}
use Rattle.cq_chain.proofs.server.Server.tell_caught.Goals as goal

pub returns : goal.returns
returns c = λ s outbox h.
    with_posts c.args.self.now s outbox c.push.new.self ((parties.Master, sent.Caught c.args.pred c.count-count.result) ∷ []) _ h (c.push.ensures.posts (sent.Caught c.args.pred c.count-count.result) refl)
    (ap (λ n. (parties.Master, sent.Caught c.args.pred n) ∷ []) (c.count-count.ensures ∙ (parts c.args.self.now s outbox h).entries.store.count))
