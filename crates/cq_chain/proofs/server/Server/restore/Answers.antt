-- The store takes the place of the history, and a server that acts tells and is settled.
use Rattle.std.proofs.Common.{refl, is_none, length, ◌++◌, ◌∷◌, []}
use Rattle.cq_base.specs.declared.party.Party.TheVariants as parties
use Rattle.cq_chain.specs.Messages as sent
use Rattle.cq_chain.specs.Stands.{posted}
use Rattle.cq_chain.specs.Steps.{with_history, tail_news, when}
use Rattle.cq_chain.proofs.OrderStands.{history-stands}
use Rattle.cq_chain.proofs.server.Server.restore.Goals as goal

pub returns : goal.returns
returns c = λ es is s outbox h.
    let now = with_history s es in
    c.acknowledge_all.ensures now (posted outbox (tail_news s now ++ when (is_none now.at_least) ((parties.Master, sent.Caught c.args.from (length es)) ∷ [])))
    (c.tell_restored.ensures s now outbox (history-stands c.args.self.now s outbox c.restore.new.self es h (c.restore.ensures.stands es is))
    (c.is_acting-acted.ensures s outbox h) refl)
