-- A server that acts by it tells, and is settled.
use Rattle.std.proofs.Common.{refl, subst, None}
use Rattle.cq_chain.specs.Stands.{StandsFor, posted}
use Rattle.cq_chain.specs.Steps.{as_tail, settled, tail_news}
use Rattle.cq_chain.proofs.OrderStands.{tail-stands, tailed-news}
use Rattle.cq_chain.proofs.server.Server.be_tail.Goals as goal

pub returns-clause-ok : goal.returns-clause-ok
returns-clause-ok c = λ s outbox h.
    let now = as_tail c.args.least s in
    let old = record s { at_least = None; succ = None } in
    subst (λ sent. StandsFor c.acknowledge_all.new.self (settled now) (posted outbox sent)) (tailed-news c.args.least s)
    (c.acknowledge_all.ensures now (posted outbox (tail_news old now))
    (c.send_ack.ensures old now outbox (tail-stands c.reserve.new.self s outbox c.args.least (c.reserve.ensures.keeps s outbox h)) refl refl))
