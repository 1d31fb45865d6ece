-- Room is made, the entry is appended, and a server that acts tells and is settled.
use Rattle.std.proofs.Common.{◌++◌, subst, refl}
use Rattle.cq_chain.specs.Stands.{StandsFor, posted}
use Rattle.cq_chain.specs.Steps.{settled, appended, passed_on, tail_news}
use Rattle.cq_chain.proofs.ServerStands.{sent-after}
use Rattle.cq_chain.proofs.server.Server.take_next.Goals as goal

pub returns-clause-ok : goal.returns-clause-ok
returns-clause-ok c = λ s outbox h.
    let e = c.in_ok-entry.entry in
    let sent = posted outbox (passed_on s e) in
    subst (λ d. StandsFor c.acknowledge_all.new.self (settled (appended s d)) (posted outbox (passed_on s d ++ tail_news s (appended s d)))) c.in_ok-entry.ensures
    (sent-after c.acknowledge_all.new.self (settled (appended s e)) outbox (passed_on s e) (tail_news s (appended s e))
    (c.acknowledge_all.ensures (appended s e) (posted sent (tail_news s (appended s e)))
    (c.send_ack.ensures s (appended s e) sent (c.in_ok-append.ensures.ok s outbox (c.reserve.ensures.keeps s outbox h)) (c.is_acting-acted.ensures s outbox h) refl)))
