-- Room is made, the entry is appended, and a server that acts is settled.
use Rattle.cq_chain.specs.Stands.{posted}
use Rattle.cq_chain.specs.Steps.{appended, passed_on}
use Rattle.cq_store.specs.Stands.{last_of}
use Rattle.cq_chain.proofs.ServerStands.{parts, stamped-by, arrived-stands}
use Rattle.cq_chain.proofs.server.Server.append_request.Goals as goal

pub returns-clause-ok : goal.returns-clause-ok
returns-clause-ok c = λ s outbox h.
    let e = c.in_ok-entry.entry in
    let is = stamped-by s.entries c.args.clock (last_of c.args.self.now.replica.store) c.args.request.now e c.in_ok-entry.ensures.value (parts c.args.self.now s outbox h).entries.store.last in
    arrived-stands c.acknowledge_all.new.self c.args.clock c.args.request.now s outbox e is
    (c.acknowledge_all.ensures (appended s e) (posted outbox (passed_on s e)) (c.in_ok-append.ensures.ok s outbox (c.reserve.ensures.keeps s outbox h)))
