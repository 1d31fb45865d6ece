-- By the length of the history.
use Rattle.std.proofs.Common.{◌∙◌, ap, sym, nat_le}
use Rattle.cq_chain.specs.Servers.{reaches}
use Rattle.cq_chain.proofs.ServerStands.{acting}
use Rattle.cq_store.specs.Stands.{count_of}
use Rattle.cq_chain.proofs.server.Server.is_acting.Goals as goal

pub returns-in-Some : goal.returns-in-Some
returns-in-Some c = λ s outbox h. ap (λ n. nat_le c.in-Some.least n) c.count.ensures ∙ sym (ap (λ l. reaches (count_of c.args.self.now.replica.store) l) c.in-Some.is) ∙ acting c.args.self.now s outbox h

pub returns-in-None : goal.returns-in-None
returns-in-None c = λ s outbox h. sym (ap (λ l. reaches (count_of c.args.self.now.replica.store) l) c.in-None.is) ∙ acting c.args.self.now s outbox h
