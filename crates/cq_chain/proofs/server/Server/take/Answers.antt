-- By who sent it.
use Rattle.std.proofs.Common.{◌∙◌, ap, subst, sym}
use Rattle.cq_chain.specs.Refusals.{refusal_of_taking}
use Rattle.cq_chain.specs.Stands.{IsRefusedBy}
use Rattle.cq_chain.specs.Steps.{takes}
use Rattle.cq_chain.proofs.ServerStands.{stands-by, nothing-sent}
use Rattle.cq_chain.proofs.ServerRefusals.{no_memory, takes-of_clients, master-not-refused, clients-not-refused}
use Rattle.cq_chain.proofs.server.Server.take.Goals as goal

pub returns-in-Server-clause-refused : goal.returns-in-Server-clause-refused
returns-in-Server-clause-refused c = λ s outbox m h means.
    subst (λ from. IsRefusedBy (refusal_of_taking from m s) c.take_from.result) (sym c.in-Server.is) (c.take_from.ensures.refused s outbox m h means)

pub returns-in_err-take_order-in-Master-clause-refused : goal.returns-in_err-take_order-in-Master-clause-refused
returns-in_err-take_order-in-Master-clause-refused c = λ s outbox m h means.
    no_memory c.from_residual.result _ c.from_residual.ensures.1 (ap (λ from. refusal_of_taking from m s) c.in-Master.is ∙ master-not-refused s m)

pub returns-in_ok-take_order-in-Master-clause-refused : goal.returns-in_ok-take_order-in-Master-clause-refused
returns-in_ok-take_order-in-Master-clause-refused c = λ s outbox m h means. ap (λ from. refusal_of_taking from m s) c.in-Master.is ∙ master-not-refused s m

pub returns-in_ok-take_order-in-Master-clause-ok : goal.returns-in_ok-take_order-in-Master-clause-ok
returns-in_ok-take_order-in-Master-clause-ok c = λ m means s outbox h.
    stands-by c.take_order.new.self outbox _ _ (ap (λ from. takes from m s) c.in-Master.is) (c.in_ok-take_order-in-Master.ensures.ok m means s outbox h)

pub returns-in-Clients-clause-refused : goal.returns-in-Clients-clause-refused
returns-in-Clients-clause-refused c = λ s outbox m h means. ap (λ from. refusal_of_taking from m s) c.in-Clients.is ∙ clients-not-refused s m

pub returns-in-Clients-clause-ok : goal.returns-in-Clients-clause-ok
returns-in-Clients-clause-ok c = λ m means s outbox h.
    stands-by c.args.self.now outbox _ _ (ap (λ from. takes from m s) c.in-Clients.is ∙ takes-of_clients s c.args.message.now m means) (nothing-sent c.args.self.now s outbox h)
