-- The outbox loses its first message.
use Rattle.cq_base.specs.declared.party.Party.TheVariants as parties
use Rattle.cq_chain.specs.Stands.{drained}
use Rattle.cq_chain.proofs.MasterStands.{master-parts, with_master_boxes}
use Rattle.cq_chain.proofs.master.Master.put.Goals as goal

pub returns-clause-first : goal.returns-clause-first
returns-clause-first c = λ m outbox h. c.pop.ensures.first outbox (master-parts c.args.self.now m outbox h).waiting

pub returns-clause-drained : goal.returns-clause-drained
returns-clause-drained c = λ m outbox h. let p = master-parts c.args.self.now m outbox h in
    with_master_boxes c.args.self.now m outbox (drained outbox (parties.Server c.args.to)) c.pop.new.self h (c.pop.ensures.rest outbox p.waiting) p.master p.clients
