-- What is thrown away never fails for want of memory.
use Rattle.cq_base.specs.declared.party.Party.TheVariants.{Server}
use Rattle.cq_process.specs.Links.{end_of}
use Rattle.cq_process.proofs.Takes.{throws-no-memory}
use Rattle.cq_process.proofs.links.Links.gone.Goals as goal

pub returns-in-Ok-clause-no_memory : goal.returns-in-Ok-clause-no_memory
returns-in-Ok-clause-no_memory c = λ is.
    absurd (throws-no-memory (end_of c.mark_gone.new.self.outgoing (Server c.args.server)) (end_of c.throw_all.new.self.outgoing (Server c.args.server)) c.args.core.now c.throw_all.new.core (Server c.args.server) c.throw_all.result c.throw_all.ensures.throws is)
