-- The set has the party, too.
use Rattle.cq_base.specs.declared.party.Party.TheVariants.{Server}
use Rattle.cq_process.proofs.Ends.{gone-too}
use Rattle.cq_process.proofs.links.Links.mark_gone.Goals as goal

pub returns-clause-gone : goal.returns-clause-gone
returns-clause-gone c = gone-too c.args.self.now.gone.keys c.insert.new.self.keys (Server c.args.server) c.in_ok-insert.ensures.updates.0
