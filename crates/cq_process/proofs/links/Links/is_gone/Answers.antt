-- It is whether the set has the party.
use Rattle.std.proofs.Common.{◌∙◌}
use Rattle.cq_process.proofs.Ends.{is-gone}
use Rattle.cq_process.proofs.links.Links.is_gone.Goals as goal

pub returns : goal.returns
returns c = c.contains.ensures ∙ is-gone c.args.self.now.gone.keys c.args.party.now
