-- It is whether the map finds it.
use Rattle.std.proofs.Common.{◌∙◌}
use Rattle.cq_process.proofs.Ends.{is-found}
use Rattle.cq_process.proofs.outgoing_ends.OutgoingEnds.is_open.Goals as goal

pub returns : goal.returns
returns c = c.contains_key.ensures ∙ is-found c.self.inside.ends.entries c.args.self.now c.args.to.now c.self.view_is
