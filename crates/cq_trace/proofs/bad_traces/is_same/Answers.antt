-- Parties are compared as the rules compare them.
use Rattle.std.proofs.Common.{◌∙◌}
use Rattle.cq_world.proofs.OfSim.LinkKeys.{party-eq}
use Rattle.cq_trace.proofs.bad_traces.is_same.Goals as goal

pub returns : goal.returns
returns c = c.eq.ensures ∙ party-eq c.args.a c.args.b
