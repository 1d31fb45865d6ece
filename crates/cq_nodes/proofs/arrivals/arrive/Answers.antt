-- The request is given back.
use Rattle.std.proofs.Common.{refl}
use Rattle.cq_nodes.proofs.arrivals.arrive.Goals as goal

pub returns-clause-idle : goal.returns-clause-idle
returns-clause-idle c = λ none. absurd (none c.args.request refl)
