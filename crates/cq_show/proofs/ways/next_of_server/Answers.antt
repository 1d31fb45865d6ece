-- Nothing waits at a server that isn't there.
use Rattle.std.proofs.Common.{ap, sym}
use Rattle.cq_show.specs.Worlds.{next_of}
use Rattle.cq_show.proofs.Unknown.{nothing-waits}
use Rattle.cq_show.proofs.ways.next_of_server.Goals as goal

pub returns-in-None : goal.returns-in-None
returns-in-None c = λ w h. sym (ap next_of (nothing-waits c.args.sim.now w h c.args.at c.args.to.now (c.in-None.ensures w h)))
