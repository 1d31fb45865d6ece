-- So far there are the servers of the numbers that the loop has passed.
use Rattle.std.proofs.Common.{◌≡◌}
use Rattle.cq_events.specs.Worlds.{World}
use Rattle.cq_world.specs.Stands.{StandsFor}
use Rattle.cq_show.specs.Worlds.{servers_upto}
use Rattle.cq_show.proofs.servers.shown_servers.Given as goal

abbrev pub invariant-loop-before : goal.invariant-loop-before
invariant-loop-before l = (w : World) → StandsFor l.sim w → l.servers.items ≡ servers_upto w l.before
