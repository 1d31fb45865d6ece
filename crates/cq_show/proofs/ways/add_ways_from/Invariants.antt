-- So far there are the ways to the parties that the loop has passed.
use Rattle.std.proofs.Common.{◌≡◌, ◌++◌, take}
use Rattle.cq_events.specs.Worlds.{World}
use Rattle.cq_world.specs.Stands.{StandsFor}
use Rattle.cq_show.specs.Worlds.{ways_from}
use Rattle.cq_show.proofs.ways.add_ways_from.Given as goal

abbrev pub invariant-loop-to : goal.invariant-loop-to
invariant-loop-to l = (w : World) → StandsFor l.sim w → l.ways.items ≡ l.initial.ways.items ++ ways_from w (take l.to-index l.tos) l.from
