-- So far there are the ways from the parties that the loop has passed.
use Rattle.std.proofs.Common.{◌≡◌, take}
use Rattle.std.specs.List.{flat_map}
use Rattle.cq_events.specs.Worlds.{World}
use Rattle.cq_world.specs.Stands.{StandsFor}
use Rattle.cq_show.specs.Worlds.{ways_from}
use Rattle.cq_show.proofs.ways.shown_ways.Given as goal

abbrev pub invariant-loop-from : goal.invariant-loop-from
invariant-loop-from l = (w : World) → StandsFor l.sim w → l.ways.items ≡ flat_map (ways_from w l.parties) (take l.from-index l.parties)
