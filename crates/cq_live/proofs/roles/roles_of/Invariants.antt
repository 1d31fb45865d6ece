-- So far there are the servers before this place.
use Rattle.std.proofs.Common.{◌≡◌}
use Rattle.cq_live.specs.within.Making.{roles_of}
use Rattle.cq_live.proofs.roles.roles_of.Given as goal

abbrev pub invariant-loop-place : goal.invariant-loop-place
invariant-loop-place l = l.roles.items ≡ roles_of l.steps l.place
