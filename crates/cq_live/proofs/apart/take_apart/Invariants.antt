-- The servers that are taken apart, and those that are left, are all.
use Rattle.std.proofs.Common.{◌≡◌, ◌++◌, List}
use Rattle.std.specs.Vec.Iter.{into_iter_items}
use Rattle.cq_live.specs.within.Aparts.{Server, IsApart}
use Rattle.cq_live.proofs.apart.take_apart.Given as goal

abbrev pub invariant-loop-server : goal.invariant-loop-server
invariant-loop-server l = record {
  done : List Server;
  left : done ++ into_iter_items l.server-iterator ≡ l.fn.servers.items;
  apart : IsApart l.fn.master l.fn.own done l.fn.first l.fn.second l.apart;
}
