-- The nodes so far, and those of what is left, are all; what is left is as long on each side, and unused.
use Rattle.std.proofs.Common.{◌≡◌, ◌++◌, length}
use Rattle.std.specs.List.{All}
use Rattle.std.specs.Vec.Iter.{into_iter_items}
use Rattle.cq_live.specs.within.Making.{IsEven, IsFresh, servers_of}
use Rattle.cq_link.specs.Wirings.{AreUnused}
use Rattle.cq_live.proofs.servers.servers_of.Given as goal

abbrev pub invariant-loop-role : goal.invariant-loop-role
invariant-loop-role l = record {
  made : l.nodes.items ++ servers_of l.fn.size (into_iter_items l.role-iterator) (into_iter_items l.ports) (into_iter_items l.wires) ≡ servers_of l.fn.size l.fn.roles.items l.fn.ports.items l.fn.wires.items;
  port_for_each : length (into_iter_items l.ports) ≡ length (into_iter_items l.role-iterator);
  ends_for_each : length (into_iter_items l.wires) ≡ length (into_iter_items l.role-iterator);
  unused : AreUnused (into_iter_items l.ports);
  even : All IsEven (into_iter_items l.ports);
  fresh : All IsFresh (into_iter_items l.wires);
}
