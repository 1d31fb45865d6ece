use Rattle.std.proofs.Common.{◌≡◌, length, drop}
use Rattle.std.specs.Vec.Iter.{into_iter_items}
use Rattle.cq_link.proofs.ClientSettling.{AreServed}
use Rattle.cq_link.proofs.clients.settle_clients.Given as goal

abbrev pub invariant-loop-server : goal.invariant-loop-server
invariant-loop-server g l = record {
  servers : into_iter_items l.server-iterator ≡ drop (length l.yielded) l.fn.wires.servers.items;
  first_outs : into_iter_items l.first_outs ≡ drop (length l.yielded) l.fn.wires.first.outs.items;
  first_ins : into_iter_items l.first_ins ≡ drop (length l.yielded) l.fn.wires.first.ins.items;
  second_outs : into_iter_items l.second_outs ≡ drop (length l.yielded) l.fn.wires.second.outs.items;
  second_ins : into_iter_items l.second_ins ≡ drop (length l.yielded) l.fn.wires.second.ins.items;
  served : AreServed (length l.yielded) l.fn.wires;
}
