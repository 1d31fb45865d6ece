-- The ends so far, and those that are left, are all.
use Rattle.std.proofs.Common.{◌≡◌, ◌++◌}
use Rattle.std.specs.Vec.Iter.{into_iter_items}
use Rattle.cq_nodes.specs.Ends.{in_ends_of}
use Rattle.cq_live.proofs.bare_ends.add_ins.Given as goal

abbrev pub invariant-loop-end : goal.invariant-loop-end
invariant-loop-end l = l.ends.items ++ in_ends_of (into_iter_items l.end-iterator) ≡ l.fn.ends.items ++ in_ends_of l.fn.ins.items
