-- The ends so far, and those that are left, are all.
use Rattle.std.proofs.Common.{◌≡◌, ◌++◌}
use Rattle.std.specs.Vec.Iter.{into_iter_items}
use Rattle.cq_nodes.specs.Ends.{ends_of}
use Rattle.cq_live.proofs.bare_ends.add_outs.Given as goal

abbrev pub invariant-loop-end : goal.invariant-loop-end
invariant-loop-end l = l.ends.items ++ ends_of (into_iter_items l.end-iterator) ≡ l.fn.ends.items ++ ends_of l.fn.outs.items
