-- The links so far, and the ends that are left, are all; those that are left are as many on either side, and unused.
use Rattle.std.proofs.Common.{◌≡◌, ◌++◌, [], length}
use Rattle.std.specs.List.{All}
use Rattle.std.specs.Vec.Iter.{into_iter_items}
use Rattle.cq_link.specs.Inboxes.{put_in}
use Rattle.cq_link.specs.Links.{taken_from}
use Rattle.cq_live.proofs.fresh.client_links_of.Given as goal

abbrev pub invariant-loop-out : goal.invariant-loop-out
invariant-loop-out l = record {
  outs : l.links.outs ++ into_iter_items l.out-iterator ≡ l.fn.outs.items;
  ins : l.links.ins ++ into_iter_items l.ins ≡ l.fn.ins.items;
  even : length (into_iter_items l.ins) ≡ length (into_iter_items l.out-iterator);
  unput : All (λ out. put_in out ≡ []) (into_iter_items l.out-iterator);
  untaken : All (λ end. taken_from end ≡ []) (into_iter_items l.ins);
}
