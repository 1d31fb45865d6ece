-- The servers that are taken apart get one more.
use Rattle.std.proofs.Common.{◌++◌, ◌∷◌, [], List, subst}
use Rattle.std.specs.Vec.Iter.{into_iter_items}
use Rattle.cq_live.specs.within.Aparts.{Server, IsApart}
use Rattle.cq_live.proofs.Gathering.{apart_none, apart_more, leaves_master, leaves_client}
use Rattle.cq_live.proofs.Iterating.{one_taken, none_left, one_done, all_done}
use Rattle.cq_live.proofs.apart.take_apart.Goals as goal

pub loop-server-init : goal.loop-server-init
loop-server-init c =
    let master = c.finish.ensures in
    let first = c.finish-2.ensures in
    let second = c.finish-3.ensures in
    let apart = c.in_ok-apart.apart in
    record {
      done = [];
      left = c.into_iter-server-iterator.ensures.into_iter_gives.0;
      apart = apart_none c.args.master c.args.own c.args.first c.args.second c.finish.result c.finish-2.result c.finish-3.result apart c.in_ok-apart.ensures
          (leaves_master c.args.master c.finish.result master.lived master.outs master.ins master.unread master.trace)
          (leaves_client c.args.first c.finish-2.result apart.wires.first apart.first.items first.did c.in_ok-apart.ensures.first_ends c.in_ok-apart.ensures.first_closed first.outs first.ins first.closed)
          (leaves_client c.args.second c.finish-3.result apart.wires.second apart.second.items second.did c.in_ok-apart.ensures.second_ends c.in_ok-apart.ensures.second_closed second.outs second.ins second.closed);
    }

pub loop-server-preserved : goal.loop-server-preserved
loop-server-preserved c =
    let at = c.loop-server in
    let server = c.in-Some.server in
    let parts = c.finish-in-loop-server in
    record {
      done = at.invariant.done ++ server ∷ [];
      left = one_done at.invariant.done (into_iter_items at.server-iterator) (into_iter_items c.next.new.self) c.args.servers.items server at.invariant.left (one_taken at.server-iterator c.next.new.self server c.in-Some.ensures.steps);
      apart = apart_more c.args.master c.args.own at.invariant.done c.args.first c.args.second parts.result server c.in_ok-piece.piece at.apart c.add.new.self c.in_ok-piece.ensures c.in_ok-add.ensures parts.ensures.held parts.ensures.tells at.invariant.apart;
    }

pub returns : goal.returns
returns c =
    let at = c.loop-server in
    subst (λ (servers : List Server). IsApart c.args.master c.args.own servers c.args.first c.args.second at.apart)
    (all_done at.invariant.done (into_iter_items at.server-iterator) c.args.servers.items at.invariant.left (none_left at.server-iterator c.next.new.self c.in-None.ensures.steps))
    at.invariant.apart
