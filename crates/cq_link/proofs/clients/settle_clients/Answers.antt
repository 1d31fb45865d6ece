use Rattle.std.proofs.Common.{◌≡◌, ◌+◌, ◌∙◌, ap, sym, subst, [], ◌∷◌, ◌++◌, length, drop}
use Rattle.std.proofs.lemmas.List.{length_push}
use Rattle.cq_link.proofs.Cells.{past_end}
use Rattle.cq_link.proofs.Settling.{next_of}
use Rattle.cq_link.proofs.ClientSettling.{AreServed, none_served, one_served, all_served, first_linked, second_linked, seated, to_first_next, to_second_next, requests_next}
use Rattle.cq_link.proofs.clients.settle_clients.Goals as goal

pub loop-server-init : goal.loop-server-init
loop-server-init g c = record {
  servers = c.into_iter-server-iterator.ensures.into_iter_gives.0;
  first_outs = c.into_iter-first_outs.ensures.rest;
  first_ins = c.into_iter-first_ins.ensures.rest;
  second_outs = c.into_iter-second_outs.ensures.rest;
  second_ins = c.into_iter-second_ins.ensures.rest;
  served = none_served c.args.wires;
}

pub settle_pair-requires : goal.settle_pair-requires
settle_pair-requires g c =
    let at = c.loop-server in
    let n = length at.yielded in
    let server = next_of at.server-iterator c.next.new.self c.next.result c.args.wires.servers.items n at.invariant.servers c.next.ensures.steps in
    let end = next_of at.first_ins c.next-in-loop-server.new.self c.next-in-loop-server.result c.args.wires.first.ins.items n at.invariant.first_ins c.next-in-loop-server.ensures.cases in
    first_linked c.args.wires n c.in-Some.server c.next-in-loop-server.result c.requires (server.0 ∙ c.in-Some.is) end.0

pub settle_pair-requires-in-loop-server : goal.settle_pair-requires-in-loop-server
settle_pair-requires-in-loop-server g c =
    let at = c.loop-server in
    let n = length at.yielded in
    let server = next_of at.server-iterator c.next.new.self c.next.result c.args.wires.servers.items n at.invariant.servers c.next.ensures.steps in
    let end = next_of at.second_ins c.next-in-loop-server-2.new.self c.next-in-loop-server-2.result c.args.wires.second.ins.items n at.invariant.second_ins c.next-in-loop-server-2.ensures.cases in
    second_linked c.args.wires n c.in-Some.server c.next-in-loop-server-2.result c.requires (server.0 ∙ c.in-Some.is) end.0

pub settle_inbox-requires : goal.settle_inbox-requires
settle_inbox-requires g c =
    let at = c.loop-server in
    let n = length at.yielded in
    let server = next_of at.server-iterator c.next.new.self c.next.result c.args.wires.servers.items n at.invariant.servers c.next.ensures.steps in
    let one = next_of at.first_outs c.next-in-loop-server-3.new.self c.next-in-loop-server-3.result c.args.wires.first.outs.items n at.invariant.first_outs c.next-in-loop-server-3.ensures.cases in
    let two = next_of at.second_outs c.next-in-loop-server-4.new.self c.next-in-loop-server-4.result c.args.wires.second.outs.items n at.invariant.second_outs c.next-in-loop-server-4.ensures.cases in
    seated c.args.wires n c.in-Some.server c.next-in-loop-server-3.result c.next-in-loop-server-4.result c.requires (server.0 ∙ c.in-Some.is) one.0 two.0

pub loop-server-preserved : goal.loop-server-preserved
loop-server-preserved g c =
    let at = c.loop-server in
    let n = length at.yielded in
    let w = c.args.wires in
    let server = next_of at.server-iterator c.next.new.self c.next.result w.servers.items n at.invariant.servers c.next.ensures.steps in
    let first-in = next_of at.first_ins c.next-in-loop-server.new.self c.next-in-loop-server.result w.first.ins.items n at.invariant.first_ins c.next-in-loop-server.ensures.cases in
    let second-in = next_of at.second_ins c.next-in-loop-server-2.new.self c.next-in-loop-server-2.result w.second.ins.items n at.invariant.second_ins c.next-in-loop-server-2.ensures.cases in
    let one = next_of at.first_outs c.next-in-loop-server-3.new.self c.next-in-loop-server-3.result w.first.outs.items n at.invariant.first_outs c.next-in-loop-server-3.ensures.cases in
    let two = next_of at.second_outs c.next-in-loop-server-4.new.self c.next-in-loop-server-4.result w.second.outs.items n at.invariant.second_outs c.next-in-loop-server-4.ensures.cases in
    let here = server.0 ∙ c.in-Some.is in
    let more : n + 1 ≡ length (at.yielded ++ c.in-Some.server ∷ []) = sym (length_push at.yielded c.in-Some.server) in
    record {
      servers = server.1 ∙ ap (λ k. drop k w.servers.items) more;
      first_outs = one.1 ∙ ap (λ k. drop k w.first.outs.items) more;
      first_ins = first-in.1 ∙ ap (λ k. drop k w.first.ins.items) more;
      second_outs = two.1 ∙ ap (λ k. drop k w.second.outs.items) more;
      second_ins = second-in.1 ∙ ap (λ k. drop k w.second.ins.items) more;
      served = subst (λ k. AreServed k w) more (one_served n w at.invariant.served
          (to_first_next w n c.in-Some.server c.next-in-loop-server.result here first-in.0 c.settle_pair.ensures)
          (to_second_next w n c.in-Some.server c.next-in-loop-server-2.result here second-in.0 c.settle_pair-in-loop-server.ensures)
          (requests_next w n c.in-Some.server c.next-in-loop-server-3.result c.next-in-loop-server-4.result here one.0 two.0 c.settle_inbox.ensures));
    }

pub returns : goal.returns
returns g c =
    let at = c.loop-server in
    let server = next_of at.server-iterator c.next.new.self c.next.result c.args.wires.servers.items (length at.yielded) at.invariant.servers c.next.ensures.steps in
    all_served (length at.yielded) c.args.wires at.invariant.served (past_end c.args.wires.servers.items (length at.yielded) (server.0 ∙ c.in-None.is))
