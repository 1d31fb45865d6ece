use Rattle.std.proofs.Common.{◌∷◌, ◌++◌, [], ◌∙◌, ap}
use Rattle.cq_link.specs.declared.clients.ClientWires.{ClientWires}
use Rattle.cq_link.proofs.ClientWiring.{IsGrown, IsBare, bare_tied, bare_fresh, bare_of, tied_more, fresh_more, of_more}
use Rattle.cq_link.proofs.clients.wire_clients.Goals as goal

pub loop-init : goal.loop-init
loop-init g c =
    let wires : ClientWires _ = record { servers = c.new.result; first = c.new-2.result; second = c.new-3.result } in
    let bare : IsBare wires = record { servers = c.new.ensures.items; first_outs = c.new-2.ensures.outs; first_ins = c.new-2.ensures.ins; second_outs = c.new-3.ensures.outs; second_ins = c.new-3.ensures.ins } in
    record { tied = bare_tied wires bare; fresh = bare_fresh wires bare; count = bare_of wires bare }

pub loop-preserved : goal.loop-preserved
loop-preserved g c =
    let at = c.loop in
    let made = c.in_ok-server in
    let wires : ClientWires _ = record { servers = c.push_reserved.new.self; first = c.add.new.self; second = c.add-in-loop.new.self } in
    let grown : IsGrown at.wires wires made.server made.first made.second = record {
      servers = c.push_reserved.ensures.items ∙ ap (λ xs. xs ++ made.server ∷ []) c.reserve.ensures.items;
      first_outs = c.in_ok-add.ensures.outs;
      first_ins = c.in_ok-add.ensures.ins;
      second_outs = c.in_ok-add-2.ensures.outs;
      second_ins = c.in_ok-add-2.ensures.ins;
    } in
    record {
      tied = tied_more at.wires wires made.server made.first made.second grown at.invariant.tied made.ensures.tied;
      fresh = fresh_more at.wires wires made.server made.first made.second grown at.invariant.fresh made.ensures.fresh;
      count = of_more at.counter at.wires wires made.server made.first made.second grown at.invariant.count;
    }
