-- The next role, with what stands at its place on either side, makes the next node.
use Rattle.std.proofs.Common.{◌≡◌, ◌∙◌, ap, sym, subst, arith, suc, List, [], ◌∷◌, ◌++◌, length}
use Rattle.std.specs.List.{All}
use Rattle.std.specs.Vec.Iter.{into_iter_items}
use Rattle.std.proofs.lemmas.List.{append_assoc}
use Rattle.std.proofs.lemmas.List.Elements.{All-head, All-tail}
use Rattle.cq_live.proofs.Iterating.{one_taken}
use Rattle.cq_live.specs.within.Aparts.{Server}
use Rattle.cq_chain.specs.declared.message.Message.{Message}
use Rattle.cq_live.proofs.Making.{same_servers}
use Rattle.cq_live.specs.within.Making.{IsEven, IsFresh, servers_of}
use Rattle.cq_link.specs.Wirings.{IsUnused}
use Rattle.cq_link.specs.declared.ports.Ports.{Ports}
use Rattle.cq_live.proofs.servers.servers_of.Goals as goal

abbrev Unused : Ports Message → Type 0
Unused p = IsUnused p

pub loop-role-init : goal.loop-role-init
loop-role-init c =
    let roles = c.into_iter-role-iterator.ensures.into_iter_gives.0 in
    let ports = c.into_iter-ports.ensures.rest in
    let wires = c.into_iter-wires.ensures.rest in
    let all = same_servers c.args.size _ _ _ _ _ _ roles ports wires in
    record {
      made = ap (λ ns. ns ++ servers_of c.args.size (into_iter_items c.into_iter-role-iterator.result) (into_iter_items c.into_iter-ports.result) (into_iter_items c.into_iter-wires.result)) c.new-nodes.ensures.items ∙ all;
      port_for_each = ap length ports ∙ c.requires.port_for_each ∙ sym (ap length roles);
      ends_for_each = ap length wires ∙ c.requires.ends_for_each ∙ sym (ap length roles);
      unused = subst (All Unused) (sym ports) c.requires.unused;
      even = subst (All IsEven) (sym ports) c.requires.even;
      fresh = subst (All IsFresh) (sym wires) c.requires.fresh;
    }

pub server_of-requires-clause-unused : goal.server_of-requires-clause-unused
server_of-requires-clause-unused c =
    let at = c.loop-role in
    All-head Unused c.in-Some-next.port (into_iter_items c.next-in-loop-role.new.self) (subst (All Unused) (one_taken at.ports c.next-in-loop-role.new.self c.in-Some-next.port c.in-Some-next.ensures.cases) at.invariant.unused)

pub server_of-requires-clause-even : goal.server_of-requires-clause-even
server_of-requires-clause-even c =
    let at = c.loop-role in
    All-head IsEven c.in-Some-next.port (into_iter_items c.next-in-loop-role.new.self) (subst (All IsEven) (one_taken at.ports c.next-in-loop-role.new.self c.in-Some-next.port c.in-Some-next.ensures.cases) at.invariant.even)

pub server_of-requires-clause-fresh : goal.server_of-requires-clause-fresh
server_of-requires-clause-fresh c =
    let at = c.loop-role in
    All-head IsFresh c.in-Some-next-2.ends (into_iter_items c.next-in-Some-next.new.self) (subst (All IsFresh) (one_taken at.wires c.next-in-Some-next.new.self c.in-Some-next-2.ends c.in-Some-next-2.ensures.cases) at.invariant.fresh)

pub loop-role-preserved-in_ok-push : goal.loop-role-preserved-in_ok-push
loop-role-preserved-in_ok-push c =
    let at = c.loop-role in
    let nodes = at.nodes.items in
    let role = c.in-Some.role in
    let port = c.in-Some-next.port in
    let ends = c.in-Some-next-2.ends in
    let node = c.in_ok-server_of.field-0 in
    let roles = into_iter_items c.next.new.self in
    let ports = into_iter_items c.next-in-loop-role.new.self in
    let wires = into_iter_items c.next-in-Some-next.new.self in
    let one = one_taken at.role-iterator c.next.new.self role c.in-Some.ensures.steps in
    let two = one_taken at.ports c.next-in-loop-role.new.self port c.in-Some-next.ensures.cases in
    let three = one_taken at.wires c.next-in-Some-next.new.self ends c.in-Some-next-2.ensures.cases in
    let rest : List Server = servers_of c.args.size roles ports wires in
    let as_many : suc (length ports) ≡ suc (length roles) = sym (ap length two) ∙ at.invariant.port_for_each ∙ ap length one in
    let as_many_ends : suc (length wires) ≡ suc (length roles) = sym (ap length three) ∙ at.invariant.ends_for_each ∙ ap length one in
    record {
      made = ap (λ ns. ns ++ rest) c.in_ok-push.ensures.items ∙ append_assoc nodes (node ∷ []) rest ∙ ap (λ (n : Server). nodes ++ n ∷ rest) c.in_ok-server_of.ensures
          ∙ ap (λ xs. nodes ++ xs) (sym (same_servers c.args.size (into_iter_items at.role-iterator) (role ∷ roles) (into_iter_items at.ports) (port ∷ ports) (into_iter_items at.wires) (ends ∷ wires) one two three)) ∙ at.invariant.made;
      port_for_each = omega (arith, as_many);
      ends_for_each = omega (arith, as_many_ends);
      unused = All-tail Unused port ports (subst (All Unused) two at.invariant.unused);
      even = All-tail IsEven port ports (subst (All IsEven) two at.invariant.even);
      fresh = All-tail IsFresh ends wires (subst (All IsFresh) three at.invariant.fresh);
    }
