-- The first of the ports is the master's, and the others are the servers'.
use Rattle.std.proofs.Common.{◌∙◌, ap, sym, subst, arith, length}
use Rattle.std.specs.List.{All}
use Rattle.std.proofs.lemmas.List.Elements.{All-tail}
use Rattle.cq_chain.specs.declared.message.Message.{Message}
use Rattle.cq_live.proofs.Making.{is_chain, roles_of_ports, roles_of_wires}
use Rattle.cq_live.proofs.Images.{first_out}
use Rattle.cq_live.specs.within.Making.{servers_of}
use Rattle.cq_link.specs.Wirings.{IsUnused}
use Rattle.cq_link.specs.declared.ports.Ports.{Ports}
use Rattle.cq_live.proofs.nodes.nodes_of.Goals as goal

abbrev Unused : Ports Message → Type 0
Unused p = IsUnused p

pub servers_of-requires-clause-port_for_each : goal.servers_of-requires-clause-port_for_each
servers_of-requires-clause-port_for_each c =
    let long = c.requires.wired.square.0 in
    let all = first_out c.args.wires.ports.items c.remove.result c.remove.new.self.items (omega (arith, long)) c.remove.ensures.value c.remove.ensures.by_index.2 in
    roles_of_ports c.args.servers c.args.size c.args.steps.now c.args.wires c.remove.result c.remove.new.self.items c.requires.wired all ∙ sym (ap length c.in_ok-roles.ensures)

pub servers_of-requires-clause-ends_for_each : goal.servers_of-requires-clause-ends_for_each
servers_of-requires-clause-ends_for_each c =
    let long = c.requires.wired.square.0 in
    let all = first_out c.args.wires.ports.items c.remove.result c.remove.new.self.items (omega (arith, long)) c.remove.ensures.value c.remove.ensures.by_index.2 in
    roles_of_wires c.args.servers c.args.size c.args.steps.now c.args.wires c.remove.result c.remove.new.self.items c.requires.wired all ∙ sym (ap length c.in_ok-roles.ensures)

pub servers_of-requires-clause-unused : goal.servers_of-requires-clause-unused
servers_of-requires-clause-unused c =
    let long = c.requires.wired.square.0 in
    let all = first_out c.args.wires.ports.items c.remove.result c.remove.new.self.items (omega (arith, long)) c.remove.ensures.value c.remove.ensures.by_index.2 in
    All-tail Unused c.remove.result c.remove.new.self.items (subst (All Unused) (sym all) c.requires.wired.unused)

pub returns : goal.returns
returns c =
    let long = c.requires.wired.square.0 in
    let all = first_out c.args.wires.ports.items c.remove.result c.remove.new.self.items (omega (arith, long)) c.remove.ensures.value c.remove.ensures.by_index.2 in
    is_chain c.args.servers c.args.size c.args.steps.now c.args.wires c.remove.result c.remove.new.self.items c.requires.wired all
    c.in_ok-own.own c.in_ok-own.master c.in_ok-own.ensures.outs c.in_ok-own.ensures.ins c.in_ok-own.ensures.size (c.in_ok-own.ensures.joins ∙ c.requires.joins) c.in_ok-own.ensures.unread
    c.in_ok-servers.servers.items c.in_ok-first.first c.in_ok-first.second
    (c.in_ok-servers.ensures ∙ ap (λ roles. servers_of c.args.size roles c.remove.new.self.items c.args.wires.clients.servers.items) c.in_ok-roles.ensures)
    c.in_ok-first.ensures.first c.in_ok-first.ensures.second
