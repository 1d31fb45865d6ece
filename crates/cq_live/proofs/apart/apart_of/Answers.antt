-- Each list has what it began with, alone.
use Rattle.std.proofs.Common.{◌∙◌, ap, refl, map, [], ◌∷◌, ◌++◌}
use Rattle.cq_base.specs.declared.party.Party.TheVariants as parties
use Rattle.cq_chain.specs.declared.message.Message.{Message}
use Rattle.cq_events.specs.declared.trace.Trace.{Trace}
use Rattle.cq_link.specs.declared.ports.Ports.{Ports}
use Rattle.cq_live.proofs.apart.apart_of.Goals as goal

pub returns : goal.returns
returns c =
    let port = c.in_ok-own_port_of.field-0 in
    let ports = c.in_ok-push.ensures.items ∙ ap (λ xs. xs ++ port ∷ []) c.new-ports.ensures.items in
    let traces = c.in_ok-push-2.ensures.items ∙ ap (λ xs. xs ++ record { party = parties.Master; events = c.args.master.trace } ∷ []) c.new-traces.ensures.items in
    record {
      outs = ap (map (λ (p : Ports Message). p.outs.items)) ports ∙ ap (λ o. o ∷ []) c.in_ok-own_port_of.ensures.outs;
      ins = ap (map (λ (p : Ports Message). p.ins.items)) ports ∙ ap (λ o. o ∷ []) c.in_ok-own_port_of.ensures.ins;
      wires = c.new.ensures.items;
      parties = ap (map (λ (t : Trace). t.party)) traces;
      events = ap (map (λ (t : Trace). t.events.items)) traces;
      starved = c.new-2.ensures.items;
      first_ends = (refl, refl);
      second_ends = (refl, refl);
      first_closed = refl;
      second_closed = refl;
    }
