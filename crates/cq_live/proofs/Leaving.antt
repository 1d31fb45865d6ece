-- What the nodes of a chain leave after their run: their ends can be settled, and all together is what is known of nodes
-- that have ended.
use Rattle.std.proofs.Common.{◌≡◌, ◌≤◌, ◌⊎◌, ℕ, ◌+◌, ◌∙◌, arith, inl, inr, ap, refl, sym, subst, List, ◌∷◌, length, map, slice_get, Bool, true, false, Some}
use Rattle.std.proofs.lemmas.List.{length-map}
use Rattle.cq_base.proofs.Among.{among-image}
use Rattle.cq_base.specs.Relations.{Among, IsPrefix}
use Rattle.cq_base.specs.declared.ask.Request.{Request}
use Rattle.cq_base.specs.declared.party.Party.{Party}
use Rattle.cq_base.specs.declared.party.Party.TheVariants as parties
use Rattle.cq_live.specs.within.Aparts.{Server, Master, Client, Own, Parts, Ends, IsApart}
use Rattle.cq_live.specs.declared.apart.Apart.{Apart}
use Rattle.cq_chain.specs.declared.message.Message.{Message}
use Rattle.cq_link.specs.Inboxes.{InboxId, put_in, take_inbox}
use Rattle.cq_link.specs.Links.{putter_link, taker_link, put_on, taken_from}
use Rattle.cq_link.specs.declared.inbox.InPut.{InPut}
use Rattle.cq_link.specs.declared.inbox.InTake.{InTake}
use Rattle.cq_link.specs.declared.link.Putter.{Putter}
use Rattle.cq_link.specs.declared.link.Taker.{Taker}
use Rattle.cq_nodes.specs.Ends.{ends_of, in_ends_of, unread_in}
use Rattle.cq_nodes.specs.FreshLinks as fresh
use Rattle.cq_nodes.specs.MasterNodes.{MasterLived}
use Rattle.cq_nodes.specs.MasterNodes as masters
use Rattle.cq_nodes.specs.Nodes.{held_in}
use Rattle.cq_nodes.specs.declared.ends.In.{In}
use Rattle.cq_nodes.specs.declared.ends.Out.{Out}
use Rattle.cq_live_plan.specs.declared.joins.Join.{Join}
use Rattle.cq_live.proofs.Gathering.{starved_named}
use Rattle.cq_live.proofs.Images.{mapped_at, counterpart}
use Rattle.cq_live.proofs.Staying.{same_wired, seat}
use Rattle.cq_live.specs.within.Chains.{server_wiring, master_wiring, wiring_of, IsServerOf, IsChain}
use Rattle.cq_live.specs.within.Runs.{IsSettled, HasEnded}
use Rattle.cq_live.specs.declared.settle.Ended.{Ended}
use Rattle.cq_live.proofs.Mapped.{fused, through, together, same_length}
use Rattle.cq_live.proofs.Wired.{row_of, have_delivered}
use Rattle.cq_link.specs.Clients.{requests_in}
use Rattle.cq_live.specs.Ended.{Nodes, server_row, rows, server_events, events_of, AreOf, HaveDelivered, AreWhole, IsServer, IsMaster, IsClientNode, HaveServed, HaveEnded}
use Rattle.cq_live_plan.specs.declared.step.LiveStep.{LiveStep}
use Rattle.cq_events.specs.declared.trace.Trace.{Trace}
use Rattle.cq_link.specs.Clients as clients
use Rattle.cq_link.specs.Clients.{seat_of}
use Rattle.cq_link.specs.Wirings.{Wiring, AreCrossed, wiring}
use Rattle.cq_link.specs.declared.clients.ServerPorts.{ServerPorts}
use Rattle.cq_link.specs.declared.ports.Ports.{Ports}
use Rattle.cq_events.specs.declared.event.Event.{Event}

-- the ends of a party
abbrev Row : Type 0
Row = fresh.Ends (Putter Message) (Taker Message)

abbrev row : List (Putter Message) → List (Taker Message) → Row
row outs ins = record { outs = outs; ins = ins }

-- all nodes
abbrev All : Type 0
All = Nodes (Putter Message) (Taker Message) (InTake Request) (InPut Request)

abbrev row_wiring : Row → Wiring
row_wiring r = record { outs = map putter_link r.outs; ins = map taker_link r.ins }

abbrev pub nodes_in : Ends → Own → List Parts → Client → Client → All
nodes_in ends own parts first second = record { master = ends; own_out = own.0; own_in = own.1; servers = parts; first = first; second = second }

module _ (count size : ℕ) (steps : List LiveStep) (own : Own) (master : Master) (servers : List Server) (first second : Client) (apart : Apart)
    (chain : IsChain count size steps own master servers first second) (left : IsApart master own servers first second apart) where
  abbrev pub its_nodes : All
  its_nodes = nodes_in left.ends own left.parts first second

  -- ---- links

  -- the ends that were left are those of the nodes
  left_rows : map (row_of (λ (p : Ports Message). p.outs.items) (λ (p : Ports Message). p.ins.items)) apart.ports.items ≡ rows its_nodes
  left_rows = together row (λ (p : Ports Message). p.outs.items) (λ (p : Ports Message). p.ins.items) (λ (r : Row). r.outs) (λ (r : Row). r.ins) (λ r. refl) apart.ports.items (rows its_nodes)
      (left.gathered.outs ∙ ap (λ os. (own.0 ∷ ends_of left.ends.outs.items) ∷ os) (sym (fused (λ (r : Row). r.outs) server_row left.parts)))
      (left.gathered.ins ∙ ap (λ is. (own.1 ∷ in_ends_of left.ends.ins.items) ∷ is) (sym (fused (λ (r : Row). r.ins) server_row left.parts)))

  row_wirings : map row_wiring (map server_row left.parts) ≡ map server_wiring servers
  row_wirings = fused row_wiring server_row left.parts ∙ sym (fused server_wiring held_in left.parts) ∙ ap (map server_wiring) left.its_servers.held

  wirings : map row_wiring (rows its_nodes) ≡ wiring_of own master servers
  wirings = ap (λ w. w ∷ map row_wiring (map server_row left.parts)) (same_wired _ _ _ _ (ap (λ os. map putter_link (own.0 ∷ os)) left.its_master.outs) (ap (λ is. map taker_link (own.1 ∷ is)) left.its_master.ins))
      ∙ ap (λ ws. master_wiring own master ∷ ws) row_wirings

  pub still_crossed : AreCrossed (wiring apart.ports.items)
  still_crossed = subst AreCrossed (sym (sym (fused row_wiring (row_of (λ (p : Ports Message). p.outs.items) (λ (p : Ports Message). p.ins.items)) apart.ports.items) ∙ ap (map row_wiring) left_rows ∙ wirings)) chain.crossed

  -- what a server's node has, by its parts
  of_parts : {X : Type 0} (f : Server → X) → map f servers ≡ map (λ p. f (held_in p)) left.parts
  of_parts f = ap (map f) (sym left.its_servers.held) ∙ fused f held_in left.parts

  first_wires : map (λ (w : ServerPorts Message). putter_link w.first) apart.wires.servers.items ≡ map (λ (s : Server). putter_link s.first) servers
  first_wires = through (λ (w : ServerPorts Message). w.first) (λ (p : Parts). p.clients.first) putter_link apart.wires.servers.items left.parts left.gathered.firsts ∙ sym (of_parts (λ (s : Server). putter_link s.first))

  second_wires : map (λ (w : ServerPorts Message). putter_link w.second) apart.wires.servers.items ≡ map (λ (s : Server). putter_link s.second) servers
  second_wires = through (λ (w : ServerPorts Message). w.second) (λ (p : Parts). p.clients.second) putter_link apart.wires.servers.items left.parts left.gathered.seconds ∙ sym (of_parts (λ (s : Server). putter_link s.second))

  inbox_wires : (e : Bool) → map {B = InboxId Request × Bool} (λ (w : ServerPorts Message). (take_inbox w.inbox, e)) apart.wires.servers.items ≡ map (seat e) servers
  inbox_wires e = let pair : InTake Request → InboxId Request × Bool = λ x. (take_inbox x, e) in
      through (λ (w : ServerPorts Message). w.inbox) (λ (p : Parts). p.inbox) pair apart.wires.servers.items left.parts left.gathered.inboxes ∙ sym (of_parts (seat e))

  pub still_tied : clients.AreTied apart.wires
  still_tied = record {
    first_links = first_wires ∙ chain.tied.first_links ∙ ap (map taker_link) (sym left.its_first.ins);
    second_links = second_wires ∙ chain.tied.second_links ∙ ap (map taker_link) (sym left.its_second.ins);
    first_inboxes = inbox_wires false ∙ chain.tied.first_inboxes ∙ ap (map seat_of) (sym left.its_first.outs);
    second_inboxes = inbox_wires true ∙ chain.tied.second_inboxes ∙ ap (map seat_of) (sym left.its_second.outs);
  }

  -- ---- the nodes

  part_of : (i : ℕ) (p : Parts) → slice_get left.parts i ≡ Some p → IsServerOf count size steps (i + 1) (held_in p)
  part_of i p is = chain.each i (held_in p) (ap (λ ss. slice_get ss i) (sym left.its_servers.held) ∙ mapped_at held_in left.parts i p is)

  whole : AreWhole count its_nodes
  whole = record {
    servers = sym (length-map left.parts held_in) ∙ ap length left.its_servers.held ∙ chain.all;
    master_outs = sym (length-map left.ends.outs.items (λ (out : Out (Putter Message)). out.end)) ∙ ap length left.its_master.outs ∙ chain.its_master.outs;
    master_ins = sym (length-map left.ends.ins.items (λ (end : In (Taker Message)). end.end)) ∙ ap length left.its_master.ins ∙ chain.its_master.ins;
    server_outs = λ i p is. sym (length-map p.outs.items (λ (out : Out (Putter Message)). out.end)) ∙ (part_of i p is).outs;
    server_ins = λ i p is. sym (length-map p.ins.items (λ (end : In (Taker Message)). end.end)) ∙ (part_of i p is).ins;
    first_outs = sym (same_length (seat false) seat_of servers first.outs chain.tied.first_inboxes) ∙ chain.all;
    first_ins = sym (same_length (λ (s : Server). putter_link s.first) taker_link servers first.ins chain.tied.first_links) ∙ chain.all;
    second_outs = sym (same_length (seat true) seat_of servers second.outs chain.tied.second_inboxes) ∙ chain.all;
    second_ins = sym (same_length (λ (s : Server). putter_link s.second) taker_link servers second.ins chain.tied.second_links) ∙ chain.all;
  }

  its_master : IsMaster put_on taken_from size steps left.ends
  its_master = record {
    joins = master.joins;
    lived = subst (λ n. MasterLived put_on taken_from n master.joins left.ends.outs.items left.ends.ins.items left.ends.trace.items) chain.its_master.size left.its_master.lived;
    planned = λ join is. subst (Among join.server) (ap (map (λ (j : Join). j.server)) chain.its_master.joins) (among-image (λ (j : Join). j.server) join master.joins is);
    read = read_by chain.its_master.read;
  }
    where
      read_by : masters.HasRead master → unread_in left.ends.ins.items ≤ 1
      read_by (inl none) = let same = left.its_master.unread in omega arith
      read_by (inr one) = let same = left.its_master.unread in let few = one.1 in omega arith

  its_server : (i : ℕ) (p : Parts) → slice_get left.parts i ≡ Some p → IsServer put_on taken_from requests_in size steps (i + 1) p
  its_server i p is = let of = part_of i p is in record { size = of.size; id = of.id; crash_after = of.crash_after; tells = left.its_servers.told i p is; read = of.read }

  its_first : IsClientNode put_in taken_from steps 1 first
  its_first = record { id = chain.its_first.id; asks = chain.its_first.asks; did = left.its_first.did }

  its_second : IsClientNode put_in taken_from steps 2 second
  its_second = record { id = chain.its_second.id; asks = chain.its_second.asks; did = left.its_second.did }

  -- ---- once all is settled

  module _ (ended : Ended) (settled : IsSettled apart ended) where
    delivered : HaveDelivered put_on taken_from (rows its_nodes)
    delivered = have_delivered put_on taken_from (λ (p : Ports Message). p.outs.items) (λ (p : Ports Message). p.ins.items) apart.ports.items (rows its_nodes) left_rows settled.delivered

    to_first : (i : ℕ) (p : Parts) (end : Taker Message) → slice_get left.parts i ≡ Some p → slice_get first.ins i ≡ Some end → IsPrefix (taken_from end) (put_on p.clients.first)
    to_first i p end is here =
        let w = counterpart (λ (w : ServerPorts Message). w.first) (λ (q : Parts). q.clients.first) apart.wires.servers.items left.parts left.gathered.firsts i p is in
        subst (λ out. IsPrefix (taken_from end) (put_on out)) w.2 (settled.served.to_first i w.0 end w.1 (ap (λ es. slice_get es i) left.its_first.ins ∙ here))

    to_second : (i : ℕ) (p : Parts) (end : Taker Message) → slice_get left.parts i ≡ Some p → slice_get second.ins i ≡ Some end → IsPrefix (taken_from end) (put_on p.clients.second)
    to_second i p end is here =
        let w = counterpart (λ (w : ServerPorts Message). w.second) (λ (q : Parts). q.clients.second) apart.wires.servers.items left.parts left.gathered.seconds i p is in
        subst (λ out. IsPrefix (taken_from end) (put_on out)) w.2 (settled.served.to_second i w.0 end w.1 (ap (λ es. slice_get es i) left.its_second.ins ∙ here))

    requests : (i : ℕ) (p : Parts) (one two : InPut Request) → slice_get left.parts i ≡ Some p → slice_get first.outs i ≡ Some one → slice_get second.outs i ≡ Some two → clients.AreOfBoth (requests_in p.inbox) (put_in one) (put_in two)
    requests i p one two is here there =
        let w = counterpart (λ (w : ServerPorts Message). w.inbox) (λ (q : Parts). q.inbox) apart.wires.servers.items left.parts left.gathered.inboxes i p is in
        subst (λ inbox. clients.AreOfBoth (requests_in inbox) (put_in one) (put_in two)) w.2 (settled.served.requests i w.0 one two w.1 (ap (λ es. slice_get es i) left.its_first.outs ∙ here) (ap (λ es. slice_get es i) left.its_second.outs ∙ there))

    served : HaveServed put_on taken_from requests_in put_in its_nodes
    served = record { to_first = to_first; to_second = to_second; requests = requests }

    known : HaveEnded put_on taken_from requests_in put_in count size steps its_nodes apart.starved.items
    known = record { whole = whole; master = its_master; servers = its_server; first = its_first; second = its_second; delivered = delivered; served = served; noted = left.gathered.all_starved; named = λ id h. starved_named left.parts id (subst (λ ids. Among id ids) left.gathered.starved h) }

    told : AreOf apart.traces.items its_nodes
    told = together (λ party events. (party, events)) (λ (t : Trace). t.party) (λ (t : Trace). t.events.items) (λ (x : Party × List Event). x.0) (λ (x : Party × List Event). x.1) (λ x. refl) apart.traces.items (events_of its_nodes)
        (left.gathered.parties ∙ ap (λ ps. parties.Master ∷ ps) (sym (fused (λ (x : Party × List Event). x.0) server_events left.parts)))
        (left.gathered.events ∙ ap (λ es. left.ends.trace.items ∷ es) (sym (fused (λ (x : Party × List Event). x.1) server_events left.parts)))

    pub has_ended : HasEnded size steps ended
    has_ended = record {
      count = count;
      nodes = its_nodes;
      known = subst (λ ids. HaveEnded put_on taken_from requests_in put_in count size steps its_nodes ids) (sym (ap (λ ids. ids.items) settled.starved)) known;
      traces = subst (λ ts. AreOf ts its_nodes) (sym (ap (λ ts. ts.items) settled.traces)) told;
      first = ap (λ xs. xs.items) settled.first ∙ left.its_first.closed;
      second = ap (λ xs. xs.items) settled.second ∙ left.its_second.closed;
    }
