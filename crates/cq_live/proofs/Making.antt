-- Nodes over ends that nobody used are those of a chain.
use Rattle.std.proofs.Common.{◌≡◌, ◌⊎◌, ◌+◌, ℕ, zero, suc, arith, add-one, ◌∙◌, ap, refl, sym, subst, inl, inr, List, [], ◌∷◌, length, map, slice_get, true, false, Some}
use Rattle.std.specs.List.{All}
use Rattle.std.proofs.lemmas.List.{length-append}
use Rattle.std.proofs.lemmas.Option.{same_Some, none-some}
use Rattle.cq_live.specs.within.Aparts.{Server, Master, Client, Own}
use Rattle.cq_chain.specs.declared.message.Message.{Message}
use Rattle.cq_link.specs.Inboxes.{take_inbox}
use Rattle.cq_link.specs.declared.inbox.InPut.{InPut}
use Rattle.cq_link.specs.declared.link.Taker.{Taker}
use Rattle.cq_base.specs.declared.ask.Request.{Request}
use Rattle.cq_link.specs.Links.{putter_link, taker_link}
use Rattle.cq_nodes.specs.ClientNodes.{client_held}
use Rattle.cq_live.proofs.Images.{all_at, pushed_at}
use Rattle.cq_live.proofs.Staying.{same_wired, seat}
use Rattle.cq_live.specs.declared.roles.Role.{Role}
use Rattle.cq_live.specs.declared.wires.Wires.{Wires}
use Rattle.cq_live.specs.within.Making.{AreWired, role_of, roles_of, begun_as, servers_of}
use Rattle.cq_live.specs.within.Chains.{server_wiring, wiring_of, IsMasterOf, IsServerOf, IsChain}
use Rattle.cq_live_plan.specs.Steps.{joins_of}
use Rattle.cq_live_plan.specs.Steps.{asks_of}
use Rattle.cq_live_plan.specs.declared.step.LiveStep.{LiveStep}
use Rattle.cq_link.specs.Wirings.{Wiring, AreCrossed, wiring}
use Rattle.cq_link.specs.declared.clients.ServerPorts.{ServerPorts}
use Rattle.cq_link.specs.declared.ports.Ports.{Ports}

-- ---- roles

pub roles_count : (steps : List LiveStep) (n : ℕ) → length (roles_of steps n) ≡ n
roles_count steps zero = refl
roles_count steps (suc n) = length-append (roles_of steps n) (role_of steps (suc n) ∷ []) ∙ add-one (length (roles_of steps n)) ∙ ap (λ m. suc m) (roles_count steps n)

pub role_at : (steps : List LiveStep) (n i : ℕ) (role : Role) → slice_get (roles_of steps n) i ≡ Some role → role_of steps (i + 1) ≡ role
role_at steps zero i role is = absurd (none-some role is)
role_at steps (suc n) i role is = go (role_at steps n i role) (pushed_at (roles_of steps n) (role_of steps (suc n)) i role is) where
  go : (slice_get (roles_of steps n) i ≡ Some role → role_of steps (i + 1) ≡ role) → (slice_get (roles_of steps n) i ≡ Some role) ⊎ ((i ≡ length (roles_of steps n)) × (role_of steps (suc n) ≡ role)) → role_of steps (i + 1) ≡ role
  go so (inl before) = so before
  go so (inr last) = ap (role_of steps) (add-one i ∙ ap (λ m. suc m) (last.0 ∙ roles_count steps n)) ∙ last.1

-- ---- servers

module _ (size : ℕ) where
  -- each is made of what stands at its place
  pub record IsMade (roles : List Role) (ports : List (Ports Message)) (i : ℕ) (s : Server) : Type 0 where
    pub role : Role
    pub port : Ports Message
    pub ends : ServerPorts Message
    pub its_role : slice_get roles i ≡ Some role
    pub its_port : slice_get ports i ≡ Some port
    pub made : begun_as size role port ends ≡ s

  pub made_at : (roles : List Role) (ports : List (Ports Message)) (wires : List (ServerPorts Message)) (i : ℕ) (s : Server) → slice_get (servers_of size roles ports wires) i ≡ Some s → IsMade roles ports i s
  made_at [] ports wires i s is = absurd (none-some s is)
  made_at (role ∷ roles) [] wires i s is = absurd (none-some s is)
  made_at (role ∷ roles) (port ∷ ports) [] i s is = absurd (none-some s is)
  made_at (role ∷ roles) (port ∷ ports) (w ∷ wires) zero s is = record { role = role; port = port; ends = w; its_role = refl; its_port = refl; made = same_Some (begun_as size role port w) s is }
  made_at (role ∷ roles) (port ∷ ports) (w ∷ wires) (suc i) s is =
      let rest = made_at roles ports wires i s is in
      record { role = rest.role; port = rest.port; ends = rest.ends; its_role = rest.its_role; its_port = rest.its_port; made = rest.made }

  pub made_all : (roles : List Role) (ports : List (Ports Message)) (wires : List (ServerPorts Message)) → length ports ≡ length roles → length wires ≡ length roles → length (servers_of size roles ports wires) ≡ length roles
  made_all [] ports wires one two = refl
  made_all (role ∷ roles) [] wires one two = absurd (omega (arith, one))
  made_all (role ∷ roles) (port ∷ ports) [] one two = absurd (omega (arith, two))
  made_all (role ∷ roles) (port ∷ ports) (w ∷ wires) one two = ap (λ n. suc n) (made_all roles ports wires (omega (arith, one)) (omega (arith, two)))

  -- the same lists make the same
  pub same_servers : (rs rt : List Role) (ps pt : List (Ports Message)) (ws wt : List (ServerPorts Message)) → rs ≡ rt → ps ≡ pt → ws ≡ wt → servers_of size rs ps ws ≡ servers_of size rt pt wt
  same_servers rs rt ps pt ws wt a b c = ap (λ r. servers_of size r ps ws) a ∙ ap (λ p. servers_of size rt p ws) b ∙ ap (λ w. servers_of size rt pt w) c

  -- what a server has of its ports, all have of all
  pub of_ports : {X : Type 0} (f : Server → X) (g : Ports Message → X) → ((role : Role) (port : Ports Message) (w : ServerPorts Message) → f (begun_as size role port w) ≡ g port)
      → (roles : List Role) (ports : List (Ports Message)) (wires : List (ServerPorts Message)) → length ports ≡ length roles → length wires ≡ length roles → map f (servers_of size roles ports wires) ≡ map g ports
  of_ports f g each [] [] wires one two = refl
  of_ports f g each [] (port ∷ ports) wires one two = absurd (omega (arith, one))
  of_ports f g each (role ∷ roles) [] wires one two = absurd (omega (arith, one))
  of_ports f g each (role ∷ roles) (port ∷ ports) [] one two = absurd (omega (arith, two))
  of_ports f g each (role ∷ roles) (port ∷ ports) (w ∷ wires) one two = ap (λ x. x ∷ map f (servers_of size roles ports wires)) (each role port w) ∙ ap (λ xs. g port ∷ xs) (of_ports f g each roles ports wires (omega (arith, one)) (omega (arith, two)))

  -- and what it has of its ends towards the clients
  pub of_wires : {X : Type 0} (f : Server → X) (g : ServerPorts Message → X) → ((role : Role) (port : Ports Message) (w : ServerPorts Message) → f (begun_as size role port w) ≡ g w)
      → (roles : List Role) (ports : List (Ports Message)) (wires : List (ServerPorts Message)) → length ports ≡ length roles → length wires ≡ length roles → map f (servers_of size roles ports wires) ≡ map g wires
  of_wires f g each [] ports [] one two = refl
  of_wires f g each [] ports (w ∷ wires) one two = absurd (omega (arith, two))
  of_wires f g each (role ∷ roles) [] wires one two = absurd (omega (arith, one))
  of_wires f g each (role ∷ roles) (port ∷ ports) [] one two = absurd (omega (arith, two))
  of_wires f g each (role ∷ roles) (port ∷ ports) (w ∷ wires) one two = ap (λ x. x ∷ map f (servers_of size roles ports wires)) (each role port w) ∙ ap (λ xs. g w ∷ xs) (of_wires f g each roles ports wires (omega (arith, one)) (omega (arith, two)))

-- ---- all nodes

module _ (count size : ℕ) (steps : List LiveStep) (wires : Wires) (port : Ports Message) (ports : List (Ports Message)) (wired : AreWired count wires) (all : port ∷ ports ≡ wires.ports.items) where
  squares : All (λ (p : Ports Message). (length p.outs.items ≡ count + 1) × (length p.ins.items ≡ count + 1)) (port ∷ ports)
  squares = subst (λ ps. All (λ (p : Ports Message). (length p.outs.items ≡ count + 1) × (length p.ins.items ≡ count + 1)) ps) (sym all) wired.square.1

  ports_count : length ports ≡ count
  ports_count = let n = ap length all ∙ wired.square.0 in omega (arith, n)

  pub roles_of_ports : length ports ≡ length (roles_of steps count)
  roles_of_ports = ports_count ∙ sym (roles_count steps count)

  pub roles_of_wires : length wires.clients.servers.items ≡ length (roles_of steps count)
  roles_of_wires = wired.all.servers ∙ sym (roles_count steps count)

  abbrev made : List Server
  made = servers_of size (roles_of steps count) ports wires.clients.servers.items

  abbrev a_client : ℕ → List (InPut Request) → List (Taker Message) → Client
  a_client id outs ins = client_held id (asks_of id steps) outs ins [] false

  abbrev port_wiring : Ports Message → Wiring
  port_wiring p = record { outs = map putter_link p.outs.items; ins = map taker_link p.ins.items }

  server_made : (i : ℕ) (s : Server) → slice_get made i ≡ Some s → IsServerOf count size steps (i + 1) s
  server_made i s is =
      let of = made_at size (roles_of steps count) ports wires.clients.servers.items i s is in
      let square = all_at (λ (p : Ports Message). (length p.outs.items ≡ count + 1) × (length p.ins.items ≡ count + 1)) (port ∷ ports) (suc i) of.port squares of.its_port in
      let role = role_at steps count i of.role of.its_role in
      subst (IsServerOf count size steps (i + 1)) of.made (record {
        outs = square.0;
        ins = square.1;
        size = refl;
        id = ap (λ (r : Role). r.id) (sym role);
        crash_after = ap (λ (r : Role). r.crash_after) (sym role);
        read = inl refl;
      })

  module _ (own : Own) (master : Master) (outs : own.0 ∷ master.outs ≡ port.outs.items) (ins : own.1 ∷ master.ins ≡ port.ins.items) (of_size : master.size ≡ size)
      (of_joins : master.joins ≡ joins_of steps) (of_unread : master.unread ≡ 0) where
    same_wiring : wiring_of own master made ≡ wiring wires.ports.items
    same_wiring = ap (λ w. w ∷ map server_wiring made) (same_wired (map putter_link (own.0 ∷ master.outs)) (map putter_link port.outs.items) (map taker_link (own.1 ∷ master.ins)) (map taker_link port.ins.items) (ap (map putter_link) outs) (ap (map taker_link) ins))
        ∙ ap (λ ws. port_wiring port ∷ ws) (of_ports size server_wiring port_wiring (λ role p w. refl) (roles_of steps count) ports wires.clients.servers.items roles_of_ports roles_of_wires)
        ∙ ap wiring all

    master_made : IsMasterOf count size steps master
    master_made =
        let square = all_at (λ (p : Ports Message). (length p.outs.items ≡ count + 1) × (length p.ins.items ≡ count + 1)) (port ∷ ports) 0 port squares refl in
        record {
          outs = (let n = ap length outs ∙ square.0 in omega (arith, n));
          ins = (let n = ap length ins ∙ square.1 in omega (arith, n));
          size = of_size;
          joins = of_joins;
          read = inl of_unread;
        }

    made_chain : IsChain count size steps own master made (a_client 1 wires.clients.first.outs.items wires.clients.first.ins.items) (a_client 2 wires.clients.second.outs.items wires.clients.second.ins.items)
    made_chain = record {
      crossed = subst AreCrossed (sym same_wiring) wired.crossed;
      tied = record {
        first_links = of_wires size (λ (s : Server). putter_link s.first) (λ (w : ServerPorts Message). putter_link w.first) (λ role p w. refl) (roles_of steps count) ports wires.clients.servers.items roles_of_ports roles_of_wires ∙ wired.tied.first_links;
        second_links = of_wires size (λ (s : Server). putter_link s.second) (λ (w : ServerPorts Message). putter_link w.second) (λ role p w. refl) (roles_of steps count) ports wires.clients.servers.items roles_of_ports roles_of_wires ∙ wired.tied.second_links;
        first_inboxes = of_wires size (seat false) (λ (w : ServerPorts Message). (take_inbox w.inbox, false)) (λ role p w. refl) (roles_of steps count) ports wires.clients.servers.items roles_of_ports roles_of_wires ∙ wired.tied.first_inboxes;
        second_inboxes = of_wires size (seat true) (λ (w : ServerPorts Message). (take_inbox w.inbox, true)) (λ role p w. refl) (roles_of steps count) ports wires.clients.servers.items roles_of_ports roles_of_wires ∙ wired.tied.second_inboxes;
      };
      all = made_all size (roles_of steps count) ports wires.clients.servers.items roles_of_ports roles_of_wires ∙ roles_count steps count;
      its_master = master_made;
      each = server_made;
      its_first = record { id = refl; asks = refl };
      its_second = record { id = refl; asks = refl };
    }

    pub is_chain : (servers : List Server) (first second : Client) → servers ≡ servers_of size (roles_of steps count) ports wires.clients.servers.items
        → first ≡ client_held 1 (asks_of 1 steps) wires.clients.first.outs.items wires.clients.first.ins.items [] false
        → second ≡ client_held 2 (asks_of 2 steps) wires.clients.second.outs.items wires.clients.second.ins.items [] false
        → IsChain count size steps own master servers first second
    is_chain servers first second a b c = subst (λ ss. IsChain count size steps own master ss first second) (sym a) (subst (λ f. IsChain count size steps own master made f second) (sym b)
        (subst (λ s. IsChain count size steps own master made (a_client 1 wires.clients.first.outs.items wires.clients.first.ins.items) s) (sym c) made_chain))
