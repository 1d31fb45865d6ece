-- Nodes do what is planned: the crashes and joins of the steps, the asks of the clients, and no query.
use Rattle.std.proofs.Common.{◌≡◌, ◌≤◌, ◌==◌, ◌⊎◌, ℕ, suc, ap, refl, sym, ◌∙◌, subst, cond, inl, inr, List, [], ◌∷◌, slice_get, Bool, true, false, Option, Some, None}
use Rattle.std.proofs.lemmas.Bool.{eqb-true}
use Rattle.std.proofs.lemmas.Option.{same_Some, none-some}
use Rattle.cq_base.proofs.Among.{among-flat_map}
use Rattle.cq_base.specs.declared.ask.Query.{Query}
use Rattle.cq_base.specs.declared.ask.Request.{Request}
use Rattle.cq_base.specs.declared.party.Party.{Party}
use Rattle.cq_base.specs.declared.party.Party.TheVariants as parties
use Rattle.cq_base.specs.Relations.{Among}
use Rattle.cq_chain.specs.declared.message.Answer.{Answer}
use Rattle.cq_chain.specs.declared.message.Message.{Message}
use Rattle.cq_nodes.specs.declared.server_ends.ServerParts.{ServerParts}
use Rattle.cq_nodes.specs.ClientMoves.{IsAskOf}
use Rattle.cq_nodes.specs.ClientNodes.{ClientHeld}
use Rattle.cq_live.specs.Lives.{Closed, IsClient, IsClientId, MayCrash}
use Rattle.cq_nodes.specs.Nodes.{IsDue}
use Rattle.cq_live.proofs.Doing.{master_does}
use Rattle.cq_live.proofs.Elements.{place_of, among_at, among_flat}
use Rattle.cq_live.proofs.Known.{Known, by_party}
use Rattle.cq_live.specs.Ended.{Nodes, IsClientNode, put_by, taken_by, closed_of}
use Rattle.cq_live.specs.Plans.{crashes_of, plan_of}
use Rattle.cq_live_plan.specs.declared.step.LiveStep.{LiveStep}
use Rattle.cq_live_plan.specs.declared.step.LiveStep.TheVariants.{Client, Crash, Join}
use Rattle.cq_live_plan.specs.Steps.{asks_of, crash_of}
use Rattle.cq_events.specs.Actions.{Action, Asked, Crashed, number_of}
use Rattle.std.specs.List.{flat_map}

-- ---- crashes

-- the first crash of a server is one of the crashes
first_crash : (id : ℕ) (steps : List LiveStep) (least : ℕ) → crash_of id steps ≡ Some least → Among (id, least) (crashes_of steps)
first_crash id [] least is = absurd (none-some least is)
first_crash id (Client client ask ∷ steps) least is = first_crash id steps least is
first_crash id (Join server after ∷ steps) least is = first_crash id steps least is
first_crash id (Crash server after ∷ steps) least is = go (server == id) refl is (first_crash id steps least) where
  go : (t : Bool) → (server == id) ≡ t → cond t (Some after) (crash_of id steps) ≡ Some least → (crash_of id steps ≡ Some least → Among (id, least) (crashes_of steps)) → Among (id, least) ((server, after) ∷ crashes_of steps)
  go true e here rest = inl (sym (ap (λ n. (n, after)) (eqb-true server id e) ∙ ap (λ n. (id, n)) (same_Some after least here)))
  go false e here rest = inr (rest here)

-- where a crash is due, the plan has it
due_planned : (id : ℕ) (steps : List LiveStep) (count : ℕ) (due : Option ℕ) → crash_of id steps ≡ due → IsDue due count → (least : ℕ) × Among (id, least) (crashes_of steps) × (least ≤ count)
due_planned id steps count None is h = absurd h
due_planned id steps count (Some least) is h = (least, first_crash id steps least is, h)

module _ {P T I Q : Type 0} (put : P → List Message) (taken : T → List Message) (got : I → List Request) (size : ℕ) (steps : List LiveStep) (nodes : Nodes P T I Q) (starved : List ℕ) (actions : Party → List Action)
    (noted : (i : ℕ) (s : ServerParts P T I) → slice_get nodes.servers i ≡ Some s → s.starved ≡ true → Among s.id starved) (known : Known put taken got size steps nodes actions) where
  may_crash : (i count : ℕ) (s : ServerParts P T I) → slice_get nodes.servers i ≡ Some s → s.id ≡ suc i → IsDue (crash_of (suc i) steps) count ⊎ (s.starved ≡ true) → MayCrash (plan_of steps) starved (suc i) count
  may_crash i count s is number (inl due) = inl (due_planned (suc i) steps count (crash_of (suc i) steps) refl due)
  may_crash i count s is number (inr short) = inr (subst (λ id. Among id starved) number (noted i s is short))

  crash : (p : Party) (count : ℕ) → Among (Crashed count) (actions p) → MayCrash (plan_of steps) starved (number_of p) count
  crash = by_party nodes.servers (λ p. (count : ℕ) → Among (Crashed count) (actions p) → MayCrash (plan_of steps) starved (number_of p) count)
      (λ count h. absurd (master_does _ _ (actions parties.Master) (Crashed count) known.master.lived h).2)
      (λ i s is count h. let its = known.servers i s is in may_crash i count s is its.number (its.bound.may (Crashed count) h))
      (λ p away count h. absurd (subst (Among (Crashed count)) (known.idle p away) h))

  pub crashes : (id count : ℕ) → Among (Crashed count) (actions (parties.Server id)) → MayCrash (plan_of steps) starved id count
  crashes id = crash (parties.Server id)

  -- a server that is named among those that found no memory crashed
  pub starved_crashes : ((id : ℕ) → Among id starved → (i : ℕ) × (s : ServerParts P T I) × (slice_get nodes.servers i ≡ Some s) × (s.id ≡ id) × (s.starved ≡ true)) → (id : ℕ) → Among id starved → (count : ℕ) × Among (Crashed count) (actions (parties.Server id))
  starved_crashes named id h =
      let s = named id h in
      let its = known.servers s.0 s.1 s.2 in
      subst (λ n. (count : ℕ) × Among (Crashed count) (actions (parties.Server n))) (sym its.number ∙ s.3) (its.starved s.4)

  -- ---- queries

  pub silent : (p : Party) (query : Query) → Among (Asked query) (actions p) → ⊥
  silent = by_party nodes.servers (λ p. (query : Query) → Among (Asked query) (actions p) → ⊥)
      (λ query h. (master_does _ _ (actions parties.Master) (Asked query) known.master.lived h).2)
      (λ i s is query h. (known.servers i s is).bound.may (Asked query) h)
      (λ p away query h. subst (Among (Asked query)) (known.idle p away) h)

-- ---- clients

module _ {Q T : Type 0} (asked : Q → List Request) (taken : T → List Message) (steps : List LiveStep) (c : ℕ) (client : ClientHeld Q T) (node : IsClientNode asked taken steps c client) where
  asks_only : (request : Request) → Among request (flat_map asked client.outs) → IsAskOf c (asks_of c steps) request
  asks_only request h =
      let out = among-flat_map asked request client.outs h in
      let at = place_of out.0 client.outs out.1 in
      subst (λ asks. IsAskOf c asks request) node.asks (subst (λ id. IsAskOf id client.asks request) node.id (node.did.asked at.0 out.0 at.1 request out.2).one)

  closes : (place : ℕ) (answer : Answer) → slice_get client.closed place ≡ Some answer → Closed c place (flat_map taken client.ins) answer
  closes place answer is =
      let by = node.did.closed_by place answer is in
      record {
        took = among_flat taken by.taken_here.end client.ins _ (among_at client.ins by.taken_here.place by.taken_here.end by.taken_here.here) by.taken_here.among;
        client = by.client ∙ node.id;
        number = by.number;
        no_query = by.no_query;
      }

  client_shows : IsClient c (asks_of c steps) (flat_map asked client.outs) (flat_map taken client.ins) client.closed
  client_shows = record { asked = asks_only; closed_by = closes; rising = node.did.rising }

module _ {P T I Q : Type 0} (asked : Q → List Request) (taken : T → List Message) (steps : List LiveStep) (nodes : Nodes P T I Q) (first : IsClientNode asked taken steps 1 nodes.first) (second : IsClientNode asked taken steps 2 nodes.second) where
  pub clients : (c : ℕ) → IsClientId c → IsClient c (asks_of c steps) (put_by asked nodes c) (taken_by taken nodes c) (closed_of nodes c)
  clients c (inl one) = subst (λ n. IsClient n (asks_of n steps) (put_by asked nodes n) (taken_by taken nodes n) (closed_of nodes n)) (sym one) (client_shows asked taken steps 1 nodes.first first)
  clients c (inr two) = subst (λ n. IsClient n (asks_of n steps) (put_by asked nodes n) (taken_by taken nodes n) (closed_of nodes n)) (sym two) (client_shows asked taken steps 2 nodes.second second)
