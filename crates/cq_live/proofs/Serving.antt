-- What arrives at a server was put by a client, and what a client took was put by a server.
use Rattle.std.proofs.Common.{◌≡◌, ◌<◌, ◌⊎◌, ℕ, suc, arith, refl, subst, inl, inr, List, length, slice_get, Bool, true, false, Some}
use Rattle.std.proofs.lemmas.Option.{slice_get_within}
use Rattle.cq_base.proofs.Among.{among-flat_map}
use Rattle.cq_base.specs.declared.ask.Request.{Request}
use Rattle.cq_base.specs.declared.party.Party.{Party}
use Rattle.cq_base.specs.declared.party.Party.TheVariants as parties
use Rattle.cq_base.specs.Relations.{Among, IsPrefix}
use Rattle.cq_chain.specs.declared.message.Message.{Message}
use Rattle.cq_nodes.specs.declared.server_ends.ServerParts.{ServerParts}
use Rattle.cq_nodes.specs.Ends.{of_client}
use Rattle.cq_link.proofs.ClientSettling.{among_both}
use Rattle.cq_live.specs.Lives.{IsClientId}
use Rattle.cq_live.proofs.Doing.{master_does, request_among}
use Rattle.cq_live.proofs.Elements.{place_of, among_at, item_at, among_flat, among_prefix, among_part, among_clients}
use Rattle.cq_live.proofs.Known.{Known, by_party}
use Rattle.cq_live.specs.Ended.{Nodes, AreWhole, HaveServed, put_by, taken_by}
use Rattle.cq_live_plan.specs.declared.step.LiveStep.{LiveStep}
use Rattle.cq_events.specs.Actions.{Action, Arrived, put_to}

module _ {P T I Q : Type 0} (put : P → List Message) (taken : T → List Message) (got : I → List Request) (asked : Q → List Request) (count size : ℕ) (steps : List LiveStep) (nodes : Nodes P T I Q) (actions : Party → List Action)
    (whole : AreWhole count nodes) (served : HaveServed put taken got asked nodes) (known : Known put taken got size steps nodes actions) where
  -- ---- requests

  -- a client put the request
  abbrev IsPut : Request → Type 0
  IsPut request = (c : ℕ) × IsClientId c × Among request (put_by asked nodes c)

  -- it was put on one of the two ends of a server's inbox
  put_on_one : (i : ℕ) (one two : Q) (request : Request) → slice_get nodes.first.outs i ≡ Some one → slice_get nodes.second.outs i ≡ Some two → Among request (asked one) ⊎ Among request (asked two) → IsPut request
  put_on_one i one two request here there (inl h) = (1, inl refl, among_flat asked one nodes.first.outs request (among_at nodes.first.outs i one here) h)
  put_on_one i one two request here there (inr h) = (2, inr refl, among_flat asked two nodes.second.outs request (among_at nodes.second.outs i two there) h)

  arrives_there : (i : ℕ) (s : ServerParts P T I) → slice_get nodes.servers i ≡ Some s → (clock : ℕ) (request : Request) → Among (Arrived clock request) (actions (parties.Server (suc i))) → IsPut request
  arrives_there i s is clock request h =
      let within = slice_get_within nodes.servers i s is in
      let all = whole.servers in
      let firsts = whole.first_outs in
      let seconds = whole.second_outs in
      let one = item_at nodes.first.outs i (omega arith) in
      let two = item_at nodes.second.outs i (omega arith) in
      put_on_one i one.0 two.0 request one.1 two.1
      (among_both request (got s.inbox) (asked one.0) (asked two.0) (served.requests i s one.0 two.0 is one.1 two.1)
      (among_part request _ _ (known.servers i s is).bound.arrived (request_among clock request (actions (parties.Server (suc i))) h)))

  pub arrivals : (p : Party) (clock : ℕ) (request : Request) → Among (Arrived clock request) (actions p) → IsPut request
  arrivals = by_party nodes.servers (λ p. (clock : ℕ) (request : Request) → Among (Arrived clock request) (actions p) → IsPut request)
      (λ clock request h. absurd (master_does _ _ (actions parties.Master) (Arrived clock request) known.master.lived h).2)
      arrives_there
      (λ p away clock request h. absurd (subst (Among (Arrived clock request)) (known.idle p away) h))

  -- ---- messages to clients

  -- a party put the message to the clients
  abbrev IsFrom : Message → Type 0
  IsFrom m = (p : Party) × Among m (put_to parties.Clients (actions p))

  -- the server at the place of an end put what was taken there
  put_there : (second : Bool) (i : ℕ) (m : Message) (seen sent : List Message) → IsPrefix seen sent → sent ≡ of_client second (put_to parties.Clients (actions (parties.Server (suc i)))) → Among m seen → IsFrom m
  put_there second i m seen sent prefix is h = (parties.Server (suc i), among_clients second m _ (subst (Among m) is (among_prefix m seen sent prefix h)))

  server_of : (i places : ℕ) → i < places → places ≡ count → (s : ServerParts P T I) × (slice_get nodes.servers i ≡ Some s)
  server_of i places below all = let servers = whole.servers in item_at nodes.servers i (omega arith)

  to_first : (m : Message) → Among m (taken_by taken nodes 1) → IsFrom m
  to_first m h =
      let end = among-flat_map taken m nodes.first.ins h in
      let at = place_of end.0 nodes.first.ins end.1 in
      let s = server_of at.0 (length nodes.first.ins) (slice_get_within nodes.first.ins at.0 end.0 at.1) whole.first_ins in
      put_there false at.0 m (taken end.0) (put s.0.clients.first) (served.to_first at.0 s.0 end.0 s.1 at.1) (known.servers at.0 s.0 s.1).firsts end.2

  to_second : (m : Message) → Among m (taken_by taken nodes 2) → IsFrom m
  to_second m h =
      let end = among-flat_map taken m nodes.second.ins h in
      let at = place_of end.0 nodes.second.ins end.1 in
      let s = server_of at.0 (length nodes.second.ins) (slice_get_within nodes.second.ins at.0 end.0 at.1) whole.second_ins in
      put_there true at.0 m (taken end.0) (put s.0.clients.second) (served.to_second at.0 s.0 end.0 s.1 at.1) (known.servers at.0 s.0 s.1).seconds end.2

  pub answers : (c : ℕ) (m : Message) → IsClientId c → Among m (taken_by taken nodes c) → IsFrom m
  answers c m (inl one) h = to_first m (subst (λ n. Among m (taken_by taken nodes n)) one h)
  answers c m (inr two) h = to_second m (subst (λ n. Among m (taken_by taken nodes n)) two h)
