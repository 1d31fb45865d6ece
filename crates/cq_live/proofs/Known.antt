-- What is known of the actions of each party, from what its node handed out.
use Rattle.std.proofs.Common.{◌≡◌, ◌<◌, ◌⊎◌, ℕ, zero, suc, arith, refl, inl, inr, List, [], length, slice_get, false, true, Option, Some, None}
use Rattle.cq_base.specs.declared.ask.Request.{Request}
use Rattle.cq_base.specs.declared.party.Party.{Party}
use Rattle.cq_base.specs.declared.party.Party.TheVariants as parties
use Rattle.cq_base.specs.Relations.{Among}
use Rattle.cq_chain.specs.declared.message.Message.{Message}
use Rattle.cq_nodes.specs.declared.master_node.MasterEnds.{MasterEnds}
use Rattle.cq_nodes.specs.declared.server_ends.ServerParts.{ServerParts}
use Rattle.cq_nodes.specs.Ends.{party_at, of_client}
use Rattle.cq_nodes.specs.MasterNodes.{HasNoPlace}
use Rattle.cq_nodes.specs.Moves.{ArePut, AreTaken}
use Rattle.cq_nodes.specs.Nodes.{IsBound, HasNoLink}
use Rattle.cq_live.proofs.Elements.{past_end}
use Rattle.cq_live.specs.Ended.{Nodes}
use Rattle.cq_live_plan.specs.Steps.{joiners_of}
use Rattle.cq_live_plan.specs.declared.step.LiveStep.{LiveStep}
use Rattle.cq_live_plan.specs.Steps.{crash_of}
use Rattle.cq_events.specs.Actions.{Action, Crashed, Joined, Lived, put_to, taken_from}
use Rattle.cq_events.specs.Worlds.{first_world}

module _ {P T I : Type 0} (put : P → List Message) (taken : T → List Message) (got : I → List Request) where
  -- The server of that number did this, by what its node handed out.
  pub record ServerKnown (size : ℕ) (steps : List LiveStep) (id : ℕ) (s : ServerParts P T I) (actions : List Action) : Type 0 where
    pub number : s.id ≡ id
    pub lived : Lived (first_world size) (parties.Server id) actions
    pub puts : ArePut put s.outs.items (λ place. put_to (party_at place) actions)
    pub takes : AreTaken taken s.ins.items (λ place. taken_from (party_at place) actions)
    pub others : (p : Party) → HasNoLink (length s.ins.items) p → taken_from p actions ≡ []
    pub firsts : put s.clients.first ≡ of_client false (put_to parties.Clients actions)
    pub seconds : put s.clients.second ≡ of_client true (put_to parties.Clients actions)
    pub bound : IsBound (crash_of id steps) s.starved (got s.inbox) actions
    pub starved : s.starved ≡ true → (count : ℕ) × Among (Crashed count) actions

-- The master did this.
pub record MasterKnown {P T : Type 0} (put : P → List Message) (taken : T → List Message) (size : ℕ) (steps : List LiveStep) (master : MasterEnds P T) (actions : List Action) : Type 0 where
  pub lived : Lived (first_world size) parties.Master actions
  pub puts : ArePut put master.outs.items (λ place. put_to (parties.Server (suc place)) actions)
  pub takes : AreTaken taken master.ins.items (λ place. taken_from (parties.Server (suc place)) actions)
  pub others : (p : Party) → HasNoPlace (length master.ins.items) p → taken_from p actions ≡ []
  pub planned : (id : ℕ) → Among (Joined id) actions → Among id (joiners_of steps)

-- the party has no node among so many servers and the master
abbrev pub HasNoNode : ℕ → Party → Type 0
HasNoNode count parties.Master = ⊥
HasNoNode count parties.Clients = Unit
HasNoNode count (parties.Server id) = (id ≡ 0) ⊎ (count < id)

module _ {P T I Q : Type 0} (put : P → List Message) (taken : T → List Message) (got : I → List Request) where
  -- What each party did: the master, each server, and nobody else.
  pub record Known (size : ℕ) (steps : List LiveStep) (nodes : Nodes P T I Q) (actions : Party → List Action) : Type 0 where
    pub master : MasterKnown put taken size steps nodes.master (actions parties.Master)
    pub servers : (i : ℕ) (s : ServerParts P T I) → slice_get nodes.servers i ≡ Some s → ServerKnown put taken got size steps (suc i) s (actions (parties.Server (suc i)))
    pub idle : (p : Party) → HasNoNode (length nodes.servers) p → actions p ≡ []

-- by who a party is
pub by_party : {S : Type 0} (servers : List S) (M : Party → Type 0) → M parties.Master → ((i : ℕ) (s : S) → slice_get servers i ≡ Some s → M (parties.Server (suc i))) → ((p : Party) → HasNoNode (length servers) p → M p)
    → (p : Party) → M p
by_party servers M master server idle parties.Master = master
by_party servers M master server idle parties.Clients = idle parties.Clients tt
by_party servers M master server idle (parties.Server zero) = idle (parties.Server zero) (inl refl)
by_party {S} servers M master server idle (parties.Server (suc i)) = go (slice_get servers i) refl where
  go : (o : Option S) → slice_get servers i ≡ o → M (parties.Server (suc i))
  go (Some s) is = server i s is
  go None none = let past = past_end servers i none in idle (parties.Server (suc i)) (inr (omega arith))
