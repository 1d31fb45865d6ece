-- The world of one server alone, at rest.
use Rattle.std.proofs.Common.{◌≡◌, ℕ, ◌∙◌, ◌==◌, ◌||◌, ap, arith, sym, refl, subst, Bool, true, false, cond, List, [], ◌∷◌, length, Option, Some, None, inl, inr}
use Rattle.std.specs.Prelude.{IfSome}
use Rattle.std.specs.List.{list_all}
use Rattle.std.specs.Map.{lookup, values_of}
use Rattle.std.proofs.lemmas.Bool.{cases_Bool, eqb-true, false≢true}
use Rattle.cq_base.specs.declared.ask.Entry.{Entry}
use Rattle.cq_base.specs.declared.party.Party.{Party}
use Rattle.cq_base.specs.declared.party.Party.TheVariants as parties
use Rattle.cq_chain.specs.declared.server.Server as rust_server
use Rattle.cq_chain.specs.Fifos.{Fifo}
use Rattle.cq_chain.specs.Masters.{Master, first_master}
use Rattle.cq_chain.specs.Messages.{Message}
use Rattle.cq_chain.specs.Servers.{Server, alone, joining}
use Rattle.cq_chain.specs.Stands as chain
use Rattle.cq_chain.proofs.Fifos.{all-empty}
use Rattle.cq_events.proofs.Parties.{eqb-turned}
use Rattle.cq_store.specs.Stands as stores
use Rattle.cq_events.specs.Worlds.{IsAlone, World, is_in, numbers_from}
use Rattle.cq_world.specs.within.Kept.{is_between, server_at, messages_at}
use Rattle.cq_world.specs.Stands.{Holds, IsKeptAs, StandsFor}
use Rattle.cq_world.specs.declared.links.LinkKey.{LinkKey}
use Rattle.cq_world.specs.declared.sim.Sim.{Sim}
use Rattle.cq_world.proofs.OfSim.Meanings.{none-mean}
use Rattle.cq_world.specs.within.AtRest.{IsAtRest}
use Rattle.cq_world.proofs.OfSim.Stands.{holds, known, stands}

-- ---- numbers

or_false : (a : Bool) → (a || false) ≡ a
or_false true = refl
or_false false = refl

-- 1 is the only number
is_in-one : (id : ℕ) → is_in (numbers_from 1 1) id ≡ (1 == id)
unfolding numbers_from
is_in-one id = or_false (1 == id)

known-one : (entries : List Entry) (w : World) (id : ℕ) → IsAlone entries w → is_in w.master.used id ≡ (1 == id)
known-one entries w id is = ap (λ m. is_in m.used id) is.master ∙ is_in-one id

-- ---- a sim that has that server alone

-- under each number there is what stands for its server
kept-alone : (entries : List Entry) (w : World) (kept : rust_server.Server) (o : Option rust_server.Server) (id : ℕ) → IsAlone entries w
    → chain.StandsFor kept (w.server 1) (w.outbox (parties.Server 1)) → o ≡ cond (1 == id) (Some kept) None
    → IsKeptAs o (is_in w.master.used id) (w.server id) (w.outbox (parties.Server id))
kept-alone entries w kept o id is made found = elim (cases_Bool (1 == id)) [
  | inl same ↦ subst (λ p. IsKeptAs p (is_in w.master.used id) (w.server id) (w.outbox (parties.Server id))) (sym (found ∙ ap (λ b. cond b (Some kept) None) same))
      (known-one entries w id is ∙ same, subst (λ i. chain.StandsFor kept (w.server i) (w.outbox (parties.Server i))) (eqb-true 1 id same) made)
  | inr other ↦ subst (λ p. IsKeptAs p (is_in w.master.used id) (w.server id) (w.outbox (parties.Server id))) (sym (found ∙ ap (λ b. cond b (Some kept) None) other))
      (known-one entries w id is ∙ other, is.others id other, is.outbox (parties.Server id))
]

-- it stands for each world of that server alone
pub alone-stands : (sim : Sim) (w : World) (entries : List Entry) (kept : rust_server.Server) → IsAlone entries w
    → ((id : ℕ) → server_at sim.servers id ≡ cond (1 == id) (Some kept) None)
    → ((outbox : Party → List Message) → ((to : Party) → outbox to ≡ []) → chain.StandsFor kept (alone entries) outbox)
    → ((from to : Party) → messages_at sim.links from to ≡ [])
    → ((outbox : Party → List Message) → ((to : Party) → outbox to ≡ []) → chain.MasterStandsFor sim.master (first_master 1) outbox) → StandsFor sim w
alone-stands sim w entries kept is found made links master =
    let here : chain.StandsFor kept (w.server 1) (w.outbox (parties.Server 1)) = subst (λ s. chain.StandsFor kept s (w.outbox (parties.Server 1))) (sym is.server) (made (w.outbox (parties.Server 1)) (is.outbox (parties.Server 1))) in
    let told : chain.MasterStandsFor sim.master (first_master 1) (w.outbox parties.Master) = master (w.outbox parties.Master) (is.outbox parties.Master) in
    stands sim w (record {
      servers = λ id. kept-alone entries w kept (server_at sim.servers id) id is here (found id);
      links = λ from to. subst (λ xs. chain.AllMean xs (w.link from to)) (sym (links from to)) (subst (λ ms. chain.AllMean [] ms) (sym (is.link from to)) tt);
      master = subst (λ m. chain.MasterStandsFor sim.master m (w.outbox parties.Master)) (sym is.master) told;
      clients = is.outbox parties.Clients;
    })

-- the only server is found under 1 alone
pub only-server : (servers : List (ℕ × rust_server.Server)) (kept : rust_server.Server) → length servers ≡ 1 → lookup (λ other. 1 == other) servers ≡ Some kept
    → (id : ℕ) → lookup (λ other. id == other) servers ≡ cond (1 == id) (Some kept) None
only-server [] kept one found id = absurd (omega (arith, one))
only-server (e ∷ f ∷ fs) kept one found id = absurd (omega (arith, one))
only-server (e ∷ []) kept one found id = elim (cases_Bool (1 == e.0)) [
  | inl same ↦
      let found-here : Some e.1 ≡ Some kept = sym (ap (λ b. cond b (Some e.1) None) same) ∙ found in
      subst (λ j. cond (id == j) (Some e.1) None ≡ cond (1 == id) (Some kept) None) (eqb-true 1 e.0 same)
      (ap (λ b. cond b (Some e.1) None) (eqb-turned id 1) ∙ ap (λ o. cond (1 == id) o None) found-here)
  | inr other ↦ absurd (none_some (sym (ap (λ b. cond b (Some e.1) None) other) ∙ found))
]
  where
    none_some : {A : Type 0} {x : A} → None ≡ Some x → ⊥
    none_some h = cc

-- no link has a message where none of the fifos has one
pub links-empty : (links : List (LinkKey × Fifo)) → list_all (λ fifo. length fifo.messages == 0) (values_of links) ≡ true → (from to : Party) → messages_at links from to ≡ []
links-empty links is from to = all-empty (is_between from to) links is

-- ---- what a sim is seen to have

-- a server that isn't known is as one that joins
stranger : (o : Option rust_server.Server) (is : Bool) (s : Server) (outbox : Party → List Message) → is ≡ false → IsKeptAs o is s outbox → (s ≡ joining) × ((to : Party) → outbox to ≡ [])
stranger None is s outbox other h = (h.1, h.2)
stranger (Some kept) is s outbox other h = absurd (false≢true (sym other ∙ h.0))

-- the world is that of one server alone
pub is-alone : (sim : Sim) (w : World) → StandsFor sim w → w.master ≡ first_master 1 → ((to : Party) → w.outbox parties.Master to ≡ [])
    → ((from to : Party) → messages_at sim.links from to ≡ []) → w.server 1 ≡ alone (w.server 1).entries
    → ((to : Party) → w.outbox (parties.Server 1) to ≡ []) → IsAlone (w.server 1).entries w
is-alone sim w h master told links server sent = record {
  server = server;
  others = λ id other. (strange id other).0;
  outbox = λ from to. nothing from to;
  link = λ from to. none-mean (w.link from to) (subst (λ xs. chain.AllMean xs (w.link from to)) (links from to) (kept.links from to));
  master = master;
}
  where
    kept : Holds sim w
    kept = holds sim w h

    strange : (id : ℕ) → (1 == id) ≡ false → (w.server id ≡ joining) × ((to : Party) → w.outbox (parties.Server id) to ≡ [])
    strange id other = stranger (server_at sim.servers id) (is_in w.master.used id) (w.server id) (w.outbox (parties.Server id)) (ap (λ m. is_in m.used id) master ∙ is_in-one id ∙ other) (kept.servers id)

    nothing : (from to : Party) → w.outbox from to ≡ []
    nothing parties.Master to = told to
    nothing parties.Clients to = kept.clients to
    nothing (parties.Server id) to = elim (cases_Bool (1 == id)) [
      | inl same ↦ subst (λ i. w.outbox (parties.Server i) to ≡ []) (eqb-true 1 id same) (sent to)
      | inr other ↦ (strange id other).1 to
    ]

-- ---- the store that is given

-- a server of that number is at rest, and the store is its own
abbrev pub HasStore : Sim → ℕ → stores.StoreKept → Type 0
HasStore sim id store = (kept : rust_server.Server) × (server_at sim.servers id ≡ Some kept) × IsAtRest kept store

-- the sim has one server, the master knows of no other, and nothing stands in a link
pub record HasSettled (sim : Sim) : Type 0 where
  pub one : length sim.servers.entries ≡ 1
  pub state : (m : Master) (outbox : Party → List Message) → chain.MasterStandsFor sim.master m outbox → m ≡ first_master 1
  pub nothing : (m : Master) (outbox : Party → List Message) → chain.MasterStandsFor sim.master m outbox → (to : Party) → outbox to ≡ []
  pub again : (outbox : Party → List Message) → ((to : Party) → outbox to ≡ []) → chain.MasterStandsFor sim.master (first_master 1) outbox
  pub links : list_all (λ fifo. length fifo.messages == 0) (values_of sim.links) ≡ true

pub store-rests : (sim : Sim) (w : World) (o : Option stores.StoreKept) → HasSettled sim → IfSome o (HasStore sim 1) → StandsFor sim w → IfSome o (λ store. (entries : List Entry) × stores.StandsFor store entries × IsAlone entries w)
store-rests sim w None settled has h = tt
store-rests sim w (Some store) settled has h =
    let kept = holds sim w h in
    let here = known (server_at sim.servers 1) has.0 (is_in w.master.used 1) (w.server 1) (w.outbox (parties.Server 1)) has.1 (kept.servers 1) in (
      (w.server 1).entries,
      has.2.stands (w.server 1) (w.outbox (parties.Server 1)) here.1,
      is-alone sim w h (settled.state w.master (w.outbox parties.Master) kept.master) (settled.nothing w.master (w.outbox parties.Master) kept.master) (links-empty sim.links settled.links)
          (has.2.state (w.server 1) (w.outbox (parties.Server 1)) here.1) (has.2.nothing (w.server 1) (w.outbox (parties.Server 1)) here.1),
    )

pub store-again : (sim : Sim) (o : Option stores.StoreKept) → HasSettled sim → IfSome o (HasStore sim 1) → IfSome o (λ store. (entries : List Entry) (w : World) → stores.StandsFor store entries → IsAlone entries w → StandsFor sim w)
store-again sim None settled has = tt
store-again sim (Some store) settled has = λ entries w own is. alone-stands sim w entries has.0 is (only-server sim.servers.entries has.0 settled.one has.1) (λ outbox. has.2.again entries outbox own) (links-empty sim.links settled.links) settled.again
