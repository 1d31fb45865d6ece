-- The lives of the nodes, one after another: whose actions are whose, and what the traces tell.
use Rattle.std.proofs.Common.{◌≡◌, ◌<◌, ◌+◌, ◌⊎◌, ℕ, zero, suc, arith, add-one, ◌∙◌, ap, refl, sym, subst, cond, List, [], ◌∷◌, length, map, slice_get, false, Some}
use Rattle.std.proofs.lemmas.Bool.{eq-eqb}
use Rattle.std.proofs.lemmas.Option.{same_Some, none-some, slice_get_within}
use Rattle.cq_base.specs.declared.ask.Request.{Request}
use Rattle.cq_base.specs.declared.party.Party.{Party}
use Rattle.cq_base.specs.declared.party.Party.TheVariants as parties
use Rattle.cq_chain.specs.declared.message.Message.{Message}
use Rattle.cq_chain.specs.Parties.{same}
use Rattle.cq_nodes.specs.declared.server_ends.ServerParts.{ServerParts}
use Rattle.cq_live.specs.Lives.{Life, AreTraces, actions_of}
use Rattle.cq_nodes.specs.Nodes.{Tells}
use Rattle.cq_nodes.proofs.Places.{is_apart}
use Rattle.cq_live.proofs.Known.{HasNoNode, Known, ServerKnown}
use Rattle.cq_live.proofs.Telling.{server_actions, server_known, master_known}
use Rattle.cq_live.specs.Ended.{Nodes, IsMaster, IsServer, AreOf, events_in, server_events}
use Rattle.cq_live_plan.specs.declared.step.LiveStep.{LiveStep}
use Rattle.cq_events.specs.declared.trace.Trace.{Trace}

-- ---- lists

heads_same : {X : Type 0} (x y : X) (xs ys : List X) → x ∷ xs ≡ y ∷ ys → x ≡ y
heads_same x y xs ys h = cc

tails_same : {X : Type 0} (x y : X) (xs ys : List X) → x ∷ xs ≡ y ∷ ys → xs ≡ ys
tails_same x y xs ys h = cc

some_empty : {X : Type 0} (x : X) (xs : List X) → x ∷ xs ≡ [] → ⊥
some_empty x xs h = cc

-- ---- the lives of servers

module _ {P T I : Type 0} (put : P → List Message) (taken : T → List Message) (got : I → List Request) where
  -- each server of the list tells what it did
  abbrev pub AllTell : List (ServerParts P T I) → Type 0
  AllTell servers = (i : ℕ) (s : ServerParts P T I) → slice_get servers i ≡ Some s → Tells put taken got s

  -- the servers have their numbers in order, from that one on
  abbrev pub AreNumbered : ℕ → List (ServerParts P T I) → Type 0
  AreNumbered first servers = (i : ℕ) (s : ServerParts P T I) → slice_get servers i ≡ Some s → s.id ≡ i + first

  abbrev pub server_lives : (servers : List (ServerParts P T I)) → AllTell servers → List Life
  server_lives [] tell = []
  server_lives (s ∷ servers) tell = record { party = parties.Server s.id; actions = server_actions put taken got s (tell 0 s refl) } ∷ server_lives servers (λ i. tell (suc i))

  -- what it tells is what the server of its number did
  abbrev IsLife : List Life → ℕ → ServerParts P T I → Type 0
  IsLife lives id s = (tells : Tells put taken got s) × (actions_of lives (parties.Server id) ≡ server_actions put taken got s tells)

  pub life_at : (first : ℕ) (servers : List (ServerParts P T I)) (tell : AllTell servers) → AreNumbered first servers → (i : ℕ) (s : ServerParts P T I) → slice_get servers i ≡ Some s → (id : ℕ) → id ≡ i + first → IsLife (server_lives servers tell) id s
  life_at first [] tell numbered i s is id e = absurd (none-some s is)
  life_at first (r ∷ servers) tell numbered zero s is id e = subst (IsLife (server_lives (r ∷ servers) tell) id) (same_Some r s is)
      (tell 0 r refl, ap (λ t. cond t (server_actions put taken got r (tell 0 r refl)) (actions_of (server_lives servers (λ i. tell (suc i))) (parties.Server id))) (eq-eqb id r.id (e ∙ sym (numbered 0 r refl))))
  life_at first (r ∷ servers) tell numbered (suc i) s is id e =
      let rest = life_at (suc first) servers (λ j. tell (suc j)) (λ j t there. let n = numbered (suc j) t there in omega (arith, n)) i s is id (omega (arith, e)) in
      let own = numbered 0 r refl in
      (rest.0, ap (λ t. cond t (server_actions put taken got r (tell 0 r refl)) (actions_of (server_lives servers (λ j. tell (suc j))) (parties.Server id))) (is_apart id r.id (λ both. omega (arith, both, own, e))) ∙ rest.1)

  -- who is none of them did nothing
  pub no_life : (servers : List (ServerParts P T I)) (tell : AllTell servers) (p : Party) → ((i : ℕ) (s : ServerParts P T I) → slice_get servers i ≡ Some s → same p (parties.Server s.id) ≡ false) → actions_of (server_lives servers tell) p ≡ []
  no_life [] tell p apart = refl
  no_life (r ∷ servers) tell p apart = ap (λ t. cond t (server_actions put taken got r (tell 0 r refl)) (actions_of (server_lives servers (λ i. tell (suc i))) p)) (apart 0 r refl) ∙ no_life servers (λ i. tell (suc i)) p (λ i. apart (suc i))

  -- the traces tell the lives
  pub traces_tell : (traces : List Trace) (servers : List (ServerParts P T I)) (tell : AllTell servers) → map events_in traces ≡ map server_events servers → AreTraces traces (server_lives servers tell)
  traces_tell [] [] tell told = tt
  traces_tell [] (s ∷ servers) tell told = absurd (some_empty _ _ (sym told))
  traces_tell (trace ∷ traces) [] tell told = absurd (some_empty _ _ told)
  traces_tell (trace ∷ traces) (s ∷ servers) tell told =
      let head = heads_same _ _ _ _ told in
      (ap (λ x. x.0) head, ap (λ x. x.1) head ∙ (tell 0 s refl).ran.did.events, traces_tell traces servers (λ i. tell (suc i)) (tails_same _ _ _ _ told))

-- ---- the lives of all

module _ {P T I Q : Type 0} (put : P → List Message) (taken : T → List Message) (got : I → List Request) (size : ℕ) (steps : List LiveStep) (nodes : Nodes P T I Q) (master : IsMaster put taken size steps nodes.master)
    (servers : (i : ℕ) (s : ServerParts P T I) → slice_get nodes.servers i ≡ Some s → IsServer put taken got size steps (i + 1) s) where
  tell : AllTell put taken got nodes.servers
  tell i s is = (servers i s is).tells

  abbrev pub lives_of : List Life
  lives_of = record { party = parties.Master; actions = master.lived.actions } ∷ server_lives put taken got nodes.servers (λ i s is. (servers i s is).tells)

  server_at : (i : ℕ) (s : ServerParts P T I) → slice_get nodes.servers i ≡ Some s → ServerKnown put taken got size steps (suc i) s (actions_of lives_of (parties.Server (suc i)))
  server_at i s is =
      let life = life_at put taken got 1 nodes.servers (λ j t there. (servers j t there).tells) (λ j t there. (servers j t there).id) i s is (suc i) (sym (add-one i)) in
      let node = servers i s is in
      subst (ServerKnown put taken got size steps (suc i) s) (sym life.1) (server_known put taken got size steps i s (record { size = node.size; id = node.id; crash_after = node.crash_after; tells = life.0; read = node.read }))

  idle : (p : Party) → HasNoNode (length nodes.servers) p → actions_of lives_of p ≡ []
  idle parties.Master away = absurd away
  idle parties.Clients away = no_life put taken got nodes.servers (λ i s is. (servers i s is).tells) parties.Clients (λ i s is. refl)
  idle (parties.Server id) away = no_life put taken got nodes.servers (λ i s is. (servers i s is).tells) (parties.Server id) (λ i s is. is_apart id s.id (apart i s is away)) where
    apart : (i : ℕ) (s : ServerParts P T I) → slice_get nodes.servers i ≡ Some s → (id ≡ 0) ⊎ (length nodes.servers < id) → id ≡ s.id → ⊥
    apart i s is gone both = let own = (servers i s is).id in let within = slice_get_within nodes.servers i s is in omega (arith, own, within, both, gone)

  pub lives_known : Known put taken got size steps nodes (actions_of lives_of)
  lives_known = record { master = master_known put taken size steps nodes.master master; servers = server_at; idle = idle }

  pub lives_told : (traces : List Trace) → AreOf traces nodes → AreTraces traces lives_of
  lives_told [] told = absurd (some_empty _ _ (sym told))
  lives_told (trace ∷ traces) told =
      let head = heads_same _ _ _ _ told in
      (ap (λ x. x.0) head, ap (λ x. x.1) head ∙ master.lived.events, traces_tell put taken got traces nodes.servers (λ i s is. (servers i s is).tells) (tails_same _ _ _ _ told))
