-- A server's node that has done nothing.
use Rattle.std.proofs.Common.{arith, ◌≡◌, ◌==◌, ℕ, zero, suc, ap, refl, subst, sym, ◌∙◌, cond, List, [], ◌∷◌, slice_get, Bool, true, false, Option, Some, None}
use Rattle.std.proofs.lemmas.Option.{same_Some, none-some}
use Rattle.std.specs.List.{All}
use Rattle.cq_base.specs.declared.ask.Request.{Request}
use Rattle.cq_base.specs.declared.party.Party.{Party}
use Rattle.cq_base.specs.declared.party.Party.TheVariants as parties
use Rattle.cq_chain.specs.declared.message.Message as rust
use Rattle.cq_chain.specs.declared.server.Server as rust_server
use Rattle.cq_nodes.specs.declared.ends.In.{In}
use Rattle.cq_nodes.specs.declared.ends.Out.{Out}
use Rattle.cq_nodes.specs.declared.ends.ToClients.{ToClients}
use Rattle.cq_nodes.specs.Ends.{back_of, kept_at, listed, unread_in}
use Rattle.cq_nodes.specs.FreshLinks.{AreUnput, AreUntaken}
use Rattle.cq_nodes.specs.Moves.{ArePut, AreTaken}
use Rattle.cq_nodes.specs.Nodes.{ServerRan}
use Rattle.cq_nodes.proofs.Places.{none_unread}
use Rattle.cq_events.specs.Actions.{CoreState, StandsAs}
use Rattle.cq_events.specs.Worlds.{first_world}

-- what holds of all holds of the one at a place
all_at : {X : Type 0} (Q : X → Type 0) (xs : List X) (place : ℕ) (x : X) → All Q xs → slice_get xs place ≡ Some x → Q x
all_at Q [] place x h here = absurd (none-some x here)
all_at Q (y ∷ ys) zero x h here = subst Q (same_Some y x here) (h 0 y (omega (arith)))
all_at Q (y ∷ ys) (suc place) x h here = all_at Q ys place x (λ k d below. h (suc k) d (omega (arith, below))) here

module _ {P : Type 0} (put : P → List rust.Message) (outs : List (Out P)) (unput : AreUnput put outs) where
  -- nothing was put at any place, and nothing was handed back there
  none_put : ArePut put outs (λ _. [])
  none_put place out here = (all_at (λ o. (put o.end ≡ []) × (o.kept ≡ None)) outs place out unput here).0

  none_kept : (place : ℕ) → None ≡ kept_at (slice_get outs place)
  none_kept place = go (slice_get outs place) refl where
    go : (o : Option (Out P)) → slice_get outs place ≡ o → None ≡ kept_at o
    go None here = refl
    go (Some out) here = sym (all_at (λ o. (put o.end ≡ []) × (o.kept ≡ None)) outs place out unput here).1

  none_back : (p : Party) → None ≡ back_of outs None p
  none_back parties.Master = none_kept 0
  none_back parties.Clients = refl
  none_back (parties.Server id) = go (id == 0) where
    go : (t : Bool) → None ≡ cond t None (kept_at (slice_get outs id))
    go true = refl
    go false = none_kept id

-- nothing was taken at any place, and nothing is unread there
none_taken_at : {T : Type 0} (taken : T → List rust.Message) (ins : List (In T)) → AreUntaken taken ins → AreTaken taken ins (λ _. [])
none_taken_at taken ins untaken place end here =
    let both = all_at (λ e. (taken e.end ≡ []) × (e.unread ≡ None)) ins place end untaken here in
    both.0 ∙ ap listed (sym both.1)

-- no message is unread
pub fresh_unread : {T : Type 0} (taken : T → List rust.Message) (ins : List (In T)) → AreUntaken taken ins → unread_in ins ≡ 0
fresh_unread taken ins untaken = none_unread ins (λ i end here. (all_at (λ e. (taken e.end ≡ []) × (e.unread ≡ None)) ins i end untaken here).1)

pub ran_begun : {P T I : Type 0} (put : P → List rust.Message) (taken : T → List rust.Message) (got : I → List Request) (size id : ℕ) (core : rust_server.Server) (outs : List (Out P)) (clients : ToClients P) (ins : List (In T)) (inbox : I) (due : Option ℕ)
    → StandsAs (record { core = core; back = λ _. None }) ((first_world size).server id) ((first_world size).outbox (parties.Server id)) → AreUnput put outs → AreUntaken taken ins → put clients.first ≡ [] → put clients.second ≡ [] → clients.kept ≡ None
    → ServerRan put taken got size id core outs clients ins inbox [] due false
ran_begun put taken got size id core outs clients ins inbox due stood unput untaken first second none = record {
  actions = [];
  did = record {
    first = start;
    stood = stood;
    run = λ s outbox h. subst (λ back. StandsAs (record { core = core; back = back }) s outbox) (λ i p. (none_back put outs unput p ∙ ap (λ kept. back_of outs kept p) (sym none)) i) h;
    events = refl;
  };
  puts = none_put put outs unput;
  takes = none_taken_at taken ins untaken;
  others = λ p apart. refl;
  unput = λ p apart. refl;
  firsts = first;
  seconds = second;
  bound = record { may = λ d there. absurd there; arrived = tt };
}
  where
    start : CoreState rust_server.Server
    start = record { core = core; back = λ _. None }
