-- Moves of the master's node, by the calls of its core, and the ends at the places of servers.
use Rattle.std.proofs.Common.{arith, add-one, ◌≡◌, ◌==◌, ◌+◌, ◌≤◌, ℕ, zero, suc, ◌∙◌, ap, sym, refl, subst, cond, List, [], ◌∷◌, ◌++◌, drop, map, slice_get, slice_set, Bool, true, false, Option, Some, None, Result, Ok, Err, OnOk}
use Rattle.std.proofs.lemmas.Bool.{eqb-true}
use Rattle.std.proofs.lemmas.Option.{same_Some, slice_get_within}
use Rattle.std.proofs.lemmas.List.{length-set}
use Rattle.cq_base.specs.declared.party.Party.{Party}
use Rattle.cq_base.specs.declared.party.Party.TheVariants as parties
use Rattle.cq_chain.specs.declared.master.Master as rust_master
use Rattle.cq_chain.specs.declared.message.Message as rust
use Rattle.cq_chain.specs.Masters.{Master, hears, hears_from, detected, joined, refusal_of_detection, refusal_of_join}
use Rattle.cq_events.specs.Acts.{ActsMaster}
use Rattle.cq_chain.specs.Messages.{Message}
use Rattle.cq_chain.specs.Parties.{same}
use Rattle.cq_chain.specs.Stands as chain
use Rattle.cq_chain.specs.Stands.{Means, IsFirst, drained}
use Rattle.cq_nodes.specs.declared.ends.In.{In}
use Rattle.cq_nodes.specs.declared.ends.Out.{Out}
use Rattle.cq_nodes.specs.Ends.{listed, with_back, kept_at}
use Rattle.cq_nodes.specs.Moves.{ArePut, AreTaken}
use Rattle.cq_nodes.specs.MasterMoves.{PassesFor, PutsOneFor, TakesOneOf, ReadsOf, back_for, back_of_servers, PutsFor, TakesOf}
use Rattle.cq_nodes.proofs.ActionRuns.{orders-after}
use Rattle.cq_nodes.proofs.Moving.{back_same}
use Rattle.cq_nodes.proofs.Places.{itself, apart_of, is_apart, get_same, get_other, at_each, empty_end}
use Rattle.cq_nodes.proofs.CoreStates.{as-put, as-drawn, master-order}
use Rattle.cq_events.specs.Actions.{Put, Detected, Joined, IsMasterAs, Keeps, DoesMaster, behind}
use Rattle.cq_events.proofs.Parties.{same-true, same-refl}

-- ---- calls

-- what was handed back stays so
pub stays_for : (core : rust_master.Master) (back : Party → Option rust.Message) (to : ℕ) (o : Option rust.Message) → back (parties.Server to) ≡ o → PassesFor core core back to o
stays_for core back to o is = subst (λ bk. Keeps IsMasterAs (record { core = core; back = back }) (record { core = core; back = bk })) (λ i p. back_same back (parties.Server to) o is p i) (λ m outbox h. h)

-- an outbox in which nothing waits is as it was
same_box : (to : Party) (box : Party → List Message) → box to ≡ [] → (p : Party) → drained box to p ≡ box p
same_box to box empty p = go (same to p) refl where
  go : (t : Bool) → same to p ≡ t → cond t (drop 1 (box p)) (box p) ≡ box p
  go true e = subst (λ q. drop 1 (box q) ≡ box q) (same-true to p e) (ap (drop 1) empty ∙ sym empty)
  go false e = refl

-- the core's outbox gave its first message, or has none
pub drawn_for : (old new : rust_master.Master) (back : Party → Option rust.Message) (to : ℕ) (o : Option rust.Message) → back (parties.Server to) ≡ None
    → ((m : Master) (outbox : Party → List Message) → chain.MasterStandsFor old m outbox → IsFirst o (outbox (parties.Server to)))
    → ((m : Master) (outbox : Party → List Message) → chain.MasterStandsFor old m outbox → chain.MasterStandsFor new m (drained outbox (parties.Server to))) → PassesFor old new back to o
drawn_for old new back to (Some x) none first drawn = as-drawn chain.MasterStandsFor old new back (parties.Server to) x none first drawn
drawn_for old new back to None none first drawn = λ m outbox h.
    let box : Party → List Message = λ p. behind (back p) (outbox p) in
    stays_for new back to None none m outbox (subst (chain.MasterStandsFor new m) (λ i p. same_box (parties.Server to) box (first m box h.0) p i) (drawn m box h.0), h.1)

-- a first message was put
put_of_core : (old new : rust_master.Master) (back : Party → Option rust.Message) (to : ℕ) (x : rust.Message) → PassesFor old new back to (Some x)
    → DoesMaster (Put (parties.Server to) x) (record { core = old; back = back }) (record { core = new; back = with_back back (parties.Server to) None })
put_of_core old new back to x passes = orders-after (Put own x) (record { core = old; back = back }) (record { core = new; back = with_back back own (Some x) }) (record { core = new; back = with_back back own None }) passes
    (subst (λ bk. DoesMaster (Put own x) (record { core = new; back = with_back back own (Some x) }) (record { core = new; back = bk })) (λ i p. twice p i) (as-put chain.MasterStandsFor new (with_back back own (Some x)) own x here))
  where
    own : Party
    own = parties.Server to

    here : with_back back own (Some x) own ≡ Some x
    here = ap (λ t. cond t (Some x) (back own)) (same-refl own)

    twice : (p : Party) → with_back (with_back back own (Some x)) own None p ≡ with_back back own None p
    twice p = go (same p own) where
      go : (t : Bool) → cond t None (cond t (Some x) (back p)) ≡ cond t None (back p)
      go true = refl
      go false = refl

pub put_for : (old new : rust_master.Master) (back : Party → Option rust.Message) (to : ℕ) (x : rust.Message) → PassesFor old new back to (Some x)
    → ActsMaster (Put (parties.Server to) x) (record { core = old; back = back }) (record { core = new; back = with_back back (parties.Server to) None })
put_for old new back to x passes = (put_of_core old new back to x passes, tt)

-- the core took a message, whatever it means
pub took_of : (E : Type 0) (old new : rust_master.Master) (back : Party → Option rust.Message) (from : ℕ) (x : rust.Message) (r : Result (Unit {0}) E) → ((m : Message) → Means x m → OnOk r (chain.Orders old new (hears from m)))
    → OnOk r (TakesOneOf old new back from x)
took_of E old new back from x (Ok u) h = (λ m means. master-order old new back (hears_from (parties.Server from) m) (h m means), tt)
took_of E old new back from x (Err e) h = tt

-- a detection and a join that weren't refused
pub detected_by : (old new : rust_master.Master) (back : Party → Option rust.Message) (id : ℕ) → chain.Orders old new (detected id) → ((m : Master) (outbox : Party → List Message) → chain.MasterStandsFor old m outbox → refusal_of_detection id m ≡ None)
    → ActsMaster (Detected id) (record { core = old; back = back }) (record { core = new; back = back })
detected_by old new back id does free = (master-order old new back (detected id) does, λ m outbox i. free m (λ to. behind (back to) (outbox to)) i.0)

pub joined_by : (old new : rust_master.Master) (back : Party → Option rust.Message) (id : ℕ) → chain.Orders old new (joined id) → ((m : Master) (outbox : Party → List Message) → chain.MasterStandsFor old m outbox → refusal_of_join id m ≡ None)
    → ActsMaster (Joined id) (record { core = old; back = back }) (record { core = new; back = back })
joined_by old new back id does free = (master-order old new back (joined id) does, λ m outbox i. free m (λ to. behind (back to) (outbox to)) i.0)

-- ---- places

here_for : (place to : ℕ) → place + 1 ≡ to → (place + 1 == to) ≡ true
here_for place to e = subst (λ n. (place + 1 == n) ≡ true) e (itself (place + 1))

apart_for : (at place to : ℕ) → place + 1 ≡ to → (at == place) ≡ false → (at + 1 == to) ≡ false
apart_for at place to e apart = is_apart (at + 1) to (λ together. apart_of at place apart (omega (arith, together, e)))

back_at_place : {P : Type 0} (outs : List (Out P)) (place to : ℕ) (out : Out P) → place + 1 ≡ to → slice_get outs place ≡ Some out → back_of_servers outs (parties.Server to) ≡ out.kept
back_at_place {P} outs place to out e is = ap (back_for outs) (sym e ∙ add-one place) ∙ ap (kept_at {P = P}) is

back_set_place : {P : Type 0} (outs : List (Out P)) (place to : ℕ) (out now : Out P) → place + 1 ≡ to → slice_get outs place ≡ Some out → (p : Party) → with_back (back_of_servers outs) (parties.Server to) now.kept p ≡ back_of_servers (slice_set outs place now) p
back_set_place {P} outs place to out now e is parties.Master = refl
back_set_place {P} outs place to out now e is parties.Clients = refl
back_set_place {P} outs place to out now e is (parties.Server id) = servers id (id == to) refl where
  own : (at : ℕ) → at ≡ place → now.kept ≡ kept_at (slice_get (slice_set outs place now) at)
  own at z = sym (ap (kept_at {P = P}) (subst (λ n. slice_get (slice_set outs place now) n ≡ Some now) (sym z) (get_same outs place out now is)))

  other : (at : ℕ) → (at ≡ place → ⊥) → kept_at (slice_get outs at) ≡ kept_at (slice_get (slice_set outs place now) at)
  other at apart = ap (kept_at {P = P}) (sym (get_other outs place now at apart))

  servers : (id : ℕ) (t : Bool) → (id == to) ≡ t → cond t now.kept (back_for outs id) ≡ back_for (slice_set outs place now) id
  servers zero true z = absurd (omega (arith, eqb-true 0 to z, e))
  servers zero false z = refl
  servers (suc at) true z = own at (omega (arith, eqb-true (suc at) to z, e))
  servers (suc at) false z = other at (λ together. apart_of (suc at) to z (ap suc together ∙ sym (add-one place) ∙ e))

-- an end of the same link stands in for the one at its place
pub links_stay : {X E L : Type 0} (end : X → E) (link : E → L) (xs : List X) (i : ℕ) (x now : X) → slice_get xs i ≡ Some x → link (end now) ≡ link (end x) → map link (map end (slice_set xs i now)) ≡ map link (map end xs)
links_stay end link [] i x now is same_link = refl
links_stay end link (y ∷ ys) zero x now is same_link = ap (λ l. l ∷ map link (map end ys)) (same_link ∙ ap (λ z. link (end z)) (sym (same_Some y x is)))
links_stay end link (y ∷ ys) (suc i) x now is same_link = ap (λ us. link (end y) ∷ us) (links_stay end link ys i x now is same_link)

-- what each list is of, it stays where the one at a place is as it was
pub puts_stay : {P : Type 0} (list : P → List rust.Message) (outs : List (Out P)) (place : ℕ) (out now : Out P) → slice_get outs place ≡ Some out → (sent : ℕ → List rust.Message) → list now.end ≡ list out.end → ArePut list outs sent → ArePut list (slice_set outs place now) sent
puts_stay list outs place out now is sent unchanged put = at_each (λ at x. list x.end ≡ sent at) (λ at x. list x.end ≡ sent at) outs place out now is put (unchanged ∙ put place out is) (λ at x apart told. told)

pub takes_stay : {T : Type 0} (list : T → List rust.Message) (ins : List (In T)) (place : ℕ) (end now : In T) → slice_get ins place ≡ Some end → (seen : ℕ → List rust.Message)
    → (list end.end ≡ seen place ++ listed end.unread → list now.end ≡ seen place ++ listed now.unread) → AreTaken list ins seen → AreTaken list (slice_set ins place now) seen
takes_stay list ins place end now is seen h taken = at_each (λ at x. list x.end ≡ seen at ++ listed x.unread) (λ at x. list x.end ≡ seen at ++ listed x.unread) ins place end now is taken (h (taken place end is)) (λ at x apart told. told)

module _ {P : Type 0} (list : P → List rust.Message) (old new : rust_master.Master) (outs : List (Out P)) (place : ℕ) (out now : Out P) (is : slice_get outs place ≡ Some out) (to : ℕ) (there : place + 1 ≡ to) where
  pub puts_for : (sent : ℕ → List rust.Message) → ((back : Party → Option rust.Message) → back (parties.Server to) ≡ out.kept → PutsOneFor old new back to now.kept (list out.end) (list now.end))
      → ArePut list outs sent → PutsFor list old new outs (slice_set outs place now) sent to
  puts_for sent h put =
      let one = h (back_of_servers outs) (back_at_place outs place to out there is) in
      record {
        message = one.message;
        linked = (omega (arith, there), subst (λ n. to ≤ n) (sym (length-set outs place now)) (omega (arith, there, slice_get_within outs place out is)));
        done = subst (λ back. ActsMaster (Put (parties.Server to) one.message) (record { core = old; back = back_of_servers outs }) (record { core = new; back = back })) (λ i p. back_set_place outs place to out now there is p i) one.done;
        lists = at_each (λ at x. list x.end ≡ sent at) (λ at x. list x.end ≡ sent at ++ cond (at + 1 == to) (one.message ∷ []) []) outs place out now is put
            (one.list ∙ ap (λ us. us ++ one.message ∷ []) (put place out is) ∙ ap (λ t. sent place ++ cond t (one.message ∷ []) []) (sym (here_for place to there)))
            (λ at x apart told. told ∙ sym (empty_end (sent at)) ∙ ap (λ t. sent at ++ cond t (one.message ∷ []) []) (sym (apart_for at place to there apart)));
      }

  pub passes_for : ((back : Party → Option rust.Message) → back (parties.Server to) ≡ out.kept → PassesFor old new back to now.kept)
      → Keeps IsMasterAs (record { core = old; back = back_of_servers outs }) (record { core = new; back = back_of_servers (slice_set outs place now) })
  passes_for h = subst (λ back. Keeps IsMasterAs (record { core = old; back = back_of_servers outs }) (record { core = new; back = back })) (λ i p. back_set_place outs place to out now there is p i) (h (back_of_servers outs) (back_at_place outs place to out there is))

module _ {T : Type 0} (list : T → List rust.Message) (old new : rust_master.Master) (ins : List (In T)) (place : ℕ) (end now : In T) (is : slice_get ins place ≡ Some end) (seen : ℕ → List rust.Message) (from : ℕ) (there : place + 1 ≡ from) where
  pub takes_of : (back : Party → Option rust.Message) → (list end.end ≡ seen place ++ listed end.unread → ReadsOf old new back from (seen place) now.unread (list now.end))
      → AreTaken list ins seen → TakesOf list old new back (slice_set ins place now) seen from
  takes_of back h taken =
      let one = h (taken place end is) in
      record {
        message = one.message;
        linked = (omega (arith, there), subst (λ n. from ≤ n) (sym (length-set ins place now)) (omega (arith, there, slice_get_within ins place end is)));
        done = one.done;
        lists = at_each (λ at x. list x.end ≡ seen at ++ listed x.unread) (λ at x. list x.end ≡ (seen at ++ cond (at + 1 == from) (one.message ∷ []) []) ++ listed x.unread) ins place end now is taken
            (one.list ∙ ap (λ t. (seen place ++ cond t (one.message ∷ []) []) ++ listed now.unread) (sym (here_for place from there)))
            (λ at x apart told. told ∙ ap (λ us. us ++ listed x.unread) (sym (empty_end (seen at)) ∙ ap (λ t. seen at ++ cond t (one.message ∷ []) []) (sym (apart_for at place from there apart))));
      }
