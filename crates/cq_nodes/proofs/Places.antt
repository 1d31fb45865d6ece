-- The ends at their places, after the one at one place was changed.
use Rattle.std.proofs.Common.{◌≡◌, ◌==◌, ◌<◌, ◌≤◌, ◌+◌, arith, length, ℕ, zero, suc, ◌∙◌, ap, sym, refl, subst, cond, List, [], ◌∷◌, ◌++◌, map, slice_get, slice_set, Bool, true, false, Option, Some, None}
use Rattle.std.proofs.lemmas.Bool.{eqb-true}
use Rattle.std.proofs.lemmas.List.{length-set}
use Rattle.std.proofs.lemmas.Option.{same_Some, none-some, slice_get_within}
use Rattle.cq_base.specs.declared.party.Party.{Party}
use Rattle.cq_base.specs.declared.party.Party.TheVariants as parties
use Rattle.cq_chain.specs.declared.message.Message as rust
use Rattle.cq_chain.specs.declared.server.Server as rust_server
use Rattle.cq_nodes.specs.declared.ends.In.{In}
use Rattle.cq_nodes.specs.declared.ends.Out.{Out}
use Rattle.cq_nodes.specs.Ends.{party_at, listed, with_back, kept_at, back_of, unread_in}
use Rattle.cq_nodes.specs.Moves.{Passes, PutsOne, Reads, ArePut, PutsAt, AreTaken, TakesAt}
use Rattle.cq_events.specs.Acts.{Acts}
use Rattle.cq_events.specs.Actions.{Put, StandsAs, Keeps}
use Rattle.cq_events.proofs.Parties.{same-refl}

-- ---- numbers

pub both_no : (t : Bool) → t ≡ true → t ≡ false → ⊥
both_no t is isnt = subst (λ b. cond b (Unit {0}) ⊥) (sym is ∙ isnt) tt

pub itself : (i : ℕ) → (i == i) ≡ true
itself i = same-refl (parties.Server i)

pub apart_of : (a b : ℕ) → (a == b) ≡ false → a ≡ b → ⊥
apart_of a b isnt e = both_no (a == b) (subst (λ n. (a == n) ≡ true) e (itself a)) isnt

pub is_apart : (a b : ℕ) → (a ≡ b → ⊥) → (a == b) ≡ false
is_apart a b apart = go (a == b) refl where
  go : (t : Bool) → (a == b) ≡ t → (a == b) ≡ false
  go true e = absurd (apart (eqb-true a b e))
  go false e = e

-- ---- one place

pub get_same : {X : Type 0} (xs : List X) (i : ℕ) (x now : X) → slice_get xs i ≡ Some x → slice_get (slice_set xs i now) i ≡ Some now
get_same [] i x now is = absurd (none-some x is)
get_same (y ∷ ys) zero x now is = refl
get_same (y ∷ ys) (suc i) x now is = get_same ys i x now is

pub get_other : {X : Type 0} (xs : List X) (i : ℕ) (now : X) (at : ℕ) → (at ≡ i → ⊥) → slice_get (slice_set xs i now) at ≡ slice_get xs at
get_other [] i now at apart = refl
get_other (y ∷ ys) zero now zero apart = absurd (apart refl)
get_other (y ∷ ys) zero now (suc at) apart = refl
get_other (y ∷ ys) (suc i) now zero apart = refl
get_other (y ∷ ys) (suc i) now (suc at) apart = get_other ys i now at (λ e. apart (ap suc e))

-- what each place had, it has after one was changed
pub at_each : {X : Type 0} (Q R : ℕ → X → Type 0) (xs : List X) (i : ℕ) (x y : X) → slice_get xs i ≡ Some x → ((at : ℕ) (z : X) → slice_get xs at ≡ Some z → Q at z) → R i y → ((at : ℕ) (z : X) → (at == i) ≡ false → Q at z → R at z)
    → (at : ℕ) (now : X) → slice_get (slice_set xs i y) at ≡ Some now → R at now
at_each Q R xs i x y here all new others at now is = go (at == i) refl where
  go : (t : Bool) → (at == i) ≡ t → R at now
  go true e = subst (λ n. R n now) (sym (eqb-true at i e)) (subst (R i) (same_Some y now (sym (get_same xs i x y here) ∙ subst (λ n. slice_get (slice_set xs i y) n ≡ Some now) (eqb-true at i e) is)) new)
  go false e = others at now e (all at now (sym (get_other xs i y at (apart_of at i e)) ∙ is))

pub empty_end : {X : Type 0} (xs : List X) → xs ++ [] ≡ xs
empty_end [] = refl
empty_end (x ∷ xs) = ap (λ us. x ∷ us) (empty_end xs)

-- ---- what is unread

-- with one end changed, at which so many messages more are unread at most
pub unread_set : {T : Type 0} (ins : List (In T)) (i : ℕ) (end now : In T) (n : ℕ) → slice_get ins i ≡ Some end → length (listed now.unread) ≤ length (listed end.unread) + n → unread_in (slice_set ins i now) ≤ unread_in ins + n
unread_set [] i end now n is few = absurd (none-some end is)
unread_set (x ∷ ins) zero end now n is few =
    let same : length (listed x.unread) ≡ length (listed end.unread) = ap (λ (e : In _). length (listed e.unread)) (same_Some x end is) in
    omega arith
unread_set (x ∷ ins) (suc i) end now n is few =
    let rest : unread_in (slice_set ins i now) ≤ unread_in ins + n = unread_set ins i end now n is few in
    omega arith

-- where nothing is unread at any end
pub none_unread : {T : Type 0} (ins : List (In T)) → ((i : ℕ) (end : In T) → slice_get ins i ≡ Some end → end.unread ≡ None) → unread_in ins ≡ 0
none_unread [] none = refl
none_unread (x ∷ ins) none =
    let here : length (listed x.unread) ≡ 0 = ap (λ (o : Option rust.Message). length (listed o)) (none 0 x refl) in
    let rest : unread_in ins ≡ 0 = none_unread ins (λ i end is. none (suc i) end is) in
    omega arith

-- one at most
pub one_unread : (o : Option rust.Message) → length (listed o) ≤ 1
one_unread None = omega arith
one_unread (Some m) = omega arith

-- ---- what was handed back

pub back_at : {P : Type 0} (outs : List (Out P)) (kept : Option rust.Message) (i : ℕ) (out : Out P) → slice_get outs i ≡ Some out → back_of outs kept (party_at i) ≡ out.kept
back_at {P} outs kept i out is = go (i == 0) refl where
  go : (t : Bool) → (i == 0) ≡ t → back_of outs kept (cond t parties.Master (parties.Server i)) ≡ out.kept
  go true e = ap (kept_at {P = P}) (subst (λ n. slice_get outs n ≡ Some out) (eqb-true i 0 e) is)
  go false e = ap (λ t. cond t None (kept_at (slice_get outs i))) e ∙ ap (kept_at {P = P}) is

pub back_set : {P : Type 0} (outs : List (Out P)) (kept : Option rust.Message) (i : ℕ) (out now : Out P) → slice_get outs i ≡ Some out → (p : Party) → with_back (back_of outs kept) (party_at i) now.kept p ≡ back_of (slice_set outs i now) kept p
back_set {P} outs kept i out now is p = go (i == 0) refl p where
  other : (at : ℕ) → (at ≡ i → ⊥) → kept_at (slice_get outs at) ≡ kept_at (slice_get (slice_set outs i now) at)
  other at apart = ap (kept_at {P = P}) (sym (get_other outs i now at apart))

  own : (at : ℕ) → at ≡ i → now.kept ≡ kept_at (slice_get (slice_set outs i now) at)
  own at e = sym (ap (kept_at {P = P}) (subst (λ n. slice_get (slice_set outs i now) n ≡ Some now) (sym e) (get_same outs i out now is)))

  servers : (id : ℕ) → (i == 0) ≡ false → (s r : Bool) → (id == i) ≡ s → (id == 0) ≡ r
      → cond s now.kept (cond r None (kept_at (slice_get outs id))) ≡ cond r None (kept_at (slice_get (slice_set outs i now) id))
  servers id f true true e z = absurd (apart_of i 0 f (sym (eqb-true id i e) ∙ eqb-true id 0 z))
  servers id f true false e z = own id (eqb-true id i e)
  servers id f false true e z = refl
  servers id f false false e z = other id (apart_of id i e)

  masters : (id : ℕ) → i ≡ 0 → (r : Bool) → (id == 0) ≡ r → cond r None (kept_at (slice_get outs id)) ≡ cond r None (kept_at (slice_get (slice_set outs i now) id))
  masters id f true z = refl
  masters id f false z = other id (λ e. apart_of id 0 z (e ∙ f))

  go : (t : Bool) → (i == 0) ≡ t → (q : Party) → with_back (back_of outs kept) (cond t parties.Master (parties.Server i)) now.kept q ≡ back_of (slice_set outs i now) kept q
  go true e parties.Master = own 0 (sym (eqb-true i 0 e))
  go false e parties.Master = other 0 (λ z. apart_of i 0 e (sym z))
  go true e parties.Clients = refl
  go false e parties.Clients = refl
  go true e (parties.Server id) = masters id (eqb-true i 0 e) (id == 0) refl
  go false e (parties.Server id) = servers id e (id == i) (id == 0) refl refl

-- ---- one step

module _ {P : Type 0} (list : P → List rust.Message) (old new : rust_server.Server) (outs : List (Out P)) (place : ℕ) (out now : Out P) (is : slice_get outs place ≡ Some out) (to : Party) (there : to ≡ party_at place) where
  pub puts_at : (kept : Option rust.Message) (sent : ℕ → List rust.Message) → ((back : Party → Option rust.Message) → back to ≡ out.kept → PutsOne old new back to now.kept (list out.end) (list now.end))
      → ArePut list outs sent → PutsAt list old new outs (slice_set outs place now) kept sent place
  puts_at kept sent h put =
      let one = subst (λ p. (back : Party → Option rust.Message) → back p ≡ out.kept → PutsOne old new back p now.kept (list out.end) (list now.end)) there h (back_of outs kept) (back_at outs kept place out is) in
      record {
        message = one.message;
        linked = subst (λ n. place < n) (sym (length-set outs place now)) (slice_get_within outs place out is);
        done = subst (λ back. Acts (Put (party_at place) one.message) (record { core = old; back = back_of outs kept }) (record { core = new; back = back })) (λ i p. back_set outs kept place out now is p i) one.done;
        lists = at_each (λ at x. list x.end ≡ sent at) (λ at x. list x.end ≡ sent at ++ cond (at == place) (one.message ∷ []) []) outs place out now is put
            (one.list ∙ ap (λ us. us ++ one.message ∷ []) (put place out is) ∙ ap (λ t. sent place ++ cond t (one.message ∷ []) []) (sym (itself place)))
            (λ at x apart told. told ∙ sym (empty_end (sent at)) ∙ ap (λ t. sent at ++ cond t (one.message ∷ []) []) (sym apart));
      }

  pub passes_at : (kept : Option rust.Message) → ((back : Party → Option rust.Message) → back to ≡ out.kept → Passes old new back to now.kept)
      → Keeps StandsAs (record { core = old; back = back_of outs kept }) (record { core = new; back = back_of (slice_set outs place now) kept })
  passes_at kept h = subst (λ back. Keeps StandsAs (record { core = old; back = back_of outs kept }) (record { core = new; back = back })) (λ i p. back_set outs kept place out now is p i) (subst (λ p. (back : Party → Option rust.Message) → back p ≡ out.kept → Passes old new back p now.kept) there h (back_of outs kept) (back_at outs kept place out is))

  pub puts_kept : (sent : ℕ → List rust.Message) → list now.end ≡ list out.end → ArePut list outs sent → ArePut list (slice_set outs place now) sent
  puts_kept sent same_list put = at_each (λ at x. list x.end ≡ sent at) (λ at x. list x.end ≡ sent at) outs place out now is put (same_list ∙ put place out is) (λ at x apart told. told)

module _ {T : Type 0} (list : T → List rust.Message) (old new : rust_server.Server) (ins : List (In T)) (place : ℕ) (end now : In T) (is : slice_get ins place ≡ Some end) (seen : ℕ → List rust.Message) (from : Party) (there : from ≡ party_at place) where
  pub takes_at : (back : Party → Option rust.Message) → (list end.end ≡ seen place ++ listed end.unread → Reads old new back from (seen place) now.unread (list now.end))
      → AreTaken list ins seen → TakesAt list old new back (slice_set ins place now) seen place
  takes_at back h taken =
      let one = subst (λ p. Reads old new back p (seen place) now.unread (list now.end)) there (h (taken place end is)) in
      record {
        message = one.message;
        linked = subst (λ n. place < n) (sym (length-set ins place now)) (slice_get_within ins place end is);
        done = one.done;
        lists = at_each (λ at x. list x.end ≡ seen at ++ listed x.unread) (λ at x. list x.end ≡ (seen at ++ cond (at == place) (one.message ∷ []) []) ++ listed x.unread) ins place end now is taken
            (one.list ∙ ap (λ t. (seen place ++ cond t (one.message ∷ []) []) ++ listed now.unread) (sym (itself place)))
            (λ at x apart told. told ∙ ap (λ us. us ++ listed x.unread) (sym (empty_end (seen at)) ∙ ap (λ t. seen at ++ cond t (one.message ∷ []) []) (sym apart)));
      }

  pub takes_kept : (list end.end ≡ seen place ++ listed end.unread → list now.end ≡ seen place ++ listed now.unread) → AreTaken list ins seen → AreTaken list (slice_set ins place now) seen
  takes_kept h taken = at_each (λ at x. list x.end ≡ seen at ++ listed x.unread) (λ at x. list x.end ≡ seen at ++ listed x.unread) ins place end now is taken (h (taken place end is)) (λ at x apart told. told)

-- an end of the same link stands in for the one at its place
pub links_set : {X L : Type 0} (link : X → L) (xs : List X) (i : ℕ) (x now : X) → slice_get xs i ≡ Some x → link now ≡ link x → map link (slice_set xs i now) ≡ map link xs
links_set link [] i x now is same_link = refl
links_set link (y ∷ ys) zero x now is same_link = ap (λ l. l ∷ map link ys) (same_link ∙ ap link (sym (same_Some y x is)))
links_set link (y ∷ ys) (suc i) x now is same_link = ap (λ us. link y ∷ us) (links_set link ys i x now is same_link)

-- so it does with a message that waits at it
pub ends_set : {X E L : Type 0} (end : X → E) (link : E → L) (xs : List X) (i : ℕ) (x now : X) → slice_get xs i ≡ Some x → link (end now) ≡ link (end x) → map link (map end (slice_set xs i now)) ≡ map link (map end xs)
ends_set end link [] i x now is same_link = refl
ends_set end link (y ∷ ys) zero x now is same_link = ap (λ l. l ∷ map link (map end ys)) (same_link ∙ ap (λ z. link (end z)) (sym (same_Some y x is)))
ends_set end link (y ∷ ys) (suc i) x now is same_link = ap (λ us. link (end y) ∷ us) (ends_set end link ys i x now is same_link)
