-- Lists of actions, and what is left of them after the first action of one party.
use Rattle.std.proofs.Common.{◌≡◌, ◌∙◌, ap, sym, refl, cond, List, [], ◌∷◌, ◌++◌, map, Bool, true, false}
use Rattle.cq_base.specs.declared.party.Party.{Party}
use Rattle.cq_chain.specs.Parties.{same}
use Rattle.cq_events.specs.Actions.{Action, put_in, taken_in, put_to, taken_from}
use Rattle.cq_events.specs.declared.event.Event.{Event}
use Rattle.cq_world.proofs.Eaches.{cons_nil}
use Rattle.cq_events.proofs.Parties.{same-true}

-- what is left to do, after a party did the first of it
abbrev pub left : (Party → List Action) → Party → List Action → Party → List Action
left actions p rest q = cond (same q p) rest (actions q)

-- the first event of a party is its first action
pub first_action : (f : Action → Event) (actions : List Action) (event : Event) (rest : List Event) → event ∷ rest ≡ map f actions → (d : Action) × (ds : List Action) × (actions ≡ d ∷ ds) × (event ≡ f d) × (rest ≡ map f ds)
first_action f [] event rest h = absurd (cons_nil event rest h)
first_action f (d ∷ ds) event rest h = (d, ds, refl, heads_same h, tails_same h) where
  heads_same : {A : Type 0} {x y : A} {xs ys : List A} → x ∷ xs ≡ y ∷ ys → x ≡ y
  heads_same e = cc

  tails_same : {A : Type 0} {x y : A} {xs ys : List A} → x ∷ xs ≡ y ∷ ys → xs ≡ ys
  tails_same e = cc

-- who has no event did nothing
pub no_actions : (f : Action → Event) (actions : List Action) → [] ≡ map f actions → actions ≡ []
no_actions f [] h = refl
no_actions f (d ∷ ds) h = absurd (cons_nil (f d) (map f ds) (sym h))

-- what is put from now on, by the first action and by those after it
pub put_left : (actions : Party → List Action) (p : Party) (d : Action) (rest : List Action) → actions p ≡ d ∷ rest → (to q : Party) → put_to to (actions q) ≡ cond (same q p) (put_in to d) [] ++ put_to to (left actions p rest q)
put_left actions p d rest is to q = go (same q p) refl where
  go : (t : Bool) → same q p ≡ t → put_to to (actions q) ≡ cond t (put_in to d) [] ++ put_to to (cond t rest (actions q))
  go true e = ap (λ r. put_to to (actions r)) (same-true q p e) ∙ ap (put_to to) is
  go false e = refl

-- what is taken, likewise
pub taken_left : (actions : Party → List Action) (p : Party) (d : Action) (rest : List Action) → actions p ≡ d ∷ rest → (from q : Party) → taken_from from (actions q) ≡ cond (same q p) (taken_in from d) [] ++ taken_from from (left actions p rest q)
taken_left actions p d rest is from q = go (same q p) refl where
  go : (t : Bool) → same q p ≡ t → taken_from from (actions q) ≡ cond t (taken_in from d) [] ++ taken_from from (cond t rest (actions q))
  go true e = ap (λ r. taken_from from (actions r)) (same-true q p e) ∙ ap (taken_from from) is
  go false e = refl
