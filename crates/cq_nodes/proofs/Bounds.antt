-- What a server's node may do, and which requests arrived, after one more action.
use Rattle.std.proofs.Common.{◌≡◌, ℕ, ◌∙◌, ◌⊎◌, ap, sym, refl, subst, inl, inr, List, [], ◌∷◌, ◌++◌, append_assoc, Bool, true, Option}
use Rattle.cq_base.proofs.Among.{among-append}
use Rattle.cq_base.specs.declared.ask.Request.{Request}
use Rattle.cq_base.specs.Relations.{Among}
use Rattle.cq_nodes.specs.Moves.{Part}
use Rattle.cq_nodes.specs.Nodes.{IsBound, MayDo, request_in, requests_in}
use Rattle.cq_events.specs.Actions.{Action, Arrived, Asked, Put, Took, Crashed, Detected, Joined}

-- a list of which something is left out, with one element more
pub part_end : {X : Type 0} (xs ys : List X) (y : X) → Part xs ys → Part xs (ys ++ y ∷ [])
part_end [] ys y h = tt
part_end (x ∷ xs) [] y h = absurd h
part_end (x ∷ xs) (z ∷ zs) y (inl h) = inl (h.0, part_end xs zs y h.1)
part_end (x ∷ xs) (z ∷ zs) y (inr h) = inr (part_end (x ∷ xs) zs y h)

pub part_both : {X : Type 0} (xs ys : List X) (y : X) → Part xs ys → Part (xs ++ y ∷ []) (ys ++ y ∷ [])
part_both [] [] y h = inl (refl, tt)
part_both [] (z ∷ zs) y h = inr (part_both [] zs y tt)
part_both (x ∷ xs) [] y h = absurd h
part_both (x ∷ xs) (z ∷ zs) y (inl h) = inl (h.0, part_both xs zs y h.1)
part_both (x ∷ xs) (z ∷ zs) y (inr h) = inr (part_both (x ∷ xs) zs y h)

requests_more : (actions : List Action) (d : Action) → requests_in (actions ++ d ∷ []) ≡ requests_in actions ++ request_in d
requests_more [] d = none (request_in d) where
  none : (xs : List Request) → xs ++ [] ≡ xs
  none [] = refl
  none (x ∷ xs) = ap (λ us. x ∷ us) (none xs)
requests_more (e ∷ es) d = ap (λ us. request_in e ++ us) (requests_more es d) ∙ sym (append_assoc (request_in e) (requests_in es) (request_in d))

-- with one action more
pub bound_more : (due : Option ℕ) (starved : Bool) (taken longer : List Request) (actions : List Action) (d : Action) → IsBound due starved taken actions → MayDo due starved d
    → Part (requests_in actions ++ request_in d) longer → IsBound due starved longer (actions ++ d ∷ [])
bound_more due starved taken longer actions d h may part = record {
  may = λ e there. either e (among-append e actions (d ∷ []) there);
  arrived = subst (λ us. Part us longer) (sym (requests_more actions d)) part;
} where
  either : (e : Action) → Among e actions ⊎ Among e (d ∷ []) → MayDo due starved e
  either e (inl before) = h.may e before
  either e (inr (inl is)) = subst (MayDo due starved) (sym is) may
  either e (inr (inr nothing)) = absurd nothing

-- what a node may do, it may do without memory
may_starve : (due : Option ℕ) (starved : Bool) (d : Action) → MayDo due starved d → MayDo due true d
may_starve due starved (Arrived clock request) h = tt
may_starve due starved (Asked query) h = h
may_starve due starved (Put to x) h = tt
may_starve due starved (Took from x) h = tt
may_starve due starved (Crashed count) (inl h) = inl h
may_starve due starved (Crashed count) (inr h) = inr refl
may_starve due starved (Detected id) h = tt
may_starve due starved (Joined id) h = tt

pub bound_starved : (due : Option ℕ) (starved : Bool) (taken : List Request) (actions : List Action) → IsBound due starved taken actions → IsBound due true taken actions
bound_starved due starved taken actions h = record { may = λ d there. may_starve due starved d (h.may d there); arrived = h.arrived }
