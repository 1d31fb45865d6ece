-- Elements of lists: at places, among others, and in lists that are joined or left out of.
use Rattle.std.proofs.Common.{◌≡◌, ◌<◌, ◌≤◌, ℕ, zero, suc, arith, ap, sym, refl, subst, cond, inl, inr, List, [], ◌∷◌, length, map, slice_get, Bool, true, false, Some, None}
use Rattle.std.specs.List.{flat_map}
use Rattle.std.proofs.lemmas.Option.{same_Some, none-some}
use Rattle.cq_base.specs.Relations.{Among, IsPrefix}
use Rattle.cq_base.proofs.Among.{among-append, among-left, among-right}
use Rattle.cq_chain.specs.declared.message.Message.{Message}
use Rattle.cq_nodes.specs.Ends.{is_for_second, if_for, of_client}
use Rattle.cq_nodes.specs.Moves.{Part}

-- ---- at places

pub place_of : {X : Type 0} (x : X) (xs : List X) → Among x xs → (i : ℕ) × (slice_get xs i ≡ Some x)
place_of x [] h = absurd h
place_of x (y ∷ xs) (inl e) = (zero, ap Some (sym e))
place_of x (y ∷ xs) (inr h) = let r = place_of x xs h in (suc r.0, r.1)

pub among_at : {X : Type 0} (xs : List X) (i : ℕ) (x : X) → slice_get xs i ≡ Some x → Among x xs
among_at [] i x is = absurd (none-some x is)
among_at (y ∷ xs) zero x is = inl (sym (same_Some y x is))
among_at (y ∷ xs) (suc i) x is = inr (among_at xs i x is)

pub item_at : {X : Type 0} (xs : List X) (i : ℕ) → i < length xs → (x : X) × (slice_get xs i ≡ Some x)
item_at [] i below = absurd (omega arith)
item_at (x ∷ xs) zero below = (x, refl)
item_at (x ∷ xs) (suc i) below = item_at xs i (omega arith)

pub past_end : {X : Type 0} (xs : List X) (i : ℕ) → slice_get xs i ≡ None → length xs ≤ i
past_end [] i none = omega arith
past_end (x ∷ xs) zero none = absurd (none-some x (sym none))
past_end (x ∷ xs) (suc i) none = let h : length xs ≤ i = past_end xs i none in omega arith

pub image_at : {X Y : Type 0} (f : X → Y) (xs : List X) (i : ℕ) (x : X) → slice_get xs i ≡ Some x → slice_get (map f xs) i ≡ Some (f x)
image_at f [] i x is = absurd (none-some x is)
image_at f (y ∷ xs) zero x is = ap (λ z. Some (f z)) (same_Some y x is)
image_at f (y ∷ xs) (suc i) x is = image_at f xs i x is

-- ---- among

pub among_flat : {X Y : Type 0} (f : X → List Y) (x : X) (xs : List X) (y : Y) → Among x xs → Among y (f x) → Among y (flat_map f xs)
among_flat f x [] y h there = absurd h
among_flat f x (z ∷ xs) y (inl e) there = among-left y (f z) (flat_map f xs) (subst (λ w. Among y (f w)) e there)
among_flat f x (z ∷ xs) y (inr h) there = among-right y (f z) (flat_map f xs) (among_flat f x xs y h there)

pub among_prefix : {X : Type 0} (x : X) (xs ys : List X) → IsPrefix xs ys → Among x xs → Among x ys
among_prefix x xs ys prefix h = subst (Among x) (sym prefix.1) (among-left x xs prefix.0 h)

pub among_part : {X : Type 0} (x : X) (xs ys : List X) → Part xs ys → Among x xs → Among x ys
among_part x [] ys part h = absurd h
among_part x (y ∷ xs) [] part h = absurd part
among_part x (y ∷ xs) (z ∷ ys) (inl part) (inl e) = inl (subst (λ w. x ≡ w) part.0 e)
among_part x (y ∷ xs) (z ∷ ys) (inl part) (inr h) = inr (among_part x xs ys part.1 h)
among_part x (y ∷ xs) (z ∷ ys) (inr part) h = inr (among_part x (y ∷ xs) ys part h)

-- what goes to one of the clients is of what goes to the clients
pub among_clients : (second : Bool) (m : Message) (xs : List Message) → Among m (of_client second xs) → Among m xs
among_clients second m [] h = absurd h
among_clients second m (x ∷ xs) h = elim (among-append m (if_for second x) (of_client second xs) h) [ inl l ↦ inl (its second l) | inr r ↦ inr (among_clients second m xs r) ] where
  chosen : (t : Bool) → Among m (cond t (x ∷ []) []) → m ≡ x
  chosen true (inl e) = e
  chosen true (inr none) = absurd none
  chosen false none = absurd none

  left : (t : Bool) → Among m (cond t [] (x ∷ [])) → m ≡ x
  left true none = absurd none
  left false (inl e) = e
  left false (inr none) = absurd none

  its : (to : Bool) → Among m (if_for to x) → m ≡ x
  its true l = chosen (is_for_second x) l
  its false l = left (is_for_second x) l
