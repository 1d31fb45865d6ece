-- Items that an iterator has left, and what holds of each item of a list that gets one more.
use Rattle.std.proofs.Common.{◌≡◌, ℕ, zero, suc, ◌∙◌, ap, sym, subst, List, [], ◌∷◌, ◌++◌, slice_get, Some, None, Global}
use Rattle.std.proofs.lemmas.List.{append_assoc, append-nil, nil_from_length}
use Rattle.std.proofs.lemmas.Option.{same_Some, none-some}
use Rattle.std.specs.declared.vec.IntoIter.{IntoIter}
use Rattle.std.specs.Vec.Iter.{into_iter_items, into_iter_steps}

module _ {X : Type 0} where
  pub one_taken : (it after : IntoIter X Global) (x : X) → into_iter_steps it (Some x) after → into_iter_items it ≡ x ∷ into_iter_items after
  one_taken it after x steps = steps.0

  pub none_left : (it after : IntoIter X Global) → into_iter_steps it None after → into_iter_items it ≡ []
  none_left it after steps = nil_from_length (into_iter_items it) (sym it.rest.ok.0 ∙ steps.0)

  -- what is done and what is left is still all
  pub one_done : (done left after all : List X) (x : X) → done ++ left ≡ all → left ≡ x ∷ after → (done ++ x ∷ []) ++ after ≡ all
  one_done done left after all x before next = append_assoc done (x ∷ []) after ∙ ap (λ ys. done ++ ys) (sym next) ∙ before

  pub all_done : (done left all : List X) → done ++ left ≡ all → left ≡ [] → done ≡ all
  all_done done left all before none = sym (append-nil done) ∙ ap (λ ys. done ++ ys) (sym none) ∙ before

  pub each_push : (Q : X → Type 0) (xs : List X) (x : X) → ((i : ℕ) (y : X) → slice_get xs i ≡ Some y → Q y) → Q x → (i : ℕ) (y : X) → slice_get (xs ++ x ∷ []) i ≡ Some y → Q y
  each_push Q [] x all here zero y is = subst Q (same_Some x y is) here
  each_push Q [] x all here (suc i) y is = absurd (none-some y is)
  each_push Q (z ∷ xs) x all here zero y is = all zero y is
  each_push Q (z ∷ xs) x all here (suc i) y is = each_push Q xs x (λ k. all (suc k)) here i y is
