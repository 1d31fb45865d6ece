-- What is taken from a link is a prefix of what stands in it and is put on it, after one action more.
use Rattle.std.proofs.Common.{◌≡◌, ◌∙◌, ap, sym, refl, subst, cond, List, [], ◌∷◌, ◌++◌, drop, append_assoc, Bool, true, false, ◌&&◌}
use Rattle.cq_base.specs.declared.party.Party.{Party}
use Rattle.cq_base.specs.declared.party.Party.TheVariants as parties
use Rattle.cq_base.specs.Relations.{IsPrefix}
use Rattle.cq_chain.specs.declared.message.Message as rust
use Rattle.cq_chain.specs.Parties.{same}
use Rattle.cq_events.specs.Actions.{Action, Put, Took, put_in, taken_in, put_to, taken_from}
use Rattle.cq_events.specs.Worlds.{World, set_pair}
use Rattle.cq_events.proofs.Parties.{same-true, same-refl}
use Rattle.cq_trace.proofs.OfLaws.ActionLists.{left, put_left, taken_left}
use Rattle.cq_trace.proofs.OfLaws.Casts.{Cast}

-- no messages, of kept ones
abbrev pub no_message : List rust.Message
no_message = []

-- nothing, whatever is tested
pub nothing : (t : Bool) → cond t no_message no_message ≡ no_message
nothing true = refl
nothing false = refl

-- equal lists begin with the same
pub cons_same : {A : Type 0} {x y : A} {xs ys : List A} → x ∷ xs ≡ y ∷ ys → x ≡ y
cons_same e = cc

-- and go on with the same
rest_same : {A : Type 0} {x y : A} {xs ys : List A} → x ∷ xs ≡ y ∷ ys → xs ≡ ys
rest_same e = cc

-- the law of a link, with the first action told apart
open_law : (w : World) (actions : Party → List Action) (link : Party → Party → List rust.Message) (p : Party) (d : Action) (rest : List Action) → Cast w actions link → actions p ≡ d ∷ rest → (x y : Party)
    → IsPrefix (cond (same y p) (taken_in x d) [] ++ taken_from x (left actions p rest y)) (link x y ++ (cond (same x p) (put_in y d) [] ++ put_to y (left actions p rest x)))
open_law w actions link p d rest cast is x y = subst (λ us. IsPrefix us (link x y ++ (cond (same x p) (put_in y d) [] ++ put_to y (left actions p rest x)))) (taken_left actions p d rest is x y)
    (subst (λ us. IsPrefix (taken_from x (actions y)) (link x y ++ us)) (put_left actions p d rest is y x) (cast.law x y))

-- where the action takes nothing
no_taken : (us T ys : List rust.Message) (t : Bool) → us ≡ [] → IsPrefix (cond t us [] ++ T) ys → IsPrefix T ys
no_taken us T ys t none h = subst (λ zs. IsPrefix (zs ++ T) ys) (ap (λ u. cond t u []) none ∙ nothing t) h

-- where it puts nothing
no_put : (us T L P : List rust.Message) (t : Bool) → us ≡ [] → IsPrefix T (L ++ (cond t us [] ++ P)) → IsPrefix T (L ++ P)
no_put us T L P t none h = subst (λ zs. IsPrefix T (L ++ (zs ++ P))) (ap (λ u. cond t u []) none ∙ nothing t) h

-- an action that moves no message
pub still_law : (w : World) (actions : Party → List Action) (link : Party → Party → List rust.Message) (p : Party) (d : Action) (rest : List Action) → Cast w actions link → actions p ≡ d ∷ rest
    → ((x : Party) → taken_in x d ≡ []) → ((y : Party) → put_in y d ≡ []) → (x y : Party) → IsPrefix (taken_from x (left actions p rest y)) (link x y ++ put_to y (left actions p rest x))
still_law w actions link p d rest cast is taken put x y = no_put (put_in y d) (taken_from x (left actions p rest y)) (link x y) (put_to y (left actions p rest x)) (same x p) (put y)
    (no_taken (taken_in x d) (taken_from x (left actions p rest y)) _ (same y p) (taken x) (open_law w actions link p d rest cast is x y))

-- a put on a link
pub put_law : (w : World) (actions : Party → List Action) (link : Party → Party → List rust.Message) (p to : Party) (m : rust.Message) (rest : List Action) → Cast w actions link → actions p ≡ Put to m ∷ rest
    → (x y : Party) → IsPrefix (taken_from x (left actions p rest y)) (set_pair link p to (link p to ++ m ∷ []) x y ++ put_to y (left actions p rest x))
put_law w actions link p to m rest cast is x y = go (same x p) (same y to) refl refl (no_taken [] (taken_from x (left actions p rest y)) _ (same y p) refl (open_law w actions link p (Put to m) rest cast is x y)) where
  go : (s t : Bool) → same x p ≡ s → same y to ≡ t → IsPrefix (taken_from x (left actions p rest y)) (link x y ++ (cond s (cond t (m ∷ []) []) [] ++ put_to y (left actions p rest x)))
      → IsPrefix (taken_from x (left actions p rest y)) (cond (s && t) (link p to ++ m ∷ []) (link x y) ++ put_to y (left actions p rest x))
  go true true e f h = subst (λ us. IsPrefix (taken_from x (left actions p rest y)) us)
      (ap (λ ls. ls ++ (m ∷ put_to y (left actions p rest x))) (ap (λ a. link a y) (same-true x p e) ∙ ap (λ b. link p b) (same-true y to f)) ∙ sym (append_assoc (link p to) (m ∷ []) (put_to y (left actions p rest x)))) h
  go true false e f h = h
  go false t e f h = h

-- a put to the clients, who take nothing from a link
pub given_law : (w : World) (actions : Party → List Action) (link : Party → Party → List rust.Message) (p : Party) (m : rust.Message) (rest : List Action) → Cast w actions link → actions p ≡ Put parties.Clients m ∷ rest → same parties.Clients p ≡ false
    → (x y : Party) → IsPrefix (taken_from x (left actions p rest y)) (link x y ++ put_to y (left actions p rest x))
given_law w actions link p m rest cast is other x parties.Clients = subst (λ ds. IsPrefix (taken_from x ds) (link x parties.Clients ++ put_to parties.Clients (left actions p rest x))) (sym (ap (λ t. cond t rest (actions parties.Clients)) other ∙ cast.lived parties.Clients))
    (link x parties.Clients ++ put_to parties.Clients (left actions p rest x), refl)
given_law w actions link p m rest cast is other x parties.Master = given_to_other parties.Master refl where
  given_to_other : (y : Party) → same y parties.Clients ≡ false → IsPrefix (taken_from x (left actions p rest y)) (link x y ++ put_to y (left actions p rest x))
  given_to_other y differs = no_put (put_in y (Put parties.Clients m)) _ (link x y) (put_to y (left actions p rest x)) (same x p) (ap (λ t. cond t (m ∷ []) []) differs) (no_taken [] _ _ (same y p) refl (open_law w actions link p (Put parties.Clients m) rest cast is x y))
given_law w actions link p m rest cast is other x (parties.Server j) = given_to_other (parties.Server j) refl where
  given_to_other : (y : Party) → same y parties.Clients ≡ false → IsPrefix (taken_from x (left actions p rest y)) (link x y ++ put_to y (left actions p rest x))
  given_to_other y differs = no_put (put_in y (Put parties.Clients m)) _ (link x y) (put_to y (left actions p rest x)) (same x p) (ap (λ t. cond t (m ∷ []) []) differs) (no_taken [] _ _ (same y p) refl (open_law w actions link p (Put parties.Clients m) rest cast is x y))

-- a take from a link
pub take_law : (w : World) (actions : Party → List Action) (link : Party → Party → List rust.Message) (p from : Party) (m first : rust.Message) (rest : List Action) (ls : List rust.Message) → Cast w actions link → actions p ≡ Took from m ∷ rest
    → link from p ≡ first ∷ ls → (x y : Party) → IsPrefix (taken_from x (left actions p rest y)) (set_pair link from p (drop 1 (link from p)) x y ++ put_to y (left actions p rest x))
take_law w actions link p from m first rest ls cast is at x y = go (same x from) (same y p) refl refl (no_put [] _ (link x y) (put_to y (left actions p rest x)) (same x p) refl (open_law w actions link p (Took from m) rest cast is x y)) where
  go : (s t : Bool) → same x from ≡ s → same y p ≡ t → IsPrefix (cond t (cond s (m ∷ []) []) [] ++ taken_from x (left actions p rest y)) (link x y ++ put_to y (left actions p rest x))
      → IsPrefix (taken_from x (left actions p rest y)) (cond (s && t) (drop 1 (link from p)) (link x y) ++ put_to y (left actions p rest x))
  go true true e f h = (
    h.0,
    ap (λ us. drop 1 us ++ put_to y (left actions p rest x)) at
        ∙ rest_same (ap (λ us. us ++ put_to y (left actions p rest x)) (sym at ∙ sym (ap (λ a. link a y) (same-true x from e) ∙ ap (λ b. link from b) (same-true y p f))) ∙ h.1),
  )
  go false true e f h = h
  go true false e f h = h
  go false false e f h = h

-- what is taken is what stands first in the link
pub same_first : (w : World) (actions : Party → List Action) (link : Party → Party → List rust.Message) (p from : Party) (m first : rust.Message) (rest : List Action) (ls : List rust.Message) → Cast w actions link → actions p ≡ Took from m ∷ rest
    → link from p ≡ first ∷ ls → first ≡ m
same_first w actions link p from m first rest ls cast is at =
    let law = cast.law from p in
    let taken : taken_from from (actions p) ≡ m ∷ taken_from from rest = ap (taken_from from) is ∙ ap (λ t. cond t (m ∷ []) [] ++ taken_from from rest) (same-refl from) in
    cons_same (ap (λ us. us ++ put_to p (actions from)) (sym at) ∙ law.1 ∙ ap (λ us. us ++ law.0) taken)
