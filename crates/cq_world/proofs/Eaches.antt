-- What holds of each element of a list.
use Rattle.std.proofs.Common.{◌≡◌, ℕ, ◌∙◌, ap, sym, List, [], ◌∷◌, ◌++◌, length, drop, take, Option, Some, None, Bool, true, false, cond, eqb, inl, inr, subst, refl, append-nil, append_assoc}
use Rattle.std.proofs.Math.Seq.{take-append_seam}
use Rattle.std.proofs.lemmas.Bool.{eqb-true}
use Rattle.cq_base.specs.declared.party.Party.{Party}
use Rattle.cq_base.specs.declared.party.Party.TheVariants as parties
use Rattle.cq_base.specs.Relations.{Among, IsPrefix}
use Rattle.cq_chain.specs.Messages.{Message}
use Rattle.cq_chain.specs.Parties.{same, addressed}
use Rattle.cq_chain.specs.Steps.{to_server, when}

-- P holds of each
abbrev pub Each : {X : Type 0} → (X → Type 0) → List X → Type 0
Each P [] = Unit {0}
Each P (x ∷ xs) = P x × Each P xs

-- of two lists joined
pub each-append : {X : Type 0} (P : X → Type 0) (xs ys : List X) → Each P xs → Each P ys → Each P (xs ++ ys)
each-append P [] ys h k = k
each-append P (x ∷ xs) ys h k = (h.0, each-append P xs ys h.1 k)

-- what follows from it
pub each-follows : {X : Type 0} (P Q : X → Type 0) (xs : List X) → ((x : X) → P x → Q x) → Each P xs → Each Q xs
each-follows P Q [] follows h = tt
each-follows P Q (x ∷ xs) follows h = (follows x h.0, each-follows P Q xs follows h.1)

-- without the first
pub each-drop : {X : Type 0} (P : X → Type 0) (xs : List X) → Each P xs → Each P (drop 1 xs)
each-drop P [] h = tt
each-drop P (x ∷ xs) h = h.1

-- of one of them
pub each-among : {X : Type 0} (P : X → Type 0) (x : X) (xs : List X) → Each P xs → Among x xs → P x
each-among P x [] h m = absurd m
each-among P x (y ∷ ys) h (inl e) = subst P (sym e) h.0
each-among P x (y ∷ ys) h (inr m) = each-among P x ys h.1 m

-- of what is there if that is so
pub each-when : {X : Type 0} (P : X → Type 0) (b : Bool) (xs : List X) → (b ≡ true → Each P xs) → Each P (when b xs)
each-when P true xs h = h refl
each-when P false xs h = tt

-- of what is sent to a server, if there is one
pub each-to_server : (P : Party × Message → Type 0) (to : Option ℕ) (m : Message) → ((id : ℕ) → P (parties.Server id, m)) → Each P (to_server to m)
each-to_server P None m h = tt
each-to_server P (Some id) m h = (h id, tt)

each_addressed : {M : Type 0} (b : Bool) (P : M → Type 0) (m : M) (ms : List M) → P m → Each P ms → Each P (cond b (m ∷ ms) ms)
each_addressed true P m ms h k = (h, k)
each_addressed false P m ms h k = k

-- of what is for one party, if it holds of all messages that are sent
pub each-addressed : {M : Type 0} (P : M → Type 0) (to : Party) (sent : List (Party × M)) → Each (λ x. P x.1) sent → Each P (addressed to sent)
each-addressed P to [] h = tt
each-addressed P to (x ∷ xs) h = each_addressed (same to x.0) P x.1 (addressed to xs) h.0 (each-addressed P to xs h.1)

-- something isn't nothing
pub some_none : {X : Type 0} (x : X) → Some x ≡ None → ⊥
some_none x h = cc

-- a list that has an element isn't empty
pub cons_nil : {X : Type 0} (x : X) (xs : List X) → x ∷ xs ≡ [] → ⊥
cons_nil x xs h = cc

-- a function that is the same but at one number
pub by_id : {A : Type 0} (P : ℕ → A → Type 0) (f : ℕ → A) (k : ℕ) (a : A) → P k a → ((j : ℕ) → P j (f j)) → (j : ℕ) → P j (cond (eqb j k) a (f j))
by_id P f k a own others j = go (eqb j k) refl where
  go : (t : Bool) → eqb j k ≡ t → P j (cond t a (f j))
  go true e = subst (λ i. P i a) (sym (eqb-true j k e)) own
  go false e = others j

-- a prefix of a prefix is one
pub prefix-trans : {X : Type 0} (xs ys zs : List X) → IsPrefix xs ys → IsPrefix ys zs → IsPrefix xs zs
prefix-trans xs ys zs h k = (h.0 ++ k.0, k.1 ∙ ap (λ us. us ++ k.0) h.1 ∙ append_assoc xs h.0 k.0)

-- a list is a prefix of itself
pub prefix-refl : {X : Type 0} (xs : List X) → IsPrefix xs xs
prefix-refl xs = ([], sym (append-nil xs))

-- an empty list is a prefix of each
pub prefix-none : {X : Type 0} (xs ys : List X) → xs ≡ [] → IsPrefix xs ys
prefix-none xs ys e = (ys, sym (ap (λ us. us ++ ys) e))

-- with more at its end
pub prefix-more : {X : Type 0} (xs ys : List X) → IsPrefix xs (xs ++ ys)
prefix-more xs ys = (ys, refl)

-- a prefix of a list, with the element that comes next there
pub prefix-next : {X : Type 0} (xs zs before rest : List X) (x : X) → IsPrefix xs zs → zs ≡ before ++ (x ∷ rest) → length before ≡ length xs → IsPrefix (xs ++ x ∷ []) zs
prefix-next xs zs before rest x h split long = (rest, split ∙ ap (λ us. us ++ (x ∷ rest)) same_prefix ∙ sym (append_assoc xs (x ∷ []) rest)) where
  same_prefix : before ≡ xs
  same_prefix = sym (take-append_seam before (x ∷ rest)) ∙ ap (λ us. take (length before) us) (sym split ∙ h.1) ∙ ap (λ n. take n (xs ++ h.0)) long ∙ take-append_seam xs h.0
