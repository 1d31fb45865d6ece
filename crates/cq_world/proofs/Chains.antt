-- The order of the members of a chain, or of the servers of the extended chain, and of their histories.
use Rattle.std.proofs.Common.{◌≡◌, ℕ, ◌∙◌, ap, sym, List, [], ◌∷◌, ◌++◌, ◌&&◌, ◌⊎◌, not, Option, Some, None, Bool, true, false, cond, eqb, subst, refl, inl, inr}
use Rattle.std.proofs.lemmas.Bool.{eqb-true, eq-eqb, false≢true, both_ways, and_from, and_parts, or_cases, or_left, or_right, cases_Bool}
use Rattle.cq_base.specs.Relations.{Among, IsPrefix}
use Rattle.cq_chain.specs.Masters.{is_in, is_last, without, stands_before}
use Rattle.cq_world.proofs.Prefixes.Climbing.{climbs-top, ups}
use Rattle.cq_world.proofs.Eaches.{prefix-trans}
use Rattle.cq_world.proofs.Prefixes.{Prefixes, Linked, LinkedExtended}
use Rattle.cq_world.proofs.ExtendedChains.{in_left, member-extended, apart-members}
pub use Rattle.cq_world.proofs.ExtendedChains.{Apart}
use Rattle.cq_world.proofs.Views.{View, extended_of, extended}

-- ---- members

-- what is found is among them
pub among-in : (ids : List ℕ) (id : ℕ) → is_in ids id ≡ true → Among id ids
among-in [] id h = absurd (false≢true h)
among-in (x ∷ ids) id h = elim (or_cases (eqb x id) (is_in ids id) h) [ inl e ↦ inl (sym (eqb-true x id e)) | inr r ↦ inr (among-in ids id r) ]

-- who is apart from all of them isn't found
pub apart-out : (a : ℕ) (ids : List ℕ) → ((b : ℕ) → Among b ids → eqb a b ≡ false) → is_in ids a ≡ true → ⊥
apart-out a ids h member = both_ways (eqb a a) (h a (among-in ids a member)) (eq-eqb a a refl)

-- who is the last is a member
pub last-in : (ids : List ℕ) (id : ℕ) → is_last ids id ≡ true → is_in ids id ≡ true
last-in [] id h = absurd (false≢true h)
last-in (a ∷ []) id h = or_left (eqb a id) false h
last-in (a ∷ b ∷ rest) id h = or_right (eqb a id) (is_in (b ∷ rest) id) (last-in (b ∷ rest) id h)

-- there is one last
pub last-one : (ids : List ℕ) (x y : ℕ) → is_last ids x ≡ true → is_last ids y ≡ true → x ≡ y
last-one [] x y h k = absurd (false≢true h)
last-one (a ∷ []) x y h k = sym (eqb-true a x h) ∙ eqb-true a y k
last-one (a ∷ b ∷ rest) x y h k = last-one (b ∷ rest) x y h k

-- where there is a member there is a last one
pub last-some : (a : ℕ) (rest : List ℕ) → (x : ℕ) × (is_last (a ∷ rest) x ≡ true)
last-some a [] = (a, eq-eqb a a refl)
last-some a (b ∷ rest) = last-some b rest

-- the last stays the last behind others
pub last-behind : (a : ℕ) (rest : List ℕ) (x : ℕ) → is_last rest x ≡ true → is_last (a ∷ rest) x ≡ true
last-behind a [] x h = absurd (false≢true h)
last-behind a (b ∷ rest) x h = h

-- ---- neighbours

pub before-in : (p s : ℕ) (ids : List ℕ) → stands_before p s ids ≡ true → (is_in ids p ≡ true) × (is_in ids s ≡ true)
before-in p s [] h = absurd (false≢true h)
before-in p s (a ∷ []) h = absurd (false≢true h)
before-in p s (a ∷ b ∷ rest) h = elim (or_cases (eqb a p && eqb b s) (stands_before p s (b ∷ rest)) h) [
  | inl here ↦ let both = and_parts (eqb a p) (eqb b s) here in (or_left (eqb a p) (is_in (b ∷ rest) p) both.0, or_right (eqb a s) (is_in (b ∷ rest) s) (or_left (eqb b s) (is_in rest s) both.1))
  | inr later ↦ let both = before-in p s (b ∷ rest) later in (or_right (eqb a p) (is_in (b ∷ rest) p) both.0, or_right (eqb a s) (is_in (b ∷ rest) s) both.1)
]

-- behind others they are neighbours as before
pub before-behind : (p s a : ℕ) (rest : List ℕ) → stands_before p s rest ≡ true → stands_before p s (a ∷ rest) ≡ true
before-behind p s a [] h = absurd (false≢true h)
before-behind p s a (b ∷ rest) h = or_right (eqb a p && eqb b s) (stands_before p s (b ∷ rest)) h

-- the first two are neighbours
pub before-first : (p s a b : ℕ) (rest : List ℕ) → eqb a p ≡ true → eqb b s ≡ true → stands_before p s (a ∷ b ∷ rest) ≡ true
before-first p s a b rest h k = or_left (eqb a p && eqb b s) (stands_before p s (b ∷ rest)) (and_from (eqb a p) (eqb b s) h k)

-- numbers that are others
other_than : (a x d : ℕ) → eqb a x ≡ true → eqb x d ≡ false → eqb a d ≡ false
other_than a x d same other = subst (λ i. eqb i d ≡ false) (sym (eqb-true a x same)) other

-- without one
keeps_first : (d a : ℕ) (rest : List ℕ) → eqb a d ≡ false → without d (a ∷ rest) ≡ a ∷ without d rest
keeps_first d a rest other = ap (λ b. cond (not b) (a ∷ without d rest) (without d rest)) other

-- without a third one they are neighbours
pub before-without : (d p s : ℕ) (ids : List ℕ) → stands_before p s ids ≡ true → eqb p d ≡ false → eqb s d ≡ false → stands_before p s (without d ids) ≡ true
before-without d p s [] h k l = absurd (false≢true h)
before-without d p s (a ∷ []) h k l = absurd (false≢true h)
before-without d p s (a ∷ b ∷ rest) h k l = elim (or_cases (eqb a p && eqb b s) (stands_before p s (b ∷ rest)) h) [
  | inl here ↦ let both = and_parts (eqb a p) (eqb b s) here in
      subst (λ us. stands_before p s us ≡ true) (sym (keeps_first d a (b ∷ rest) (other_than a p d both.0 k) ∙ ap (λ us. a ∷ us) (keeps_first d b rest (other_than b s d both.1 l)))) (before-first p s a b (without d rest) both.0 both.1)
  | inr later ↦ go (eqb a d) (before-without d p s (b ∷ rest) later k l)
] where
  go : (t : Bool) → stands_before p s (without d (b ∷ rest)) ≡ true → stands_before p s (cond (not t) (a ∷ without d (b ∷ rest)) (without d (b ∷ rest))) ≡ true
  go true is = is
  go false is = before-behind p s a (without d (b ∷ rest)) is

-- with one more at the end they are
pub before-more : (p s x : ℕ) (ids : List ℕ) → stands_before p s ids ≡ true → stands_before p s (ids ++ x ∷ []) ≡ true
before-more p s x [] h = absurd (false≢true h)
before-more p s x (a ∷ []) h = absurd (false≢true h)
before-more p s x (a ∷ b ∷ rest) h = elim (or_cases (eqb a p && eqb b s) (stands_before p s (b ∷ rest)) h) [
  | inl here ↦ or_left (eqb a p && eqb b s) (stands_before p s ((b ∷ rest) ++ x ∷ [])) here
  | inr later ↦ or_right (eqb a p && eqb b s) (stands_before p s ((b ∷ rest) ++ x ∷ [])) (before-more p s x (b ∷ rest) later)
]

-- the last stands directly before one that is put behind it
pub before-end : (t x : ℕ) (ids : List ℕ) → is_last ids t ≡ true → stands_before t x (ids ++ x ∷ []) ≡ true
before-end t x [] h = absurd (false≢true h)
before-end t x (a ∷ []) h = before-first t x a x [] h (eq-eqb x x refl)
before-end t x (a ∷ b ∷ rest) h = or_right (eqb a t && eqb b x) (stands_before t x ((b ∷ rest) ++ x ∷ [])) (before-end t x (b ∷ rest) h)

-- who stands before another one isn't the last
pub before-last : (p s : ℕ) (ids : List ℕ) → Apart ids → stands_before p s ids ≡ true → is_last ids p ≡ true → ⊥
before-last p s [] apart h last = false≢true h
before-last p s (a ∷ []) apart h last = false≢true h
before-last p s (a ∷ b ∷ rest) apart h last = elim (or_cases (eqb a p && eqb b s) (stands_before p s (b ∷ rest)) h) [
  | inl here ↦ apart-out a (b ∷ rest) apart.0 (subst (λ i. is_in (b ∷ rest) i ≡ true) (sym (eqb-true a p (and_parts (eqb a p) (eqb b s) here).0)) (last-in (b ∷ rest) p last))
  | inr later ↦ before-last p s (b ∷ rest) apart.1 later last
]

-- ---- the last, after a change

-- where the last one stays, it is the last without another one
pub last-without : (d x : ℕ) (ids : List ℕ) → is_last ids x ≡ true → eqb x d ≡ false → is_last (without d ids) x ≡ true
last-without d x [] h k = absurd (false≢true h)
last-without d x (a ∷ []) h k = subst (λ us. is_last us x ≡ true) (sym (keeps_first d a [] (other_than a x d h k))) h
last-without d x (a ∷ b ∷ rest) h k = go (eqb a d) (last-without d x (b ∷ rest) h k) where
  go : (t : Bool) → is_last (without d (b ∷ rest)) x ≡ true → is_last (cond (not t) (a ∷ without d (b ∷ rest)) (without d (b ∷ rest))) x ≡ true
  go true is = is
  go false is = last-behind a (without d (b ∷ rest)) x is

-- where another one than the last is left out, the last stays the last
pub last-back : (d x : ℕ) (ids : List ℕ) → is_last ids d ≡ false → is_last (without d ids) x ≡ true → is_last ids x ≡ true
last-back d x [] h k = k
last-back d x (a ∷ us) h k =
    let top = last-some a us in
    subst (λ i. is_last (a ∷ us) i ≡ true) (last-one (without d (a ∷ us)) top.0 x (last-without d top.0 (a ∷ us) top.1 (other top.0 top.1 (eqb top.0 d) refl)) k) top.1 where
      other : (z : ℕ) → is_last (a ∷ us) z ≡ true → (t : Bool) → eqb z d ≡ t → t ≡ false
      other z top false e = refl
      other z top true e = absurd (both_ways (is_last (a ∷ us) d) h (subst (λ i. is_last (a ∷ us) i ≡ true) (eqb-true z d e) top))

-- with one more at the end, that is the last
pub last-end : (ids : List ℕ) (x : ℕ) → is_last (ids ++ x ∷ []) x ≡ true
last-end [] x = eq-eqb x x refl
last-end (a ∷ []) x = eq-eqb x x refl
last-end (a ∷ b ∷ rest) x = last-end (b ∷ rest) x

-- ---- the order

-- the first of two stands before the other one, be it directly or not
abbrev pub Before : ℕ → ℕ → List ℕ → Type 0
Before p s [] = ⊥
Before p s (a ∷ rest) = ((eqb a p ≡ true) × (is_in rest s ≡ true)) ⊎ Before p s rest

-- of two members one stands before the other
pub before-either : (ids : List ℕ) (p s : ℕ) → is_in ids p ≡ true → is_in ids s ≡ true → eqb p s ≡ false → Before p s ids ⊎ Before s p ids
before-either [] p s h k other = absurd (false≢true h)
before-either (a ∷ rest) p s h k other = elim (or_cases (eqb a p) (is_in rest p) h) [
  | inl e ↦ elim (or_cases (eqb a s) (is_in rest s) k) [
    | inl f ↦ absurd (both_ways (eqb p s) other (eq-eqb p s (sym (eqb-true a p e) ∙ eqb-true a s f)))
    | inr r ↦ inl (inl (e, r))
  ]
  | inr q ↦ elim (or_cases (eqb a s) (is_in rest s) k) [
    | inl f ↦ inr (inl (f, q))
    | inr r ↦ elim (before-either rest p s q r other) [ inl b ↦ inl (inr b) | inr b ↦ inr (inr b) ]
  ]
]

-- both are members
pub before-members : (ids : List ℕ) (p s : ℕ) → Before p s ids → is_in ids p ≡ true
before-members [] p s h = absurd h
before-members (a ∷ rest) p s (inl h) = or_left (eqb a p) (is_in rest p) h.0
before-members (a ∷ rest) p s (inr h) = or_right (eqb a p) (is_in rest p) (before-members rest p s h)

-- who stands before another one isn't the last
pub before-not-last : (ids : List ℕ) (p s : ℕ) → Apart ids → Before p s ids → is_last ids p ≡ false
before-not-last [] p s apart h = absurd h
before-not-last (a ∷ []) p s apart (inl h) = absurd (false≢true h.1)
before-not-last (a ∷ []) p s apart (inr h) = absurd h
before-not-last (a ∷ b ∷ rest) p s apart (inl h) = elim (cases_Bool (is_last (b ∷ rest) p)) [
  | inl last ↦ absurd (apart-out a (b ∷ rest) apart.0 (subst (λ i. is_in (b ∷ rest) i ≡ true) (sym (eqb-true a p h.0)) (last-in (b ∷ rest) p last)))
  | inr not_last ↦ not_last
]
before-not-last (a ∷ b ∷ rest) p s apart (inr h) = before-not-last (b ∷ rest) p s apart.1 h

-- behind the one directly before the last there is only the last
pub before-only : (ids : List ℕ) (p s z : ℕ) → Apart ids → stands_before p z ids ≡ true → is_last ids z ≡ true → Before p s ids → s ≡ z
before-only [] p s z apart h last b = absurd b
before-only (a ∷ []) p s z apart h last b = absurd (false≢true h)
before-only (a ∷ b ∷ rest) p s z apart h last (inl first) = elim (or_cases (eqb a p && eqb b z) (stands_before p z (b ∷ rest)) h) [
  | inl here ↦ alone rest (eqb-true b z (and_parts (eqb a p) (eqb b z) here).1) last apart.1.0 first.1
  | inr later ↦ absurd (apart-out a (b ∷ rest) apart.0 (subst (λ i. is_in (b ∷ rest) i ≡ true) (sym (eqb-true a p first.0)) (before-in p z (b ∷ rest) later).0))
] where
  alone : (us : List ℕ) → b ≡ z → is_last (b ∷ us) z ≡ true → ((c : ℕ) → Among c us → eqb b c ≡ false) → is_in (b ∷ us) s ≡ true → s ≡ z
  alone [] is l out there = elim (or_cases (eqb b s) false there) [ inl e ↦ sym (eqb-true b s e) ∙ is | inr none ↦ absurd (false≢true none) ]
  alone (c ∷ us) is l out there = absurd (apart-out b (c ∷ us) out (subst (λ i. is_in (c ∷ us) i ≡ true) (sym is) (last-in (c ∷ us) z l)))
before-only (a ∷ b ∷ rest) p s z apart h last (inr later) = elim (or_cases (eqb a p && eqb b z) (stands_before p z (b ∷ rest)) h) [
  | inl here ↦ absurd (apart-out a (b ∷ rest) apart.0 (subst (λ i. is_in (b ∷ rest) i ≡ true) (sym (eqb-true a p (and_parts (eqb a p) (eqb b z) here).0)) (before-members (b ∷ rest) p s later)))
  | inr on ↦ before-only (b ∷ rest) p s z apart.1 on last later
]

-- ---- histories

-- the history of each behind a member is a prefix of that member's
below_first : (v : View) (a : ℕ) (rest : List ℕ) (s : ℕ) → Prefixes v → Linked v a rest → is_in rest s ≡ true → IsPrefix (v.server s).entries (v.server a).entries
below_first v a [] s h l member = absurd (false≢true member)
below_first v a (b ∷ rest) s h l member = let next = climbs-top v.server b (ups v b) a (h.climbs b) l.0 in elim (or_cases (eqb b s) (is_in rest s) member) [
  | inl e ↦ subst (λ i. IsPrefix (v.server i).entries (v.server a).entries) (eqb-true b s e) next
  | inr r ↦ prefix-trans (v.server s).entries (v.server b).entries (v.server a).entries (below_first v b rest s h l.1 r) next
]

below_linked : (v : View) (a : ℕ) (rest : List ℕ) (p s : ℕ) → Prefixes v → Linked v a rest → Before p s (a ∷ rest) → IsPrefix (v.server s).entries (v.server p).entries
below_linked v a rest p s h l (inl first) = subst (λ i. IsPrefix (v.server s).entries (v.server i).entries) (eqb-true a p first.0) (below_first v a rest s h l first.1)
below_linked v a [] p s h l (inr later) = absurd later
below_linked v a (b ∷ rest) p s h l (inr later) = below_linked v b rest p s h l.1 later

-- The history of a server of the extended chain is a prefix of that of each before it, and so along the chain.
pub extended-order : (v : View) (p s : ℕ) → Prefixes v → Before p s (extended v.master) → IsPrefix (v.server s).entries (v.server p).entries
extended-order v p s h before = go (extended v.master) h.linked before where
  go : (ids : List ℕ) → LinkedExtended v ids → Before p s ids → IsPrefix (v.server s).entries (v.server p).entries
  go [] l b = absurd b
  go (a ∷ rest) l b = below_linked v a rest p s h l b

-- what stands before another one in the chain does so in the extended chain
pub before-prefix : (ids : List ℕ) (o : Option ℕ) (p s : ℕ) → Before p s ids → Before p s (extended_of ids o)
before-prefix ids None p s h = h
before-prefix [] (Some j) p s h = absurd h
before-prefix (a ∷ rest) (Some j) p s (inl first) = inl (first.0, in_left rest j s first.1)
before-prefix (a ∷ rest) (Some j) p s (inr later) = inr (before-prefix rest (Some j) p s later)

pub chain-order : (v : View) (p s : ℕ) → Prefixes v → Before p s v.master.chain → IsPrefix (v.server s).entries (v.server p).entries
chain-order v p s h before = extended-order v p s h (before-prefix v.master.chain v.master.joiner p s before)

-- the members are apart, and have been used
pub chain-apart : (v : View) → Prefixes v → Apart v.master.chain
chain-apart v h = apart-members v.master.chain v.master.joiner h.apart

pub chain-used : (v : View) (id : ℕ) → Prefixes v → is_in v.master.chain id ≡ true → is_in v.master.used id ≡ true
chain-used v id h member = h.members id (member-extended v.master.chain v.master.joiner id member)
