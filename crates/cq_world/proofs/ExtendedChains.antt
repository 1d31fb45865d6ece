-- The extended chain: the members of the chain, and behind them the server that joins, if there is one.
use Rattle.std.proofs.Common.{◌≡◌, ℕ, ◌∙◌, ap, sym, List, [], ◌∷◌, ◌++◌, ◌&&◌, ◌||◌, ◌⊎◌, Option, Some, None, Bool, true, false, eqb, refl, inl, inr, subst}
use Rattle.std.proofs.lemmas.Bool.{eqb-true, eq-eqb, false≢true, both_ways, cases_Bool, and_right, or_cases, or_left, or_right, or_parts}
use Rattle.cq_base.specs.Relations.{Pairwise}
use Rattle.cq_base.proofs.Among.{among-left, among-right}
use Rattle.cq_chain.specs.Masters.{is_in, is_last, stands_before}
use Rattle.cq_chain.specs.Parties.{is_that}
use Rattle.cq_world.proofs.Views.{extended_of}

-- the numbers are all different
abbrev pub Apart : List ℕ → Type 0
Apart ids = Pairwise (λ a b. eqb a b ≡ false) ids

-- ---- one more at the end

-- who is among more is among these, or is the one more
pub in_more : (ids : List ℕ) (id j : ℕ) → is_in (ids ++ id ∷ []) j ≡ true → (is_in ids j ≡ true) ⊎ (eqb id j ≡ true)
in_more [] id j h = elim (or_cases (eqb id j) false h) [ inl e ↦ inr e | inr none ↦ absurd (false≢true none) ]
in_more (x ∷ ids) id j h = elim (or_cases (eqb x j) (is_in (ids ++ id ∷ []) j) h) [
  | inl e ↦ inl (or_left (eqb x j) (is_in ids j) e)
  | inr r ↦ elim (in_more ids id j r) [ inl k ↦ inl (or_right (eqb x j) (is_in ids j) k) | inr k ↦ inr k ]
]

pub in_left : (ids : List ℕ) (id j : ℕ) → is_in ids j ≡ true → is_in (ids ++ id ∷ []) j ≡ true
in_left [] id j h = absurd (false≢true h)
in_left (x ∷ ids) id j h = elim (or_cases (eqb x j) (is_in ids j) h) [ inl e ↦ or_left (eqb x j) (is_in (ids ++ id ∷ []) j) e | inr r ↦ or_right (eqb x j) (is_in (ids ++ id ∷ []) j) (in_left ids id j r) ]

pub in_end : (ids : List ℕ) (id : ℕ) → is_in (ids ++ id ∷ []) id ≡ true
in_end [] id = or_left (eqb id id) false (eq-eqb id id refl)
in_end (x ∷ ids) id = or_right (eqb x id) (is_in (ids ++ id ∷ []) id) (in_end ids id)

-- what isn't among more is neither
pub out_more : (ids : List ℕ) (id j : ℕ) → is_in (ids ++ id ∷ []) j ≡ false → (is_in ids j ≡ false) × (eqb id j ≡ false)
out_more [] id j h = (refl, (or_parts (eqb id j) false h).0)
out_more (x ∷ ids) id j h = let parts = or_parts (eqb x j) (is_in (ids ++ id ∷ []) j) h in let rest = out_more ids id j parts.1 in (ap (λ b. b || is_in ids j) parts.0 ∙ rest.0, rest.1)

-- a prefix of numbers that are apart
pairwise_prefix : (P : ℕ → ℕ → Type 0) (xs ys : List ℕ) → Pairwise P (xs ++ ys) → Pairwise P xs
pairwise_prefix P [] ys h = tt
pairwise_prefix P (x ∷ xs) ys h = ((λ y among. h.0 y (among-left y xs ys among)), pairwise_prefix P xs ys h.1)

-- the last of them isn't among the others
apart_end : (ids : List ℕ) (j : ℕ) → Apart (ids ++ j ∷ []) → is_in ids j ≡ false
apart_end [] j h = refl
apart_end (x ∷ ids) j h = ap (λ b. b || is_in ids j) (h.0 j (among-right j ids (j ∷ []) (inl refl))) ∙ apart_end ids j h.1

-- neighbours, with one more at the end
pub joined_behind : (p s x : ℕ) (ids : List ℕ) → eqb x s ≡ false → stands_before p s (ids ++ x ∷ []) ≡ stands_before p s ids
joined_behind p s x [] other = refl
joined_behind p s x (a ∷ []) other = ap (λ b. b || false) (and_right (eqb a p) (eqb x s) other)
joined_behind p s x (a ∷ b ∷ rest) other = ap (λ t. eqb a p && eqb b s || t) (joined_behind p s x (b ∷ rest) other)

pub joined_last : (p x : ℕ) (ids : List ℕ) → (is_in ids x ≡ true → ⊥) → stands_before p x (ids ++ x ∷ []) ≡ is_last ids p
joined_last p x [] out = refl
joined_last p x (a ∷ []) out = ap (λ b. eqb a p && b || false) (eq-eqb x x refl) ∙ both (eqb a p) where
  both : (t : Bool) → (t && true || false) ≡ t
  both true = refl
  both false = refl
joined_last p x (a ∷ b ∷ rest) out = ap (λ t. t || stands_before p x ((b ∷ rest) ++ x ∷ [])) (and_right (eqb a p) (eqb b x) not_b) ∙ joined_last p x (b ∷ rest) (λ there. out (or_right (eqb a x) (is_in (b ∷ rest) x) there)) where
  not_b : eqb b x ≡ false
  not_b = elim (cases_Bool (eqb b x)) [ inl e ↦ absurd (out (or_right (eqb a x) (is_in (b ∷ rest) x) (or_left (eqb b x) (is_in rest x) e))) | inr other ↦ other ]

-- ---- the extended chain

-- who is in the extended chain is a member, or joins
pub extended-cases : (ids : List ℕ) (o : Option ℕ) (k : ℕ) → is_in (extended_of ids o) k ≡ true → (is_in ids k ≡ true) ⊎ (is_that o k ≡ true)
extended-cases ids None k h = inl h
extended-cases ids (Some j) k h = in_more ids j k h

pub member-extended : (ids : List ℕ) (o : Option ℕ) (k : ℕ) → is_in ids k ≡ true → is_in (extended_of ids o) k ≡ true
member-extended ids None k h = h
member-extended ids (Some j) k h = in_left ids j k h

pub joiner-extended : (ids : List ℕ) (o : Option ℕ) (k : ℕ) → is_that o k ≡ true → is_in (extended_of ids o) k ≡ true
joiner-extended ids None k h = absurd (false≢true h)
joiner-extended ids (Some j) k h = subst (λ i. is_in (ids ++ j ∷ []) i ≡ true) (eqb-true j k h) (in_end ids j)

-- who isn't is neither
pub out-extended : (ids : List ℕ) (o : Option ℕ) (k : ℕ) → is_in (extended_of ids o) k ≡ false → (is_in ids k ≡ false) × (is_that o k ≡ false)
out-extended ids None k h = (h, refl)
out-extended ids (Some j) k h = out_more ids j k h

-- the members are apart, and the server that joins is none of them
pub apart-members : (ids : List ℕ) (o : Option ℕ) → Apart (extended_of ids o) → Apart ids
apart-members ids None h = h
apart-members ids (Some j) h = pairwise_prefix (λ a b. eqb a b ≡ false) ids (j ∷ []) h

pub joiner-out : (ids : List ℕ) (o : Option ℕ) (k : ℕ) → Apart (extended_of ids o) → is_that o k ≡ true → is_in ids k ≡ false
joiner-out ids None k h is = absurd (false≢true is)
joiner-out ids (Some j) k h is = subst (λ i. is_in ids i ≡ false) (eqb-true j k is) (apart_end ids j h)

-- a member isn't the server that joins
pub member-other : (ids : List ℕ) (o : Option ℕ) (k : ℕ) → Apart (extended_of ids o) → is_in ids k ≡ true → is_that o k ≡ false
member-other ids o k h member = elim (cases_Bool (is_that o k)) [ inl is ↦ absurd (both_ways (is_in ids k) (joiner-out ids o k h is) member) | inr other ↦ other ]

-- who stands before a member in the extended chain does so in the chain
pub extended-before : (ids : List ℕ) (o : Option ℕ) (p s : ℕ) → Apart (extended_of ids o) → is_in ids s ≡ true → stands_before p s (extended_of ids o) ≡ stands_before p s ids
extended-before ids None p s h member = refl
extended-before ids (Some j) p s h member = joined_behind p s j ids (member-other ids (Some j) s h member)

-- before the server that joins stands the last member
pub joiner-before : (ids : List ℕ) (o : Option ℕ) (p s : ℕ) → Apart (extended_of ids o) → is_that o s ≡ true → stands_before p s (extended_of ids o) ≡ is_last ids p
joiner-before ids None p s h is = absurd (false≢true is)
joiner-before ids (Some j) p s h is = ap (λ i. stands_before p i (ids ++ j ∷ [])) (sym (eqb-true j s is)) ∙ joined_last p j ids (λ there. both_ways (is_in ids j) (apart_end ids j h) there)
