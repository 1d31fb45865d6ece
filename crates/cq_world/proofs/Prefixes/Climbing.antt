-- The predecessors that a server has and will be given, one after another: histories shorten from each to the next.
use Rattle.std.proofs.Common.{◌≡◌, ℕ, ◌∙◌, ap, sym, List, [], ◌∷◌, ◌++◌, Option, Some, None, Bool, true, false, eqb, subst, refl}
use Rattle.std.proofs.lemmas.Bool.{eqb-true, eq-eqb, false≢true, both_ways}
use Rattle.cq_base.specs.declared.party.Party.TheVariants as parties
use Rattle.cq_base.specs.Relations.{IsPrefix}
use Rattle.cq_chain.specs.Masters.{is_last}
use Rattle.cq_chain.specs.Messages.{Message, Report}
use Rattle.cq_chain.specs.Servers.{Server}
use Rattle.cq_world.proofs.Eaches.{prefix-refl, prefix-trans}
use Rattle.cq_world.proofs.Views.{View}

-- the predecessors that the master tells of in these messages, in order
abbrev pub reports : List Message → List ℕ
reports [] = []
reports (Report p ∷ ms) = p ∷ reports ms
reports (m ∷ ms) = reports ms

-- what there is, as a list
abbrev pub one : Option ℕ → List ℕ
one None = []
one (Some id) = id ∷ []

-- the predecessors that a server has and will be given
abbrev pub ups : View → ℕ → List ℕ
ups v s = one (v.server s).pred ++ reports (v.channel parties.Master (parties.Server s))

-- The history of each is a prefix of the next one's, and all but the last are down.
abbrev pub Climbs : (ℕ → Server) → ℕ → List ℕ → Type 0
Climbs f x [] = Unit {0}
Climbs f x (y ∷ []) = IsPrefix (f x).entries (f y).entries
Climbs f x (y ∷ z ∷ r) = IsPrefix (f x).entries (f y).entries × ((f y).down ≡ true) × Climbs f y (z ∷ r)

-- ---- prefixes

-- a climb ends with one of which the first's history is a prefix
pub climbs-top : (f : ℕ → Server) (x : ℕ) (r : List ℕ) (y : ℕ) → Climbs f x r → is_last r y ≡ true → IsPrefix (f x).entries (f y).entries
climbs-top f x [] y h last = absurd (false≢true last)
climbs-top f x (z ∷ []) y h last = subst (λ i. IsPrefix (f x).entries (f i).entries) (eqb-true z y last) h
climbs-top f x (z ∷ w ∷ r) y h last = prefix-trans (f x).entries (f z).entries (f y).entries h.0 (climbs-top f z (w ∷ r) y h.2 last)

-- ---- a step of one server

-- one server has become another: its history has grown, and it is not up again
pub record Grows (f g : ℕ → Server) (k : ℕ) : Type 0 where
  pub others : (j : ℕ) → eqb j k ≡ false → g j ≡ f j
  pub grows : IsPrefix (f k).entries (g k).entries
  pub down : (f k).down ≡ true → (g k).down ≡ true

-- any server's history has grown
pub grown : (f g : ℕ → Server) (k j : ℕ) → Grows f g k → IsPrefix (f j).entries (g j).entries
grown f g k j h = go (eqb j k) refl where
  go : (t : Bool) → eqb j k ≡ t → IsPrefix (f j).entries (g j).entries
  go true e = subst (λ i. IsPrefix (f i).entries (g i).entries) (sym (eqb-true j k e)) h.grows
  go false e = subst (λ s. IsPrefix (f j).entries s.entries) (sym (h.others j e)) (prefix-refl (f j).entries)

-- what is down stays so
still_down : (f g : ℕ → Server) (k j : ℕ) → Grows f g k → (f j).down ≡ true → (g j).down ≡ true
still_down f g k j h down = go (eqb j k) refl where
  go : (t : Bool) → eqb j k ≡ t → (g j).down ≡ true
  go true e = subst (λ i. (g i).down ≡ true) (sym (eqb-true j k e)) (h.down (subst (λ i. (f i).down ≡ true) (eqb-true j k e) down))
  go false e = ap (λ s. s.down) (h.others j e) ∙ down

-- one that isn't the server that stepped has the history that it had
same_history : (f g : ℕ → Server) (k j : ℕ) → Grows f g k → eqb j k ≡ false → (g j).entries ≡ (f j).entries
same_history f g k j h other = ap (λ s. s.entries) (h.others j other)

-- one that is down isn't a server that lives
down_other : (f : ℕ → Server) (k j : ℕ) → (f k).down ≡ false → (f j).down ≡ true → eqb j k ≡ false
down_other f k j lives down = go (eqb j k) refl where
  go : (t : Bool) → eqb j k ≡ t → t ≡ false
  go true e = absurd (both_ways (f k).down lives (subst (λ i. (f i).down ≡ true) (eqb-true j k e) down))
  go false e = refl

-- a climb from a server that didn't step
pub climbs-other : (f g : ℕ → Server) (k x : ℕ) (r : List ℕ) → Grows f g k → (f k).down ≡ false → eqb x k ≡ false → Climbs f x r → Climbs g x r
climbs-other f g k x [] h lives other c = tt
climbs-other f g k x (y ∷ []) h lives other c = subst (λ us. IsPrefix us (g y).entries) (sym (same_history f g k x h other)) (prefix-trans (f x).entries (f y).entries (g y).entries c (grown f g k y h))
climbs-other f g k x (y ∷ z ∷ r) h lives other c = (
  subst (λ us. IsPrefix us (g y).entries) (sym (same_history f g k x h other)) (prefix-trans (f x).entries (f y).entries (g y).entries c.0 (grown f g k y h)),
  still_down f g k y h c.1,
  climbs-other f g k y (z ∷ r) h lives (down_other f k y lives c.1) c.2,
)

-- a climb from the server that stepped, which has the next one's history before its own
pub climbs-own : (f g : ℕ → Server) (k y : ℕ) (r : List ℕ) → Grows f g k → (f k).down ≡ false → IsPrefix (g k).entries (f y).entries → Climbs f k (y ∷ r) → Climbs g k (y ∷ r)
climbs-own f g k y [] h lives before c = prefix-trans (g k).entries (f y).entries (g y).entries before (grown f g k y h)
climbs-own f g k y (z ∷ r) h lives before c = (prefix-trans (g k).entries (f y).entries (g y).entries before (grown f g k y h), still_down f g k y h c.1, climbs-other f g k y (z ∷ r) h lives (down_other f k y lives c.1) c.2)

-- where its history is as it was, any climb stays
pub climbs-same : (f g : ℕ → Server) (k : ℕ) (r : List ℕ) → Grows f g k → (f k).down ≡ false → (g k).entries ≡ (f k).entries → Climbs f k r → Climbs g k r
climbs-same f g k [] h lives same c = tt
climbs-same f g k (y ∷ []) h lives same c = climbs-own f g k y [] h lives (subst (λ us. IsPrefix us (f y).entries) (sym same) c) c
climbs-same f g k (y ∷ z ∷ r) h lives same c = climbs-own f g k y (z ∷ r) h lives (subst (λ us. IsPrefix us (f y).entries) (sym same) c.0) c

-- ---- lists of predecessors

-- without the first, if another one follows
pub climbs-next : (f : ℕ → Server) (x y z : ℕ) (r : List ℕ) → Climbs f x (y ∷ z ∷ r) → Climbs f x (z ∷ r)
climbs-next f x y z [] c = prefix-trans (f x).entries (f y).entries (f z).entries c.0 c.2
climbs-next f x y z (w ∷ r) c = (prefix-trans (f x).entries (f y).entries (f z).entries c.0 c.2.0, c.2.1, c.2.2)

-- with one more at the end, if the last is down and has a prefix of its history
pub climbs-on : (f : ℕ → Server) (x : ℕ) (r : List ℕ) (d p : ℕ) → Climbs f x r → is_last r d ≡ true → (f d).down ≡ true → IsPrefix (f d).entries (f p).entries → Climbs f x (r ++ p ∷ [])
climbs-on f x [] d p c last down prefix = absurd (false≢true last)
climbs-on f x (y ∷ []) d p c last down prefix = let is = sym (eqb-true y d last) in (c, subst (λ i. (f i).down ≡ true) is down, subst (λ i. IsPrefix (f i).entries (f p).entries) is prefix)
climbs-on f x (y ∷ z ∷ r) d p c last down prefix = (c.0, c.1, climbs-on f y (z ∷ r) d p c.2 last down prefix)

-- the last of a list with one more
pub last-more : (r : List ℕ) (p : ℕ) → is_last (r ++ p ∷ []) p ≡ true
last-more [] p = eq-eqb p p refl
last-more (y ∷ []) p = eq-eqb p p refl
last-more (y ∷ z ∷ r) p = last-more (z ∷ r) p

-- predecessors are told one after another
pub reports-append : (xs ys : List Message) → reports (xs ++ ys) ≡ reports xs ++ reports ys
reports-append [] ys = refl
reports-append (Report p ∷ xs) ys = ap (λ us. p ∷ us) (reports-append xs ys)
reports-append (m ∷ xs) ys = reports_skip m xs ys (reports-append xs ys) where
  reports_skip : (n : Message) (us vs : List Message) → reports (us ++ vs) ≡ reports us ++ reports vs → reports (n ∷ (us ++ vs)) ≡ reports (n ∷ us) ++ reports vs
  reports_skip (Report p) us vs h = ap (λ ws. p ∷ ws) h
  reports_skip n us vs h = h
