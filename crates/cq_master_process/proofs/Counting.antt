-- What a map of links finds and writes.
use Rattle.std.proofs.Common.{◌≡◌, ◌∙◌, ℕ, ◌+◌, ◌==◌, ap, sym, refl, cond, List, Bool, true, false, Option, Some, None, is_some}
use Rattle.std.proofs.lemmas.Bool.{eqb-true, eq-eqb, true≢false}
use Rattle.cq_master_process.specs.declared.link.Link.{Link}
use Rattle.cq_master_process.specs.Links.{counted, gone_in, gone_of, is_open, link_of, with_one}
use Rattle.cq_master_process.specs.within.Writing.{Writes}

-- what a map writes
pub written : (inside now new : List (ℕ × Link)) (id : ℕ) (link : Link) → inside ≡ now → Writes inside new id link → Writes now new id link
written inside now new id link view writes other = writes other ∙ ap (λ es. cond (id == other) (Some link) (link_of es other)) view

-- what it finds
pub found : {A : Type 0} (part : Option Link → A) (inside now : List (ℕ × Link)) (id : ℕ) (link : Option Link) → inside ≡ now → link ≡ link_of inside id → part link ≡ part (link_of now id)
found part inside now id link view is = ap part (is ∙ ap (λ es. link_of es id) view)

-- the link that is written
here : (old new : List (ℕ × Link)) (id : ℕ) (link : Link) → Writes old new id link → link_of new id ≡ Some link
here old new id link writes = writes id ∙ ap (λ b. cond b (Some link) (link_of old id)) (eq-eqb id id refl)

pub open-here : (old new : List (ℕ × Link)) (id : ℕ) (link : Link) → Writes old new id link → is_open new id ≡ true
open-here old new id link writes = ap is_some (here old new id link writes)

-- a link that isn't found isn't there
pub no-link : (inside now : List (ℕ × Link)) (id : ℕ) → inside ≡ now → link_of inside id ≡ None → is_open now id ≡ true → ⊥
no-link inside now id view none there = true≢false (sym (ap (λ es. is_open es id) view ∙ there) ∙ ap is_some none)

none-there : (link : Option Link) → is_some link ≡ false → link ≡ None
none-there None h = refl
none-there (Some l) h = absurd (true≢false h)

pub not-open : (inside now : List (ℕ × Link)) (id : ℕ) (there : Bool) → inside ≡ now → there ≡ is_open inside id → there ≡ false → is_open now id ≡ false
not-open inside now id there view is absent = ap (λ es. is_open es id) (sym view) ∙ sym is ∙ absent

pub not-found : (inside now : List (ℕ × Link)) (id : ℕ) (there : Bool) → inside ≡ now → there ≡ is_open inside id → there ≡ false → link_of now id ≡ None
not-found inside now id there view is absent = none-there (link_of now id) (not-open inside now id there view is absent)

-- of a server of which nothing is known it isn't known that it is gone
pub gone-open : (links : List (ℕ × Link)) (id : ℕ) → is_open links id ≡ false → gone_of links id ≡ false
gone-open links id h = ap gone_in (none-there (link_of links id) h)

-- ---- parts of what is written

pub part-same : {A : Type 0} (part : Option Link → A) (old new : List (ℕ × Link)) (id : ℕ) (link : Link) → Writes old new id link → part (Some link) ≡ part (link_of old id) → (other : ℕ) → part (link_of new other) ≡ part (link_of old other)
part-same part old new id link writes is other = ap part (writes other) ∙ go (id == other) refl where
  go : (t : Bool) → (id == other) ≡ t → part (cond t (Some link) (link_of old other)) ≡ part (link_of old other)
  go true e = is ∙ ap (λ n. part (link_of old n)) (eqb-true id other e)
  go false e = refl

pub part-counts : (part : Option Link → ℕ) (old new : List (ℕ × Link)) (id : ℕ) (link : Link) → Writes old new id link → part (Some link) ≡ part (link_of old id) + 1 → (other : ℕ) → part (link_of new other) ≡ counted (λ n. part (link_of old n)) id other
part-counts part old new id link writes is other = ap part (writes other) ∙ go (id == other) refl where
  go : (t : Bool) → (id == other) ≡ t → part (cond t (Some link) (link_of old other)) ≡ cond t (part (link_of old other) + 1) (part (link_of old other))
  go true e = is ∙ ap (λ n. part (link_of old n) + 1) (eqb-true id other e)
  go false e = refl

pub gone-too : (old new : List (ℕ × Link)) (id : ℕ) (link : Link) → Writes old new id link → gone_in (Some link) ≡ true → (other : ℕ) → gone_of new other ≡ with_one (gone_of old) id other
gone-too old new id link writes is other = ap gone_in (writes other) ∙ go (id == other) where
  go : (t : Bool) → gone_in (cond t (Some link) (link_of old other)) ≡ cond t true (gone_of old other)
  go true = is
  go false = refl

pub counted-here : (numbers : ℕ → ℕ) (id : ℕ) → counted numbers id id ≡ numbers id + 1
counted-here numbers id = ap (λ b. cond b (numbers id + 1) (numbers id)) (eq-eqb id id refl)
