-- What happens to an incarnation, entry by entry.
use Rattle.std.proofs.Common.{◌≡◌, ℕ, List, [], ◌∷◌, ◌++◌, refl, subst, sym}
use Rattle.std.proofs.lemmas.List.Sums.{fold-append}
use Rattle.cq_base.specs.declared.ask.Entry.{Entry}
use Rattle.cq_base.specs.queue.Asks.{Attributes}
use Rattle.cq_base.specs.queue.Outcomes.{Outcome}
use Rattle.cq_base.specs.queue.Incarnations.{coming, lifetime}
use Rattle.cq_base.proofs.Lists.{by_last}

-- one more outcome for one more entry
abbrev told : ℕ → Attributes → List Outcome → Entry → List Outcome
told incarnation own outcomes e = outcomes ++ coming incarnation own outcomes e ∷ []

-- one entry more adds what it does after the others
pub lifetime-more : (incarnation : ℕ) (own : Attributes) (entries : List Entry) (e : Entry) → lifetime incarnation own (entries ++ e ∷ []) ≡ lifetime incarnation own entries ++ coming incarnation own (lifetime incarnation own entries) e ∷ []
unfolding lifetime
lifetime-more incarnation own entries e = fold-append (told incarnation own) [] entries (e ∷ [])

-- nothing happens with no entries
pub lifetime-none : (incarnation : ℕ) (own : Attributes) → lifetime incarnation own [] ≡ []
unfolding lifetime
lifetime-none incarnation own = refl

-- what holds at first, and stays with one more entry, holds of all that happens
pub by_lifetime : (P : List Outcome → Type 0) (incarnation : ℕ) (own : Attributes) → P [] → ((xs : List Outcome) (e : Entry) → P xs → P (xs ++ coming incarnation own xs e ∷ [])) → (entries : List Entry) → P (lifetime incarnation own entries)
by_lifetime P incarnation own none more entries = by_last (λ es. P (lifetime incarnation own es)) (subst P (sym (lifetime-none incarnation own)) none)
    (λ es e h. subst P (sym (lifetime-more incarnation own es e)) (more (lifetime incarnation own es) e h)) entries
