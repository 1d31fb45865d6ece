-- Fifos that have nothing.
use Rattle.std.proofs.Common.{◌≡◌, ◌==◌, ◌∙◌, ap, arith, refl, Bool, true, cond, List, [], ◌∷◌, length, inl, inr, Some}
use Rattle.std.specs.List.{list_all}
use Rattle.std.specs.Map.{lookup, values_of}
use Rattle.std.proofs.lemmas.Bool.{and_parts, cases_Bool, eqb-true}
use Rattle.cq_chain.specs.Fifos.{Fifo, messages_of}

none : {A : Type 0} (xs : List A) → (length xs == 0) ≡ true → xs ≡ []
none [] h = refl
none (x ∷ xs) h = absurd (omega (arith, eqb-true (length (x ∷ xs)) 0 h))

-- where none of them has a message, the one that is found has none
pub all-empty : {K : Type 0} (test : K → Bool) (boxes : List (K × Fifo)) → list_all (λ f. length f.messages == 0) (values_of boxes) ≡ true → messages_of (lookup test boxes) ≡ []
all-empty test [] h = refl
all-empty test (b ∷ bs) h =
    let parts = and_parts (length b.1.messages == 0) (list_all (λ f. length f.messages == 0) (values_of bs)) h in
    elim (cases_Bool (test b.0)) [
      | inl here ↦ ap (λ c. messages_of (cond c (Some b.1) (lookup test bs))) here ∙ none b.1.messages parts.0
      | inr other ↦ ap (λ c. messages_of (cond c (Some b.1) (lookup test bs))) other ∙ all-empty test bs parts.1
    ]
