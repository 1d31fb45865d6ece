-- Sends that are counted one after another.
use Rattle.std.proofs.Common.{◌≡◌, ℕ, ◌+◌, ◌⊎◌, inl, inr, refl, List, [], ◌∷◌, length, arith}
use Rattle.cq_base.specs.declared.ask.Ask.{Ask}
use Rattle.cq_chain.specs.declared.message.Answer.{Answer}
use Rattle.cq_live.specs.Lives.{sends_closed}

-- where there are no asks, or no answers, there are no sends
none_left : (asks : List Ask) (answers : List Answer) → (length asks ≡ 0) ⊎ (length answers ≡ 0) → sends_closed asks answers ≡ 0
none_left [] answers none = refl
none_left (ask ∷ asks) [] none = refl
none_left (ask ∷ asks) (a ∷ answers) (inl none) = absurd (omega (arith, none))
none_left (ask ∷ asks) (a ∷ answers) (inr none) = absurd (omega (arith, none))

-- so what was counted is all
pub all_counted : (sends total : ℕ) (asks : List Ask) (answers : List Answer) → sends + sends_closed asks answers ≡ total → (length asks ≡ 0) ⊎ (length answers ≡ 0) → sends ≡ total
all_counted sends total asks answers so_far none = let left = none_left asks answers none in omega (arith, so_far, left)

-- of two iterators, one that has ended
pub one_ended : {A B : Type 0} (P : A → Type 0) (Q : B → Type 0) (m n : ℕ) → ((x : A) × ((m ≡ 0) × P x)) ⊎ ((y : B) × ((n ≡ 0) × Q y)) → (m ≡ 0) ⊎ (n ≡ 0)
one_ended P Q m n (inl ended) = inl ended.1.0
one_ended P Q m n (inr ended) = inr ended.1.0
