-- Which servers are members of the first chain.
use Rattle.std.proofs.Common.{arith, ◌≡◌, ◌≤◌, ◌+◌, ◌||◌, ℕ, zero, suc, ◌∙◌, ap, refl, false, Result, Ok, Err, IfOk}
use Rattle.cq_chain.specs.Masters.{is_in, numbers_from}
use Rattle.cq_nodes.proofs.Places.{is_apart}

-- a number above so many isn't among them
pub not_in : (n k id : ℕ) → k + n ≤ id → is_in (numbers_from k n) id ≡ false
unfolding numbers_from
not_in zero k id above = refl
not_in (suc n) k id above = ap (λ t. t || is_in (numbers_from (k + 1) n) id) (is_apart k id (λ same. omega (arith, above, same))) ∙ not_in n (k + 1) id (omega (arith, above))

-- what is said of an answer, by what is known of it
pub if_ok : {A E : Type 0} (P Q : A → Type 0) (r : Result A E) → ((x : A) → P x → Q x) → IfOk r P → IfOk r Q
if_ok P Q (Ok x) follows h = follows x h
if_ok P Q (Err e) follows h = tt
