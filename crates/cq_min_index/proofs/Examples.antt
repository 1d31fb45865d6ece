-- Worked searches, worked out by hand.
use Rattle.std.proofs.Common.{◌≡◌, ℕ, zero, suc, ◌≤◌, ◌<◌, [], ◌∷◌, List, get_or, map, true, false, refl, arith, inl, inr}
use Rattle.cq_min_index.specs.declared.spans.TheConstants.{LARGEST}
use Rattle.cq_min_index.specs.Firsts.{AreAbove, IsFirst}
use Rattle.cq_min_index.specs.Packing.{upto, by_place, is_counted}
use Rattle.cq_min_index.specs.within.Spans.{IsSpanBut, IsOutside}

-- a number that equals the limit is at most it
equal : IsFirst (5 ∷ 3 ∷ 7 ∷ 2 ∷ []) 0 3 1
equal = record { after = omega arith; within = omega arith; found = omega arith; before = λ k from end. one k from end } where
  one : (k : ℕ) → 0 ≤ k → k < 1 → 3 < get_or (5 ∷ 3 ∷ 7 ∷ 2 ∷ []) k 0
  one zero from end = omega arith
  one (suc k) from end = absurd (omega arith)

-- those before the place where the search begins don't count
later : IsFirst (1 ∷ 9 ∷ 4 ∷ []) 1 4 2
later = record { after = omega arith; within = omega arith; found = omega arith; before = λ k from end. one k from end } where
  one : (k : ℕ) → 1 ≤ k → k < 2 → 4 < get_or (1 ∷ 9 ∷ 4 ∷ []) k 0
  one zero from end = absurd (omega arith)
  one (suc zero) from end = omega arith
  one (suc (suc k)) from end = absurd (omega arith)

-- from behind the last number on there is none
none : AreAbove (1 ∷ 2 ∷ []) 7 2 2
none k from end = absurd (omega arith)

-- the second of three numbers is the only one below the largest
abbrev one_small : List ℕ
one_small = LARGEST ∷ 5 ∷ LARGEST ∷ []

-- so the span of the first block need have no other place
short : IsSpanBut one_small 3 0 (record { from = 1; end = 2 })
short = record {
  after = omega arith;
  before = omega arith;
  within = omega arith;
  has = λ k other block inside small. one k inside small;
} where
  one : (k : ℕ) → k < 3 → get_or one_small k 0 < LARGEST → (1 ≤ k) × (k < 2)
  one zero inside small = absurd (omega arith)
  one (suc zero) inside small = (omega arith, omega arith)
  one (suc (suc zero)) inside small = absurd (omega arith)
  one (suc (suc (suc k))) inside small = absurd (omega arith)

-- and the places before and behind it are outside
before : IsOutside (record { from = 1; end = 2 }) 0
before = inl (omega arith)

behind : IsOutside (record { from = 1; end = 2 }) 2
behind = inr (omega arith)

-- two of four numbers are below the largest, those of the places 1 and 3, and they stand at the positions 1 and 0
abbrev packed : List ℕ
packed = 7 ∷ 5 ∷ LARGEST ∷ LARGEST ∷ []

abbrev places : List ℕ
places = 3 ∷ 1 ∷ 2 ∷ 0 ∷ []

abbrev positions : List ℕ
positions = 3 ∷ 1 ∷ 2 ∷ 0 ∷ []

listed : by_place packed positions ≡ LARGEST ∷ 5 ∷ LARGEST ∷ 7 ∷ []
listed = refl

first_of_four : upto 4 ≡ 0 ∷ 1 ∷ 2 ∷ 3 ∷ []
first_of_four = refl

-- the number of the place 3 is at most 7, and at most 6 is that of the place 1 alone
within_limit : map (is_counted packed places 7 4) (upto 4) ≡ true ∷ true ∷ false ∷ false ∷ []
within_limit = refl

below_limit : map (is_counted packed places 6 4) (upto 4) ≡ false ∷ true ∷ false ∷ false ∷ []
below_limit = refl

-- before the place 3 it isn't
before_end : map (is_counted packed places 7 3) (upto 4) ≡ false ∷ true ∷ false ∷ false ∷ []
before_end = refl

-- no number but the largest stands from the position 2 on
two_small : (j : ℕ) → 2 ≤ j → j < 4 → get_or packed j 0 ≡ LARGEST
two_small zero past inside = absurd (omega arith)
two_small (suc zero) past inside = absurd (omega arith)
two_small (suc (suc zero)) past inside = refl
two_small (suc (suc (suc zero))) past inside = refl
two_small (suc (suc (suc (suc j)))) past inside = absurd (omega arith)
