-- Numbers that stand in another order than in the list, so that the small ones are side by side.
use Rattle.std.specs.Prelude.{◌≡◌, ℕ, ◌<◌, ◌≤◌, ◌&&◌, List, [], ◌∷◌, ◌++◌, length, get_or, map, Bool, nat_lt, nat_le, suc, zero}
use Rattle.std.specs.List.Sorted.{IsPermutation}
use Rattle.cq_min_index.specs.declared.spans.TheConstants.{LARGEST}

-- the numbers from 0 up to n
abbrev pub upto : ℕ → List ℕ
upto zero = []
upto (suc n) = upto n ++ n ∷ []

-- the list: the number of each place stands at the place's position
abbrev pub by_place : List ℕ → List ℕ → List ℕ
by_place numbers positions = map (λ j. get_or numbers j 0) positions

-- each place has a position, and each position its place
pub record ArePlaced (places positions : List ℕ) : Type 0 where
  pub long : length places ≡ length positions
  pub permuted : IsPermutation (upto (length positions)) positions
  pub position : (k : ℕ) → k < length positions → get_or positions k 0 < length positions
  pub place : (j : ℕ) → j < length positions → get_or places j 0 < length positions
  pub back : (k : ℕ) → k < length positions → get_or places (get_or positions k 0) 0 ≡ k
  pub forth : (j : ℕ) → j < length positions → get_or positions (get_or places j 0) 0 ≡ j

-- from the position `small` on there is the largest number alone
pub record ArePacked (numbers places positions : List ℕ) (small : ℕ) : Type 0 where
  pub long : length numbers ≡ length positions
  pub placed : ArePlaced places positions
  pub within : small ≤ length numbers
  pub rest : (j : ℕ) → small ≤ j → j < length numbers → get_or numbers j 0 ≡ LARGEST

-- the number at the position j is at most the limit, and its place is before `end`
abbrev pub is_counted : List ℕ → List ℕ → ℕ → ℕ → ℕ → Bool
is_counted numbers places limit end j = nat_le (get_or numbers j 0) limit && nat_lt (get_or places j 0) end
