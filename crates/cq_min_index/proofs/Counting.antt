-- How many numbers are at most a limit, position by position.
use Rattle.std.proofs.Common.{◌≡◌, ℕ, ◌+◌, ◌-◌, ◌<◌, ◌≤◌, ◌&&◌, ◌∙◌, ◌⊎◌, ap, sym, subst, List, length, get_or, take, Bool, true, false, cond, nat_lt, nat_le, inl, inr, arith, refl, suc, zero, add-one}
use Rattle.std.specs.List.{count_by, filter}
use Rattle.std.proofs.lemmas.Bool.{cases_lt}
use Rattle.std.proofs.lemmas.List.{length-map, get_or-map, take_all}
use Rattle.std.proofs.lemmas.List.Sorted.{sum_by-IsPermutation}
use Rattle.std.proofs.lemmas.List.Sums.{sum_by_more, sum_by_push, length-filter}
use Rattle.cq_min_index.specs.Firsts.{AreAbove}
use Rattle.cq_min_index.specs.Packing.{upto, by_place, ArePlaced, is_counted}

-- one position more
count_next : (p : ℕ → Bool) (i : ℕ) → count_by p (upto (i + 1)) ≡ count_by p (upto i) + cond (p i) 1 0
count_next p i = ap (λ n. count_by p (upto n)) (add-one i) ∙ sum_by_push (λ j. cond (p j) 1 0) (upto i) i

-- positions that don't count
count_none : (p : ℕ → Bool) (from d : ℕ) → ((j : ℕ) → from ≤ j → j < from + d → p j ≡ false) → count_by p (upto (from + d)) ≡ count_by p (upto from)
count_none p from zero none = let e : from + 0 ≡ from = omega arith in ap (λ n. count_by p (upto n)) e
count_none p from (suc d) none =
    let e : from + suc d ≡ (from + d) + 1 = omega arith in
    ap (λ n. count_by p (upto n)) e
    ∙ count_next p (from + d)
    ∙ ap (λ b. count_by p (upto (from + d)) + cond b 1 0) (none (from + d) (omega arith) (omega arith))
    ∙ (let z : count_by p (upto (from + d)) + 0 ≡ count_by p (upto (from + d)) = omega arith in z)
    ∙ count_none p from d (λ j a b. none j a (omega arith))

count_skip : (p : ℕ → Bool) (from i : ℕ) → from ≤ i → ((j : ℕ) → from ≤ j → j < i → p j ≡ false) → count_by p (upto i) ≡ count_by p (upto from)
count_skip p from i o none = let e : from + (i - from) ≡ i = omega arith in subst (λ n. count_by p (upto n) ≡ count_by p (upto from)) e (count_none p from (i - from) (λ j a b. none j a (omega arith)))

-- a number above the limit doesn't count
above_uncounted : (numbers places : List ℕ) (limit end j : ℕ) → limit < get_or numbers j 0 → is_counted numbers places limit end j ≡ false
above_uncounted numbers places limit end j above = let no : nat_le (get_or numbers j 0) limit ≡ false = grind arith in ap (λ b. b && nat_lt (get_or places j 0) end) no

-- positions at which both tests agree
count_same : (p q : ℕ → Bool) (n : ℕ) → ((j : ℕ) → j < n → p j ≡ q j) → count_by p (upto n) ≡ count_by q (upto n)
count_same p q zero same = refl
count_same p q (suc n) same =
    sum_by_push (λ j. cond (p j) 1 0) (upto n) n
    ∙ ap (λ c. c + cond (p n) 1 0) (count_same p q n (λ j l. same j (omega arith)))
    ∙ ap (λ b. count_by q (upto n) + cond b 1 0) (same n (omega arith))
    ∙ sym (sum_by_push (λ j. cond (q j) 1 0) (upto n) n)

-- where each place is before `end`, all numbers count that are at most the limit
pub counted-before : (numbers places : List ℕ) (limit end n : ℕ) → ((j : ℕ) → j < n → get_or places j 0 < end) → count_by (is_counted numbers places limit end) (upto n) ≡ count_by (λ j. nat_le (get_or numbers j 0) limit) (upto n)
counted-before numbers places limit end n before = count_same (is_counted numbers places limit end) (λ j. nat_le (get_or numbers j 0) limit) n (λ j l. same j (before j l))
  where
    anyway : (c : Bool) → (c && true) ≡ c
    anyway true = refl
    anyway false = refl

    same : (j : ℕ) → get_or places j 0 < end → is_counted numbers places limit end j ≡ nat_le (get_or numbers j 0) limit
    same j l = let yes : nat_lt (get_or places j 0) end ≡ true = grind arith in ap (λ b. nat_le (get_or numbers j 0) limit && b) yes ∙ anyway (nat_le (get_or numbers j 0) limit)

-- no more count where all numbers are above the limit
pub counted-rest : (numbers places : List ℕ) (limit end from n : ℕ) → from ≤ n → AreAbove numbers limit from n → count_by (is_counted numbers places limit end) (upto n) ≡ count_by (is_counted numbers places limit end) (upto from)
counted-rest numbers places limit end from n o above = count_skip (is_counted numbers places limit end) from n o (λ j a b. above_uncounted numbers places limit end j (above j a b))

-- so many of the numbers of the first places are at most the limit
module _ (numbers places positions : List ℕ) (limit end : ℕ) (placed : ArePlaced places positions) where
  abbrev p : ℕ → Bool
  p = is_counted numbers places limit end

  abbrev list : List ℕ
  list = by_place numbers positions

  abbrev is_small : ℕ → Bool
  is_small n = nat_le n limit

  at_place : (k : ℕ) → k < length positions → p (get_or positions k 0) ≡ (is_small (get_or list k 0) && nat_lt k end)
  at_place k l = ap (λ i. nat_le (get_or numbers (get_or positions k 0) 0) limit && nat_lt i end) (placed.back k l) ∙ ap (λ n. nat_le n limit && nat_lt k end) (sym (get_or-map (λ j. get_or numbers j 0) positions k 0 0 l))

  before_end : (b : Bool) (k : ℕ) → k < end → (b && nat_lt k end) ≡ b
  before_end b k l = let yes : nat_lt k end ≡ true = grind arith in ap (λ c. b && c) yes ∙ same b
    where
      same : (c : Bool) → (c && true) ≡ c
      same true = refl
      same false = refl

  past_end : (b : Bool) (k : ℕ) → end ≤ k → (b && nat_lt k end) ≡ false
  past_end b k l = let no : nat_lt k end ≡ false = grind arith in ap (λ c. b && c) no ∙ none b
    where
      none : (c : Bool) → (c && false) ≡ false
      none true = refl
      none false = refl

  prefix : (m : ℕ) → m ≤ length positions → m ≤ end → count_by p (take m positions) ≡ count_by is_small (take m list)
  prefix zero l within = refl
  prefix (suc m) l within = subst (λ n. count_by p (take n positions) ≡ count_by is_small (take n list)) (add-one m) (sum_by_more (λ j. cond (p j) 1 0) positions m 0 (omega arith)
      ∙ ap (λ n. n + cond (p (get_or positions m 0)) 1 0) (prefix m (omega arith) (omega arith))
      ∙ ap (λ b. count_by is_small (take m list) + cond b 1 0) (at_place m (omega arith) ∙ before_end (is_small (get_or list m 0)) m (omega arith))
      ∙ sym (sum_by_more (λ n. cond (is_small n) 1 0) list m 0 (let e = length-map positions (λ j. get_or numbers j 0) in omega arith)))

  back : (d : ℕ) → end + d ≤ length positions → count_by p (take (end + d) positions) ≡ count_by p (take end positions)
  back zero l = let e : end + 0 ≡ end = omega arith in ap (λ n. count_by p (take n positions)) e
  back (suc d) l =
      let e : end + suc d ≡ (end + d) + 1 = omega arith in
      ap (λ n. count_by p (take n positions)) e
      ∙ sum_by_more (λ j. cond (p j) 1 0) positions (end + d) 0 (omega arith)
      ∙ ap (λ b. count_by p (take (end + d) positions) + cond b 1 0) (at_place (end + d) (omega arith) ∙ past_end (is_small (get_or list (end + d) 0)) (end + d) (omega arith))
      ∙ (let z : count_by p (take (end + d) positions) + 0 ≡ count_by p (take (end + d) positions) = omega arith in z)
      ∙ back d (omega arith)

  all : count_by p positions ≡ count_by is_small (take end list)
  all = by (cases_lt end (length positions))
    where
      by : (end < length positions) ⊎ (length positions ≤ end) → count_by p positions ≡ count_by is_small (take end list)
      by (inl l) =
          let e : end + (length positions - end) ≡ length positions = omega arith in
          ap (count_by p) (sym (take_all (length positions) positions (omega arith)))
          ∙ ap (λ n. count_by p (take n positions)) (sym e)
          ∙ back (length positions - end) (omega arith)
          ∙ prefix end (omega arith) (omega arith)
      by (inr l) =
          let e = length-map positions (λ j. get_or numbers j 0) in
          ap (count_by p) (sym (take_all (length positions) positions (omega arith)))
          ∙ prefix (length positions) (omega arith) l
          ∙ ap (count_by is_small) (take_all (length positions) list (omega arith) ∙ sym (take_all end list (omega arith)))

  pub counted-all : count_by p (upto (length positions)) ≡ length (filter is_small (take end list))
  counted-all = sym (sum_by-IsPermutation (λ j. cond (p j) 1 0) (upto (length positions)) positions placed.permuted) ∙ all ∙ sym (length-filter is_small (take end list))
