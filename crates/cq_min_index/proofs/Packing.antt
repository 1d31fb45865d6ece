-- Numbers that stand in another order than in the list.
use Rattle.std.proofs.Common.{◌≡◌, ◌≢◌, ℕ, ◌+◌, ◌-◌, ◌<◌, ◌≤◌, ◌∙◌, ◌⊎◌, ap, sym, subst, List, [], ◌∷◌, ◌++◌, length, get_or, set, map, inl, inr, arith, refl, add-one}
use Rattle.std.specs.List.{SwappedAt}
use Rattle.std.specs.List.Sorted.{IsPermutation}
use Rattle.std.proofs.lemmas.Bool.{cases_eq, cases_lt}
use Rattle.std.proofs.lemmas.Grind.{same_number_lists}
use Rattle.std.proofs.lemmas.List.{length-map, length-set, length_push, get_or-map, get_or-set_same, get_or-set_other, get_or_append_left, get_or_push, set-get_or, set-append_right, map-append}
use Rattle.std.proofs.lemmas.List.Sorted.{IsPermutation-trans, IsPermutation-append_left}
use Rattle.cq_min_index.specs.declared.spans.TheConstants.{LARGEST}
use Rattle.cq_min_index.specs.Packing.{upto, by_place, ArePlaced, ArePacked}

-- two positions exchange their places
module _ (places places' positions positions' : List ℕ) (one other : ℕ) (placed : ArePlaced places positions) (a : one < length positions) (b : other < length positions)
    (swapped : SwappedAt places places' one other) (swapped' : SwappedAt positions positions' (get_or places one 0) (get_or places other 0))
    (long : length places' ≡ length places) (long' : length positions' ≡ length positions) (moved : IsPermutation positions positions') where
  abbrev at_one : ℕ
  at_one = get_or places one 0

  abbrev at_other : ℕ
  at_other = get_or places other 0

  first : get_or positions' at_one 0 ≡ other
  first = swapped'.0 0 ∙ placed.forth other b

  second : get_or positions' at_other 0 ≡ one
  second = swapped'.1 0 ∙ placed.forth one a

  position_in : (k : ℕ) → k < length positions → get_or positions' k 0 < length positions
  position_in k l = by (cases_eq k at_one) (cases_eq k at_other)
    where
      by : (k ≡ at_one) ⊎ (k ≡ at_one → ⊥) → (k ≡ at_other) ⊎ (k ≡ at_other → ⊥) → get_or positions' k 0 < length positions
      by (inl e) s = subst (λ i. get_or positions' i 0 < length positions) (sym e) (omega (arith, first))
      by (inr n) (inl e) = subst (λ i. get_or positions' i 0 < length positions) (sym e) (omega (arith, second))
      by (inr n) (inr m) = let same = swapped'.2 k 0 n m in let is = placed.position k l in omega arith

  place_in : (j : ℕ) → j < length positions → get_or places' j 0 < length positions
  place_in j l = by (cases_eq j one) (cases_eq j other)
    where
      by : (j ≡ one) ⊎ (j ≡ one → ⊥) → (j ≡ other) ⊎ (j ≡ other → ⊥) → get_or places' j 0 < length positions
      by (inl e) s = subst (λ i. get_or places' i 0 < length positions) (sym e) (let same = swapped.0 0 in let is = placed.place other b in omega arith)
      by (inr n) (inl e) = subst (λ i. get_or places' i 0 < length positions) (sym e) (let same = swapped.1 0 in let is = placed.place one a in omega arith)
      by (inr n) (inr m) = let same = swapped.2 j 0 n m in let is = placed.place j l in omega arith

  there_and_back : (k : ℕ) → k < length positions → get_or places' (get_or positions' k 0) 0 ≡ k
  there_and_back k l = by (cases_eq k at_one) (cases_eq k at_other)
    where
      by : (k ≡ at_one) ⊎ (k ≡ at_one → ⊥) → (k ≡ at_other) ⊎ (k ≡ at_other → ⊥) → get_or places' (get_or positions' k 0) 0 ≡ k
      by (inl e) s = ap (λ i. get_or places' (get_or positions' i 0) 0) e ∙ ap (λ j. get_or places' j 0) first ∙ swapped.1 0 ∙ sym e
      by (inr n) (inl e) = ap (λ i. get_or places' (get_or positions' i 0) 0) e ∙ ap (λ j. get_or places' j 0) second ∙ swapped.0 0 ∙ sym e
      by (inr n) (inr m) =
          let back = placed.back k l in
          let same = swapped'.2 k 0 n m in
          let apart : get_or positions k 0 ≢ one = λ e. n (sym back ∙ ap (λ j. get_or places j 0) e) in
          let apart' : get_or positions k 0 ≢ other = λ e. m (sym back ∙ ap (λ j. get_or places j 0) e) in
          ap (λ j. get_or places' j 0) same ∙ swapped.2 (get_or positions k 0) 0 apart apart' ∙ back

  back_and_there : (j : ℕ) → j < length positions → get_or positions' (get_or places' j 0) 0 ≡ j
  back_and_there j l = by (cases_eq j one) (cases_eq j other)
    where
      by : (j ≡ one) ⊎ (j ≡ one → ⊥) → (j ≡ other) ⊎ (j ≡ other → ⊥) → get_or positions' (get_or places' j 0) 0 ≡ j
      by (inl e) s = ap (λ i. get_or positions' (get_or places' i 0) 0) e ∙ ap (λ k. get_or positions' k 0) (swapped.0 0) ∙ second ∙ sym e
      by (inr n) (inl e) = ap (λ i. get_or positions' (get_or places' i 0) 0) e ∙ ap (λ k. get_or positions' k 0) (swapped.1 0) ∙ first ∙ sym e
      by (inr n) (inr m) =
          let forth = placed.forth j l in
          let same = swapped.2 j 0 n m in
          let apart : get_or places j 0 ≢ at_one = λ e. n (sym forth ∙ ap (λ k. get_or positions k 0) e ∙ placed.forth one a) in
          let apart' : get_or places j 0 ≢ at_other = λ e. m (sym forth ∙ ap (λ k. get_or positions k 0) e ∙ placed.forth other b) in
          ap (λ k. get_or positions' k 0) same ∙ swapped'.2 (get_or places j 0) 0 apart apart' ∙ forth

  pub placed-exchanged : ArePlaced places' positions'
  placed-exchanged = record {
    long = omega (arith, placed.long);
    permuted = subst (λ n. IsPermutation (upto n) positions') (sym long') (IsPermutation-trans _ _ _ placed.permuted moved);
    position = λ k l. omega (arith, position_in k (omega arith));
    place = λ j l. omega (arith, place_in j (omega arith));
    back = λ k l. there_and_back k (omega arith);
    forth = λ j l. back_and_there j (omega arith);
  }

-- the list, where the number of one place alone is another
pub by_place-set : (numbers numbers' positions positions' : List ℕ) (k v : ℕ) → length positions' ≡ length positions → k < length positions → get_or numbers' (get_or positions' k 0) 0 ≡ v
    → ((i : ℕ) → i < length positions → i ≢ k → get_or numbers' (get_or positions' i 0) 0 ≡ get_or numbers (get_or positions i 0) 0) → by_place numbers' positions' ≡ set (by_place numbers positions) k v
by_place-set numbers numbers' positions positions' k v long l is others = same_number_lists (by_place numbers' positions') (set (by_place numbers positions) k v) all each
  where
    f : ℕ → ℕ
    f = λ j. get_or numbers j 0

    f' : ℕ → ℕ
    f' = λ j. get_or numbers' j 0

    all : length (by_place numbers' positions') ≡ length (set (by_place numbers positions) k v)
    all = length-map positions' f' ∙ long ∙ sym (length-set (by_place numbers positions) k v ∙ length-map positions f)

    each : (i : ℕ) → i < length (by_place numbers' positions') → get_or (by_place numbers' positions') i 0 ≡ get_or (set (by_place numbers positions) k v) i 0
    each i inside = by (cases_eq i k)
      where
        here : i < length positions'
        here = let e = length-map positions' f' in omega arith

        new : get_or (by_place numbers' positions') i 0 ≡ get_or numbers' (get_or positions' i 0) 0
        new = get_or-map f' positions' i 0 0 here

        by : (i ≡ k) ⊎ (i ≡ k → ⊥) → get_or (by_place numbers' positions') i 0 ≡ get_or (set (by_place numbers positions) k v) i 0
        by (inl e) = new ∙ ap (λ j. get_or numbers' (get_or positions' j 0) 0) e ∙ is ∙ sym (ap (λ j. get_or (set (by_place numbers positions) k v) j 0) e ∙ get_or-set_same (by_place numbers positions) k v 0 (let m = length-map positions f in omega arith))
        by (inr n) = let there : i < length positions = (let h = here in omega arith) in new ∙ others i there n ∙ sym (get_or-set_other (by_place numbers positions) k i v 0 n ∙ get_or-map f positions i 0 0 there)

-- a position of its own for each place
apart : (places positions : List ℕ) (i k : ℕ) → ArePlaced places positions → i < length positions → k < length positions → i ≢ k → get_or positions i 0 ≢ get_or positions k 0
apart places positions i k placed a b n e = n (sym (placed.back i a) ∙ ap (λ j. get_or places j 0) e ∙ placed.back k b)

-- a number is written where that of its place stands
pub by_place-written : (numbers places positions : List ℕ) (k v : ℕ) → length numbers ≡ length positions → ArePlaced places positions → k < length positions → by_place (set numbers (get_or positions k 0) v) positions ≡ set (by_place numbers positions) k v
by_place-written numbers places positions k v long placed l =
    let p = get_or positions k 0 in
    let there = placed.position k l in
    by_place-set numbers (set numbers p v) positions positions k v refl l (get_or-set_same numbers p v 0 (omega arith)) (λ i inside n. get_or-set_other numbers p (get_or positions i 0) v 0 (apart places positions i k placed inside l n))

-- positions that were exchanged
pub record AreExchanged (places positions positions' : List ℕ) (one other : ℕ) : Type 0 where
  pub long : length positions' ≡ length positions
  pub first : get_or positions' (get_or places one 0) 0 ≡ other
  pub second : get_or positions' (get_or places other 0) 0 ≡ one
  pub others : (k : ℕ) → k ≢ get_or places one 0 → k ≢ get_or places other 0 → get_or positions' k 0 ≡ get_or positions k 0

-- a number is written at another position, and the two are exchanged
pub by_place-put_in : (numbers places positions positions' : List ℕ) (position first v : ℕ) → length numbers ≡ length positions → position < length positions → first < length positions → get_or numbers first 0 ≡ get_or numbers position 0
    → ArePlaced places positions → AreExchanged places positions positions' position first → by_place (set numbers first v) positions' ≡ set (by_place numbers positions) (get_or places position 0) v
by_place-put_in numbers places positions positions' position first v long a b same placed exchanged =
    by_place-set numbers numbers' positions positions' k v exchanged.long (placed.place position a) (ap (λ j. get_or numbers' j 0) exchanged.first ∙ get_or-set_same numbers first v 0 (omega arith)) (λ i inside n. by i inside n (cases_eq i (get_or places first 0)))
  where
    numbers' : List ℕ
    numbers' = set numbers first v

    k : ℕ
    k = get_or places position 0

    by : (i : ℕ) → i < length positions → i ≢ k → (i ≡ get_or places first 0) ⊎ (i ≡ get_or places first 0 → ⊥) → get_or numbers' (get_or positions' i 0) 0 ≡ get_or numbers (get_or positions i 0) 0
    by i inside n (inl e) =
        let other : position ≢ first = λ e'. n (e ∙ ap (λ j. get_or places j 0) (sym e')) in
        ap (λ j. get_or numbers' (get_or positions' j 0) 0) e ∙ ap (λ j. get_or numbers' j 0) exchanged.second ∙ get_or-set_other numbers first position v 0 other ∙ sym same
        ∙ sym (ap (λ j. get_or numbers (get_or positions j 0) 0) e ∙ ap (λ j. get_or numbers j 0) (placed.forth first b))
    by i inside n (inr m) =
        let other : get_or positions i 0 ≢ first = λ e. m (sym (placed.back i inside) ∙ ap (λ j. get_or places j 0) e) in
        ap (λ j. get_or numbers' j 0) (exchanged.others i n m) ∙ get_or-set_other numbers first (get_or positions i 0) v 0 other

-- a number is moved to the position of one that becomes another, and the two are exchanged
pub by_place-taken_out : (numbers places positions positions' : List ℕ) (position last v : ℕ) → length numbers ≡ length positions → position < length positions → last < length positions
    → ArePlaced places positions → AreExchanged places positions positions' position last → by_place (set (set numbers position (get_or numbers last 0)) last v) positions' ≡ set (by_place numbers positions) (get_or places position 0) v
by_place-taken_out numbers places positions positions' position last v long a b placed exchanged =
    by_place-set numbers numbers' positions positions' k v exchanged.long (placed.place position a) (ap (λ j. get_or numbers' j 0) exchanged.first ∙ get_or-set_same moved last v 0 (let e = length-set numbers position (get_or numbers last 0) in omega arith)) (λ i inside n. by i inside n (cases_eq i (get_or places last 0)))
  where
    moved : List ℕ
    moved = set numbers position (get_or numbers last 0)

    numbers' : List ℕ
    numbers' = set moved last v

    k : ℕ
    k = get_or places position 0

    by : (i : ℕ) → i < length positions → i ≢ k → (i ≡ get_or places last 0) ⊎ (i ≡ get_or places last 0 → ⊥) → get_or numbers' (get_or positions' i 0) 0 ≡ get_or numbers (get_or positions i 0) 0
    by i inside n (inl e) =
        let other : position ≢ last = λ e'. n (e ∙ ap (λ j. get_or places j 0) (sym e')) in
        ap (λ j. get_or numbers' (get_or positions' j 0) 0) e ∙ ap (λ j. get_or numbers' j 0) exchanged.second ∙ get_or-set_other moved last position v 0 other ∙ get_or-set_same numbers position (get_or numbers last 0) 0 (omega arith)
        ∙ sym (ap (λ j. get_or numbers (get_or positions j 0) 0) e ∙ ap (λ j. get_or numbers j 0) (placed.forth last b))
    by i inside n (inr m) =
        let other : get_or positions i 0 ≢ last = λ e. m (sym (placed.back i inside) ∙ ap (λ j. get_or places j 0) e) in
        let other' : get_or positions i 0 ≢ position = λ e. n (sym (placed.back i inside) ∙ ap (λ j. get_or places j 0) e) in
        ap (λ j. get_or numbers' j 0) (exchanged.others i n m) ∙ get_or-set_other moved last (get_or positions i 0) v 0 other ∙ get_or-set_other numbers position (get_or positions i 0) (get_or numbers last 0) 0 other'

-- the largest number is written over the largest
pub by_place-kept : (numbers places positions : List ℕ) (small k : ℕ) → ArePacked numbers places positions small → k < length positions → small ≤ get_or positions k 0 → by_place numbers positions ≡ set (by_place numbers positions) k LARGEST
by_place-kept numbers places positions small k packed l past =
    let there = packed.placed.position k l in
    let long = packed.long in
    let is : get_or (by_place numbers positions) k 0 ≡ LARGEST = get_or-map (λ j. get_or numbers j 0) positions k 0 0 l ∙ packed.rest (get_or positions k 0) past (omega arith) in
    sym (ap (set (by_place numbers positions) k) (sym is) ∙ set-get_or (by_place numbers positions) k 0)

-- one place more, of the largest number
pub placed-pushed : (places positions : List ℕ) (n : ℕ) → ArePlaced places positions → n ≡ length positions → ArePlaced (places ++ n ∷ []) (positions ++ n ∷ [])
placed-pushed places positions n placed e = record {
  long = omega (arith, one, one', placed.long);
  permuted = subst (λ m. IsPermutation (upto m) (positions ++ n ∷ [])) (sym (one' ∙ add-one (length positions)))
      (subst (λ m. IsPermutation (upto (length positions) ++ m ∷ []) (positions ++ n ∷ [])) e (IsPermutation-append_left (n ∷ []) (upto (length positions)) positions placed.permuted));
  position = λ k l. position k (cases_lt k n) (omega (arith, one'));
  place = λ j l. place j (cases_lt j n) (omega (arith, one'));
  back = λ k l. back k (cases_lt k n) (omega (arith, one'));
  forth = λ j l. forth j (cases_lt j n) (omega (arith, one'));
}
  where
    one : length (places ++ n ∷ []) ≡ length places + 1
    one = length_push places n

    one' : length (positions ++ n ∷ []) ≡ length positions + 1
    one' = length_push positions n

    old : (k : ℕ) → k < n → get_or (positions ++ n ∷ []) k 0 ≡ get_or positions k 0
    old k l = get_or_append_left positions (n ∷ []) 0 k (omega arith)

    old' : (j : ℕ) → j < n → get_or (places ++ n ∷ []) j 0 ≡ get_or places j 0
    old' j l = get_or_append_left places (n ∷ []) 0 j (omega (arith, placed.long))

    new : get_or (positions ++ n ∷ []) n 0 ≡ n
    new = get_or_push positions n 0 n (sym e)

    new' : get_or (places ++ n ∷ []) n 0 ≡ n
    new' = get_or_push places n 0 n (placed.long ∙ sym e)

    position : (k : ℕ) → (k < n) ⊎ (n ≤ k) → k ≤ n → get_or (positions ++ n ∷ []) k 0 < length (positions ++ n ∷ [])
    position k (inl l) upto_n = let a = old k l in let b = placed.position k (omega arith) in omega (arith, one')
    position k (inr l) upto_n = let is : k ≡ n = omega arith in subst (λ i. get_or (positions ++ n ∷ []) i 0 < length (positions ++ n ∷ [])) (sym is) (omega (arith, new, one'))

    place : (j : ℕ) → (j < n) ⊎ (n ≤ j) → j ≤ n → get_or (places ++ n ∷ []) j 0 < length (positions ++ n ∷ [])
    place j (inl l) upto_n = let a = old' j l in let b = placed.place j (omega arith) in omega (arith, one')
    place j (inr l) upto_n = let is : j ≡ n = omega arith in subst (λ i. get_or (places ++ n ∷ []) i 0 < length (positions ++ n ∷ [])) (sym is) (omega (arith, new', one'))

    back : (k : ℕ) → (k < n) ⊎ (n ≤ k) → k ≤ n → get_or (places ++ n ∷ []) (get_or (positions ++ n ∷ []) k 0) 0 ≡ k
    back k (inl l) upto_n = let there = placed.position k (omega arith) in ap (λ j. get_or (places ++ n ∷ []) j 0) (old k l) ∙ old' (get_or positions k 0) (omega arith) ∙ placed.back k (omega arith)
    back k (inr l) upto_n = let is : k ≡ n = omega arith in ap (λ i. get_or (places ++ n ∷ []) (get_or (positions ++ n ∷ []) i 0) 0) is ∙ ap (λ j. get_or (places ++ n ∷ []) j 0) new ∙ new' ∙ sym is

    forth : (j : ℕ) → (j < n) ⊎ (n ≤ j) → j ≤ n → get_or (positions ++ n ∷ []) (get_or (places ++ n ∷ []) j 0) 0 ≡ j
    forth j (inl l) upto_n = let there = placed.place j (omega arith) in ap (λ k. get_or (positions ++ n ∷ []) k 0) (old' j l) ∙ old (get_or places j 0) (omega arith) ∙ placed.forth j (omega arith)
    forth j (inr l) upto_n = let is : j ≡ n = omega arith in ap (λ i. get_or (positions ++ n ∷ []) (get_or (places ++ n ∷ []) i 0) 0) is ∙ ap (λ k. get_or (positions ++ n ∷ []) k 0) new' ∙ new ∙ sym is

pub packed-pushed : (numbers places positions : List ℕ) (small n : ℕ) → ArePacked numbers places positions small → n ≡ length positions → ArePacked (numbers ++ LARGEST ∷ []) (places ++ n ∷ []) (positions ++ n ∷ []) small
packed-pushed numbers places positions small n packed e = record {
  long = length_push numbers LARGEST ∙ ap (λ m. m + 1) packed.long ∙ sym (length_push positions n);
  placed = placed-pushed places positions n packed.placed e;
  within = let w = packed.within in omega (arith, length_push numbers LARGEST);
  rest = λ j past l. by j past (cases_lt j (length numbers)) (omega (arith, length_push numbers LARGEST));
}
  where
    by : (j : ℕ) → small ≤ j → (j < length numbers) ⊎ (length numbers ≤ j) → j ≤ length numbers → get_or (numbers ++ LARGEST ∷ []) j 0 ≡ LARGEST
    by j past (inl l) within = get_or_append_left numbers (LARGEST ∷ []) 0 j l ∙ packed.rest j past l
    by j past (inr l) within = get_or_push numbers LARGEST 0 j (omega arith)

-- the list then, after a write at that place
pub by_place-pushed : (numbers positions : List ℕ) (n v : ℕ) → length numbers ≡ length positions → ((k : ℕ) → k < length positions → get_or positions k 0 < length positions) → n ≡ length positions
    → set (by_place (numbers ++ LARGEST ∷ []) (positions ++ n ∷ [])) n v ≡ by_place numbers positions ++ v ∷ []
by_place-pushed numbers positions n v long inside e =
    ap (λ xs. set xs n v) (map-append f' positions (n ∷ []) ∙ ap (λ xs. xs ++ get_or (numbers ++ LARGEST ∷ []) n 0 ∷ []) same)
    ∙ set-append_right (by_place numbers positions) (get_or (numbers ++ LARGEST ∷ []) n 0 ∷ []) n n v (length-map positions f ∙ sym e) (omega arith)
    ∙ (let none : n - n ≡ 0 = omega arith in ap (λ i. by_place numbers positions ++ set (get_or (numbers ++ LARGEST ∷ []) n 0 ∷ []) i v) none)
  where
    f : ℕ → ℕ
    f = λ j. get_or numbers j 0

    f' : ℕ → ℕ
    f' = λ j. get_or (numbers ++ LARGEST ∷ []) j 0

    same : map f' positions ≡ map f positions
    same = same_number_lists (map f' positions) (map f positions) (length-map positions f' ∙ sym (length-map positions f)) (λ k l.
        let here : k < length positions = let a = length-map positions f' in omega arith in
        let there = inside k here in
        get_or-map f' positions k 0 0 here ∙ get_or_append_left numbers (LARGEST ∷ []) 0 (get_or positions k 0) (omega arith) ∙ sym (get_or-map f positions k 0 0 here))
