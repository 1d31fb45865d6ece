-- Summaries stay so where one block changes.
use Rattle.std.proofs.Common.{◌≡◌, ◌≢◌, ℕ, ◌+◌, ◌*◌, ◌/◌, ◌<◌, ◌≤◌, ◌∙◌, ◌⊎◌, sym, subst, List, [], ◌∷◌, ◌++◌, length, get_or, set, arith, refl, inl, inr, ◌%◌}
use Rattle.cq_min_index.specs.declared.min_blocks.TheConstants.{BLOCK}
use Rattle.std.proofs.lemmas.Bool.{cases_eq, cases_lt}
use Rattle.std.proofs.lemmas.List.{length-set, length_push, get_or-set_same, get_or-set_other, get_or_append_left, get_or_push, get_or_past}
use Rattle.cq_min_index.specs.within.Summaries.{IsSummary, IsLeastOf, IsBegun}

-- The lists `low'` and `high'` differ from `low` and `high` in the block b alone.
pub record IsElsewhere (low high low' high' : List ℕ) (b : ℕ) : Type 0 where
  pub shorter : (k : ℕ) → k / BLOCK ≢ b → k < length low' → k < length low
  pub longer : (k : ℕ) → k / BLOCK ≢ b → k < length low → k < length low'
  pub same_low : (k : ℕ) → k / BLOCK ≢ b → k < length low → get_or low' k 0 ≡ get_or low k 0
  pub same_high : (j : ℕ) → j ≢ b → get_or high' j 0 ≡ get_or high j 0

-- The block b of `low'` has its least number in `high'`.
pub record IsHere (low' high' : List ℕ) (b : ℕ) : Type 0 where
  pub long : length low' ≤ BLOCK * length high'
  pub short : BLOCK * length high' ≤ length low' + BLOCK
  pub below : (k : ℕ) → k / BLOCK ≡ b → k < length low' → get_or high' b 0 ≤ get_or low' k 0
  pub reached : BLOCK * b < length low' → (k : ℕ) × IsLeastOf low' b (get_or high' b 0) k

below_in : (low high low' high' : List ℕ) (b : ℕ) → IsSummary low high → IsElsewhere low high low' high' b → IsHere low' high' b
    → (k : ℕ) → (k / BLOCK ≡ b) ⊎ (k / BLOCK ≡ b → ⊥) → k < length low' → get_or high' (k / BLOCK) 0 ≤ get_or low' k 0
below_in low high low' high' b was there here k (inl e) h = subst (λ j. get_or high' j 0 ≤ get_or low' k 0) (sym e) (here.below k e h)
below_in low high low' high' b was there here k (inr n) h =
    let in_low : k < length low = there.shorter k n h in
    omega (arith, there.same_high (k / BLOCK) n, there.same_low k n in_low, was.below k in_low)

reached_in : (low high low' high' : List ℕ) (b : ℕ) → IsSummary low high → IsElsewhere low high low' high' b → IsHere low' high' b
    → (j : ℕ) → (j ≡ b) ⊎ (j ≡ b → ⊥) → BLOCK * j < length low' → (k : ℕ) × IsLeastOf low' j (get_or high' j 0) k
reached_in low high low' high' b was there here j (inl e) h = subst (λ i. (k : ℕ) × IsLeastOf low' i (get_or high' i 0) k) (sym e) (here.reached (subst (λ i. BLOCK * i < length low') e h))
reached_in low high low' high' b was there here j (inr n) h =
    let at : BLOCK * j / BLOCK ≡ j = omega arith in
    let r = was.reached j (there.shorter (BLOCK * j) (λ e. n (sym at ∙ e)) h) in
    let k = r.0 in
    let w : IsLeastOf low j (get_or high j 0) k = r.1 in
    let other : k / BLOCK ≡ b → ⊥ = λ e. n (sym w.inside ∙ e) in (
      k,
      record {
        inside = w.inside;
        within = there.longer k other w.within;
        is = there.same_low k other w.within ∙ w.is ∙ sym (there.same_high j n);
      },
    )

pub summary-change : (low high low' high' : List ℕ) (b : ℕ) → IsSummary low high → IsElsewhere low high low' high' b → IsHere low' high' b → IsSummary low' high'
summary-change low high low' high' b was there here = record {
  long = here.long;
  short = here.short;
  below = λ k. below_in low high low' high' b was there here k (cases_eq (k / BLOCK) b);
  reached = λ j. reached_in low high low' high' b was there here j (cases_eq j b);
}

other_place : (i k b : ℕ) → i / BLOCK ≡ b → k / BLOCK ≢ b → k ≢ i
other_place i k b e n same = n (subst (λ m. m / BLOCK ≡ b) (sym same) e)

-- what a write leaves as it is
set-elsewhere : (low high high' : List ℕ) (i v : ℕ) → ((j : ℕ) → j ≢ i / BLOCK → get_or high' j 0 ≡ get_or high j 0) → IsElsewhere low high (set low i v) high' (i / BLOCK)
set-elsewhere low high high' i v same = record {
  shorter = λ k n l. omega (arith, length-set low i v);
  longer = λ k n l. omega (arith, length-set low i v);
  same_low = λ k n l. get_or-set_other low i k v 0 (other_place i k (i / BLOCK) refl n);
  same_high = same;
}

-- a number is written, and the least of its block
pub summary-set : (low high : List ℕ) (i v least : ℕ) → IsSummary low high → i < length low
    → ((k : ℕ) → k / BLOCK ≡ i / BLOCK → k < length (set low i v) → least ≤ get_or (set low i v) k 0)
    → ((k : ℕ) × ((k / BLOCK ≡ i / BLOCK) × ((k < length (set low i v)) × (get_or (set low i v) k 0 ≡ least))))
    → IsSummary (set low i v) (set high (i / BLOCK) least)
summary-set low high i v least was h below reached =
    let b = i / BLOCK in
    let all = length-set low i v in
    let in_high : b < length high = omega (arith, was.long) in
    let at : get_or (set high b least) b 0 ≡ least = get_or-set_same high b least 0 in_high in
    summary-change low high (set low i v) (set high b least) b was (set-elsewhere low high (set high b least) i v (λ j n. get_or-set_other high b j least 0 n))
    (record {
      long = omega (arith, all, length-set high b least, was.long);
      short = omega (arith, all, length-set high b least, was.short);
      below = λ k e l. omega (arith, at, below k e l);
      reached = λ l. (reached.0, record { inside = reached.1.0; within = reached.1.1.0; is = reached.1.1.1 ∙ sym at });
    })

-- a bound of the block's other numbers, and of the new one, is one of all
bound-set : (low high : List ℕ) (i v bound : ℕ) → IsSummary low high → i < length low → bound ≤ v → bound ≤ get_or high (i / BLOCK) 0 → (k : ℕ) → k / BLOCK ≡ i / BLOCK → k < length low → bound ≤ get_or (set low i v) k 0
bound-set low high i v bound was h small_v small k e l = by (cases_eq k i)
  where
    by : (k ≡ i) ⊎ (k ≡ i → ⊥) → bound ≤ get_or (set low i v) k 0
    by (inl same) = subst (λ n. bound ≤ get_or (set low i v) n 0) (sym same) (let at = get_or-set_same low i v 0 h in omega (arith, at, small_v))
    by (inr other) = let below : get_or high (i / BLOCK) 0 ≤ get_or low k 0 = subst (λ j. get_or high j 0 ≤ get_or low k 0) e (was.below k l) in omega (arith, get_or-set_other low i k v 0 other, below, small)

-- a number below all of its block is written, there and above
pub summary-lower : (low high : List ℕ) (i v : ℕ) → IsSummary low high → i < length low → v ≤ get_or high (i / BLOCK) 0 → IsSummary (set low i v) (set high (i / BLOCK) v)
summary-lower low high i v was h small =
    let b = i / BLOCK in
    let in_high : b < length high = omega (arith, was.long) in
    let at : get_or (set high b v) b 0 ≡ v = get_or-set_same high b v 0 in_high in
    let all = length-set low i v in
    summary-change low high (set low i v) (set high b v) b was (set-elsewhere low high (set high b v) i v (λ j n. get_or-set_other high b j v 0 n))
    (record {
      long = omega (arith, all, length-set high b v, was.long);
      short = omega (arith, all, length-set high b v, was.short);
      below = λ k e l. let inside : k < length low = omega (arith, all, l) in omega (arith, at, bound-set low high i v v was h (omega arith) small k e inside);
      reached = λ l. (i, record { inside = refl; within = omega (arith, all, h); is = get_or-set_same low i v 0 h ∙ sym at });
    })

-- a number that isn't the least of its block is written over another that wasn't
pub summary-keep : (low high : List ℕ) (i v : ℕ) → IsSummary low high → i < length low → get_or high (i / BLOCK) 0 ≤ v → get_or low i 0 ≢ get_or high (i / BLOCK) 0 → IsSummary (set low i v) high
summary-keep low high i v was h above differs =
    let b = i / BLOCK in
    let all = length-set low i v in
    summary-change low high (set low i v) high b was (set-elsewhere low high high i v (λ j n. refl))
    (record {
      long = omega (arith, all, was.long);
      short = omega (arith, all, was.short);
      below = λ k e l. bound-set low high i v (get_or high b 0) was h above (omega arith) k e (omega (arith, all, l));
      reached = λ l.
          let r = was.reached b (omega (arith, all, l)) in
          let k = r.0 in
          let w : IsLeastOf low b (get_or high b 0) k = r.1 in
          let other : k ≢ i = λ same. differs (subst (λ n. get_or low n 0 ≡ get_or high b 0) same w.is) in
          (k, record { inside = w.inside; within = omega (arith, all, w.within); is = get_or-set_other low i k v 0 other ∙ w.is });
    })

-- one number more leaves the earlier ones as they are
push_other : (low : List ℕ) (n k : ℕ) → k < length low → get_or (low ++ n ∷ []) k 0 ≡ get_or low k 0
push_other low n k h = get_or_append_left low (n ∷ []) 0 k h

pub push_beside : (high : List ℕ) (n b j : ℕ) → length high ≡ b → j ≢ b → get_or (high ++ n ∷ []) j 0 ≡ get_or high j 0
push_beside high n b j e other = beside (cases_lt j b)
  where
    beside : (j < b) ⊎ (b ≤ j) → get_or (high ++ n ∷ []) j 0 ≡ get_or high j 0
    beside (inl l) = get_or_append_left high (n ∷ []) 0 j (omega arith)
    beside (inr m) = let past : b < j = strict (cases_lt b j) in get_or_past (high ++ n ∷ []) j 0 (omega (arith, length_push high n)) ∙ sym (get_or_past high j 0 (omega arith))
      where
        strict : (b < j) ⊎ (j ≤ b) → b < j
        strict (inl l) = l
        strict (inr m') = absurd (other (omega arith))

-- Where a block begins, its number may stand above before it stands below.
pub summary-start : (low high high' : List ℕ) (n b : ℕ) → IsSummary low high → length low ≡ BLOCK * b → IsBegun high high' b n → IsSummary low high'
summary-start low high high' n b was e begun = summary-change low high low high' b was
    (record { shorter = λ k n' l. l; longer = λ k n' l. l; same_low = λ k n' l. refl; same_high = begun.same })
    (record {
      long = omega (arith, begun.long);
      short = omega (arith, begun.long);
      below = λ k e' l. absurd (omega arith);
      reached = λ l. absurd (omega arith);
    })

pub summary-first : (low high high' : List ℕ) (n b : ℕ) → IsSummary low high → length low ≡ BLOCK * b → IsBegun high high' b n → IsSummary (low ++ n ∷ []) high'
summary-first low high high' n b was e begun =
    let last : get_or (low ++ n ∷ []) (BLOCK * b) 0 ≡ n = get_or_push low n 0 (BLOCK * b) e in
    let one : length (low ++ n ∷ []) ≡ length low + 1 = length_push low n in
    summary-change low high (low ++ n ∷ []) high' b was
    (record {
      shorter = λ k n' l. let differs : k ≢ BLOCK * b = λ e'. n' (omega arith) in omega (arith, differs);
      longer = λ k n' l. omega arith;
      same_low = λ k n' l. push_other low n k l;
      same_high = begun.same;
    })
    (record {
      long = omega (arith, begun.long);
      short = omega (arith, begun.long);
      below = λ k e' l. let is : k ≡ BLOCK * b = omega arith in subst (λ i. get_or high' b 0 ≤ get_or (low ++ n ∷ []) i 0) (sym is) (omega (arith, begun.at));
      reached = λ l. (BLOCK * b, record { inside = omega arith; within = omega arith; is = last ∙ sym begun.at });
    })

-- Where a block goes on, the least of it is the new number or the least before.
pub summary-next : (low high high' : List ℕ) (n b : ℕ) → IsSummary low high → length low / BLOCK ≡ b → (length low % BLOCK ≡ 0 → ⊥) → length high' ≡ length high
    → ((j : ℕ) → j ≢ b → get_or high' j 0 ≡ get_or high j 0) → get_or high' b 0 ≤ n → get_or high' b 0 ≤ get_or high b 0
    → (get_or high' b 0 ≡ n) ⊎ (get_or high' b 0 ≡ get_or high b 0) → IsSummary (low ++ n ∷ []) high'
summary-next low high high' n b was e inner long same below_n below_old from =
    let last : get_or (low ++ n ∷ []) (length low) 0 ≡ n = get_or_push low n 0 (length low) refl in
    let one : length (low ++ n ∷ []) ≡ length low + 1 = length_push low n in
    summary-change low high (low ++ n ∷ []) high' b was
    (record {
      shorter = λ k n' l. let differs : k ≢ length low = λ e'. n' (subst (λ i. i / BLOCK ≡ b) (sym e') e) in omega (arith, differs);
      longer = λ k n' l. omega arith;
      same_low = λ k n' l. push_other low n k l;
      same_high = same;
    })
    (record {
      long = omega (arith, was.long, inner);
      short = omega (arith, was.short);
      below = λ k e' l. under k e' (cases_lt k (length low)) l;
      reached = λ l. there from;
    })
  where
    under : (k : ℕ) → k / BLOCK ≡ b → (k < length low) ⊎ (length low ≤ k) → k < length (low ++ n ∷ []) → get_or high' b 0 ≤ get_or (low ++ n ∷ []) k 0
    under k e' (inl small) l = let at = was.below k small in let same' = push_other low n k small in omega (arith, subst (λ j. get_or high j 0 ≤ get_or low k 0) e' at)
    under k e' (inr big) l = let is : k ≡ length low = omega (arith, length_push low n) in subst (λ i. get_or high' b 0 ≤ get_or (low ++ n ∷ []) i 0) (sym is) (omega (arith, get_or_push low n 0 (length low) refl))

    there : (get_or high' b 0 ≡ n) ⊎ (get_or high' b 0 ≡ get_or high b 0) → (k : ℕ) × IsLeastOf (low ++ n ∷ []) b (get_or high' b 0) k
    there (inl new) = (length low, record { inside = e; within = omega (arith, length_push low n); is = get_or_push low n 0 (length low) refl ∙ sym new })
    there (inr old) =
        let r = was.reached b (omega (arith, inner)) in
        let k = r.0 in
        let w : IsLeastOf low b (get_or high b 0) k = r.1 in
        (k, record { inside = w.inside; within = omega (arith, w.within, length_push low n); is = push_other low n k w.within ∙ w.is ∙ sym old })
