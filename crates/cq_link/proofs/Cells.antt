-- Cells of tables.
use Rattle.std.proofs.Common.{◌≡◌, ℕ, zero, suc, ◌+◌, ◌<◌, ◌≤◌, ◌∙◌, ap, sym, refl, subst, arith, ◌⊎◌, ⊎_elim, List, [], ◌∷◌, ◌++◌, map, length, take, drop, set, replicate, slice_get, Some, None}
use Rattle.std.proofs.lemmas.List.{append-nil, drop_all, length_push, map_push, take_all}
use Rattle.std.proofs.lemmas.List.Elements.{All-nil, All-cons, All-head, All-tail}
use Rattle.std.specs.List.{All}
use Rattle.std.proofs.lemmas.Option.{same_Some, none-some, slice_get-map}
use Rattle.std.specs.Option.{option_map}
use Rattle.cq_link.specs.Wirings.{cell}
use Rattle.cq_link.specs.within.Tables.{with_column, without_firsts}

-- ---- a row

pub get_drop : {X : Type 0} (xs : List X) (j : ℕ) → slice_get (drop 1 xs) j ≡ slice_get xs (suc j)
get_drop [] j = refl
get_drop (x ∷ xs) j = refl

pub map_drop : {X Y : Type 0} (f : X → Y) (xs : List X) → map f (drop 1 xs) ≡ drop 1 (map f xs)
map_drop f [] = refl
map_drop f (x ∷ xs) = refl

-- ---- without the first items

pub cell_drop : {X : Type 0} (rows : List (List X)) (i j : ℕ) → cell (map (drop 1) rows) i j ≡ cell rows i (suc j)
cell_drop [] i j = refl
cell_drop (row ∷ rows) zero j = get_drop row j
cell_drop (row ∷ rows) (suc i) j = cell_drop rows i j

pub map_map_drop : {X Y : Type 0} (f : X → Y) (rows : List (List X)) → map (map f) (map (drop 1) rows) ≡ map (drop 1) (map (map f) rows)
map_map_drop f [] = refl
map_map_drop f (row ∷ rows) = ap (λ r. r ∷ map (map f) (map (drop 1) rows)) (map_drop f row) ∙ ap (λ rs. drop 1 (map f row) ∷ rs) (map_map_drop f rows)

-- the row at the next place loses its first item
pub one_more_first : {X : Type 0} (rows : List (List X)) (i : ℕ) (row : List X) → slice_get rows i ≡ Some row → set (without_firsts i rows) i (drop 1 row) ≡ without_firsts (suc i) rows
one_more_first [] i row is = absurd (none-some row is)
one_more_first (r ∷ rows) zero row is = ap (λ x. drop 1 x ∷ rows) (sym (same_Some r row is))
one_more_first (r ∷ rows) (suc i) row is = ap (λ rs. drop 1 r ∷ rs) (one_more_first rows i row is)

-- so far it is as it was
pub next_is_same : {X : Type 0} (rows : List (List X)) (i : ℕ) → slice_get (without_firsts i rows) i ≡ slice_get rows i
next_is_same [] zero = refl
next_is_same [] (suc i) = refl
next_is_same (r ∷ rows) zero = refl
next_is_same (r ∷ rows) (suc i) = next_is_same rows i

pub all_firsts : {X : Type 0} (rows : List (List X)) → without_firsts (length rows) rows ≡ map (drop 1) rows
all_firsts [] = refl
all_firsts (r ∷ rows) = ap (λ rs. drop 1 r ∷ rs) (all_firsts rows)

-- ---- with an item more in each row

-- a row at a place gets the next item
pub one_more_item : {X : Type 0} (rows : List (List X)) (xs : List X) (row : List X) (x : X) → slice_get rows (length xs) ≡ Some row
    → set (with_column rows xs) (length xs) (row ++ x ∷ []) ≡ with_column rows (xs ++ x ∷ [])
one_more_item [] xs row x is = absurd (none-some row is)
one_more_item (r ∷ rows) [] row x is = go rows where
  go : (rs : List (List _)) → (row ++ x ∷ []) ∷ rs ≡ (r ++ x ∷ []) ∷ with_column rs []
  go [] = ap (λ u. (u ++ x ∷ []) ∷ []) (sym (same_Some r row is))
  go (s ∷ rs) = ap (λ u. (u ++ x ∷ []) ∷ s ∷ rs) (sym (same_Some r row is))
one_more_item (r ∷ rows) (y ∷ xs) row x is = ap (λ rs. (r ++ y ∷ []) ∷ rs) (one_more_item rows xs row x is)

pub column_is_same : {X : Type 0} (rows : List (List X)) (xs : List X) → slice_get (with_column rows xs) (length xs) ≡ slice_get rows (length xs)
column_is_same [] [] = refl
column_is_same [] (x ∷ xs) = refl
column_is_same (r ∷ rows) [] = refl
column_is_same (r ∷ rows) (x ∷ xs) = column_is_same rows xs

pub length_column : {X : Type 0} (rows : List (List X)) (xs : List X) → length (with_column rows xs) ≡ length rows
length_column [] xs = refl
length_column (r ∷ rows) [] = refl
length_column (r ∷ rows) (x ∷ xs) = ap suc (length_column rows xs)

pub map_column : {X Y : Type 0} (f : X → Y) (rows : List (List X)) (xs : List X) → map (map f) (with_column rows xs) ≡ with_column (map (map f) rows) (map f xs)
map_column f [] xs = refl
map_column f (r ∷ rows) [] = refl
map_column f (r ∷ rows) (x ∷ xs) = ap (λ r'. r' ∷ map (map f) (with_column rows xs)) (mapped r) ∙ ap (λ rs. (map f r ++ f x ∷ []) ∷ rs) (map_column f rows xs) where
  mapped : (ys : List _) → map f (ys ++ x ∷ []) ≡ map f ys ++ f x ∷ []
  mapped [] = refl
  mapped (y ∷ ys) = ap (λ us. f y ∷ us) (mapped ys)

pub no_column : {X : Type 0} (rows : List (List X)) → with_column rows [] ≡ rows
no_column [] = refl
no_column (r ∷ rows) = refl

-- ---- cells

pub cell_at : {X : Type 0} (rows : List (List X)) (i j : ℕ) (row : List X) → slice_get rows i ≡ Some row → cell rows i j ≡ slice_get row j
cell_at [] i j row is = absurd (none-some row is)
cell_at (r ∷ rows) zero j row is = ap (λ (xs : List _). slice_get xs j) (same_Some r row is)
cell_at (r ∷ rows) (suc i) j row is = cell_at rows i j row is

pub cell_within : {X : Type 0} (rows : List (List X)) (i j : ℕ) (x : X) → cell rows i j ≡ Some x → i < length rows
cell_within [] i j x is = absurd (none-some x is)
cell_within (r ∷ rows) zero j x is = omega arith
cell_within (r ∷ rows) (suc i) j x is = let h : i < length rows = cell_within rows i j x is in omega arith

pub cell_map : {X Y : Type 0} (f : X → Y) (rows : List (List X)) (i j : ℕ) → cell (map (map f) rows) i j ≡ option_map f (cell rows i j)
cell_map f [] i j = refl
cell_map f (r ∷ rows) zero j = slice_get-map f r j
cell_map f (r ∷ rows) (suc i) j = cell_map f rows i j

pub first_of_rest : {X : Type 0} (xs : List X) (k : ℕ) → slice_get (drop k xs) 0 ≡ slice_get xs k
first_of_rest [] zero = refl
first_of_rest [] (suc k) = refl
first_of_rest (x ∷ xs) zero = refl
first_of_rest (x ∷ xs) (suc k) = first_of_rest xs k

-- ---- one more row

pub get_prefix : {X : Type 0} (xs ys : List X) (i : ℕ) → i < length xs → slice_get (xs ++ ys) i ≡ slice_get xs i
get_prefix [] ys i below = absurd (omega arith)
get_prefix (x ∷ xs) ys zero below = refl
get_prefix (x ∷ xs) ys (suc i) below = get_prefix xs ys i (omega arith)

pub get_end : {X : Type 0} (xs : List X) (x : X) → slice_get (xs ++ x ∷ []) (length xs) ≡ Some x
get_end [] x = refl
get_end (y ∷ xs) x = get_end xs x

pub get_past : {X : Type 0} (xs : List X) (x : X) (i : ℕ) → length xs < i → slice_get (xs ++ x ∷ []) i ≡ None
get_past [] x zero over = absurd (omega arith)
get_past [] x (suc i) over = refl
get_past (y ∷ xs) x zero over = absurd (omega arith)
get_past (y ∷ xs) x (suc i) over = get_past xs x i (omega arith)

pub take_next : {X : Type 0} (xs : List X) (k : ℕ) (x : X) → slice_get xs k ≡ Some x → take (k + 1) xs ≡ take k xs ++ x ∷ []
take_next [] k x is = absurd (none-some x is)
take_next (y ∷ xs) zero x is = ap (λ z. z ∷ []) (same_Some y x is)
take_next (y ∷ xs) (suc k) x is = rw (let e : suc k + 1 ≡ suc (k + 1) = omega arith in e) (ap (λ zs. y ∷ zs) (take_next xs k x is))

pub past_end : {X : Type 0} (xs : List X) (k : ℕ) → slice_get xs k ≡ None → length xs ≤ k
past_end [] k none = omega arith
past_end (x ∷ xs) zero none = absurd (none-some x (sym none))
past_end (x ∷ xs) (suc k) none = let h : length xs ≤ k = past_end xs k none in omega arith

pub row_prefix : {X : Type 0} (rows : List (List X)) (row : List X) (i j : ℕ) → i < length rows → cell (rows ++ row ∷ []) i j ≡ cell rows i j
row_prefix [] row i j below = absurd (omega arith)
row_prefix (r ∷ rows) row zero j below = refl
row_prefix (r ∷ rows) row (suc i) j below = row_prefix rows row i j (omega arith)

pub row_end : {X : Type 0} (rows : List (List X)) (row : List X) (j : ℕ) → cell (rows ++ row ∷ []) (length rows) j ≡ slice_get row j
row_end [] row j = refl
row_end (r ∷ rows) row j = row_end rows row j

pub row_past : {X : Type 0} (rows : List (List X)) (row : List X) (i j : ℕ) → length rows < i → cell (rows ++ row ∷ []) i j ≡ None
row_past [] row zero j over = absurd (omega arith)
row_past [] row (suc i) j over = refl
row_past (r ∷ rows) row zero j over = absurd (omega arith)
row_past (r ∷ rows) row (suc i) j over = row_past rows row i j (omega arith)

-- ---- one more item in each row

-- each row has so many items
abbrev pub AreLong : {X : Type 0} → ℕ → List (List X) → Type 0
AreLong k rows = All (λ row. length row ≡ k) rows

pub head_long : {X : Type 0} (k : ℕ) (row : List X) (rows : List (List X)) → AreLong k (row ∷ rows) → length row ≡ k
head_long {X} k row rows long = All-head (λ (r : List X). length r ≡ k) row rows long

pub tail_long : {X : Type 0} (k : ℕ) (row : List X) (rows : List (List X)) → AreLong k (row ∷ rows) → AreLong k rows
tail_long {X} k row rows long = All-tail (λ (r : List X). length r ≡ k) row rows long

pub column_prefix : {X : Type 0} (k : ℕ) (rows : List (List X)) (xs : List X) (j i : ℕ) → AreLong k rows → i < k → cell (with_column rows xs) j i ≡ cell rows j i
column_prefix k [] xs j i long below = refl
column_prefix k (r ∷ rows) [] j i long below = refl
column_prefix k (r ∷ rows) (x ∷ xs) zero i long below = let e : length r ≡ k = head_long k r rows long in get_prefix r (x ∷ []) i (omega arith)
column_prefix k (r ∷ rows) (x ∷ xs) (suc j) i long below = column_prefix k rows xs j i (tail_long k r rows long) below

pub column_end : {X : Type 0} (k : ℕ) (rows : List (List X)) (xs : List X) (j : ℕ) → AreLong k rows → length xs ≡ length rows → cell (with_column rows xs) j k ≡ slice_get xs j
column_end k [] [] j long same = refl
column_end k [] (x ∷ xs) j long same = absurd (omega arith)
column_end k (r ∷ rows) [] j long same = absurd (omega arith)
column_end {X} k (r ∷ rows) (x ∷ xs) zero long same = subst (λ n. slice_get (r ++ x ∷ []) n ≡ Some x) (head_long k r rows long) (get_end r x)
column_end k (r ∷ rows) (x ∷ xs) (suc j) long same = column_end k rows xs j (tail_long k r rows long) (omega arith)

pub column_past : {X : Type 0} (k : ℕ) (rows : List (List X)) (xs : List X) (j i : ℕ) → AreLong k rows → length xs ≡ length rows → k < i → cell (with_column rows xs) j i ≡ None
column_past k [] xs j i long same over = refl
column_past k (r ∷ rows) [] j i long same over = absurd (omega arith)
column_past k (r ∷ rows) (x ∷ xs) zero i long same over = let e : length r ≡ k = head_long k r rows long in get_past r x i (omega arith)
column_past k (r ∷ rows) (x ∷ xs) (suc j) i long same over = column_past k rows xs j i (tail_long k r rows long) (omega arith) over

pub column_long : {X : Type 0} (k : ℕ) (rows : List (List X)) (xs : List X) → AreLong k rows → length xs ≡ length rows → AreLong (k + 1) (with_column rows xs)
column_long {X} k [] xs long same = All-nil (λ (r : List X). length r ≡ k + 1)
column_long k (r ∷ rows) [] long same = absurd (omega arith)
column_long {X} k (r ∷ rows) (x ∷ xs) long same = All-cons (λ (r : List X). length r ≡ k + 1) (r ++ x ∷ []) (with_column rows xs) (length_push r x ∙ ap (λ n. n + 1) (head_long k r rows long)) (column_long k rows xs (tail_long k r rows long) (omega arith))

-- the new row stands behind the columns
pub crossed_more : {X : Type 0} (k : ℕ) (rows columns : List (List X)) (row : List X) → length rows ≡ k → AreLong k columns → length row ≡ length columns
    → ((i j : ℕ) → cell rows i j ≡ cell columns j i) → (i j : ℕ) → cell (rows ++ row ∷ []) i j ≡ cell (with_column columns row) j i
crossed_more k rows columns row high long same so i j = ⊎_elim below (⊎_elim here over) cases where
  cases : (i < k) ⊎ ((i ≡ k) ⊎ (k < i))
  cases = grind arith

  below : i < k → cell (rows ++ row ∷ []) i j ≡ cell (with_column columns row) j i
  below h = row_prefix rows row i j (omega arith) ∙ so i j ∙ sym (column_prefix k columns row j i long h)

  here : i ≡ k → cell (rows ++ row ∷ []) i j ≡ cell (with_column columns row) j i
  here e = ap (λ n. cell (rows ++ row ∷ []) n j) (e ∙ sym high) ∙ row_end rows row j ∙ sym (column_end k columns row j long same) ∙ ap (λ n. cell (with_column columns row) j n) (sym e)

  over : k < i → cell (rows ++ row ∷ []) i j ≡ cell (with_column columns row) j i
  over h = row_past rows row i j (omega arith) ∙ sym (column_past k columns row j i long same h)

pub no_cells : {X Y : Type 0} (f : X → Y) (n i j : ℕ) → cell (map (map f) (replicate n [])) i j ≡ None
no_cells f zero i j = refl
no_cells f (suc n) zero j = refl
no_cells f (suc n) (suc i) j = no_cells f n i j

-- ---- what a slice wrote back

pub written : {X : Type 0} (len : ℕ) (new old : List X) → length new ≡ length old → len ≡ length old → take len (new ++ drop (length new) old) ≡ new
written len new old same all = ap (λ xs. take len (new ++ xs)) (drop_all (length new) old (omega arith)) ∙ ap (λ xs. take len xs) (append-nil new) ∙ take_all len new (omega arith)

-- ---- a list that is gone through, one item after the other

pub gone_more : {P X Y : Type 0} (h : P → Y) (f : X → Y) (items after : List P) (p : P) (xs : List X) (n m : ℕ) (x : X)
    → map h items ≡ map f (take n xs) → after ≡ items ++ p ∷ [] → m ≡ n + 1 → slice_get xs n ≡ Some x → h p ≡ f x → map h after ≡ map f (take m xs)
gone_more {P} {X} {Y} h f items after p xs n m x so pushed next is same =
    ap (λ (ps : List P). map h ps) pushed ∙ map_push h items p ∙ ap (λ (ys : List Y). ys ++ h p ∷ []) so ∙ ap (λ (y : Y). map f (take n xs) ++ y ∷ []) same
    ∙ sym (map_push f (take n xs) x) ∙ ap (λ (zs : List X). map f zs) (sym (take_next xs n x is)) ∙ ap (λ k. map f (take k xs)) (sym next)

pub gone_all : {X Y : Type 0} (f : X → Y) (ys : List Y) (xs : List X) (n : ℕ) → ys ≡ map f (take n xs) → length xs ≤ n → ys ≡ map f xs
gone_all {X} f ys xs n so over = so ∙ ap (λ (zs : List X). map f zs) (take_all n xs over)
