-- What the next of an iterator is, and the ends of a row with the firsts of columns.
use Rattle.std.proofs.Common.{◌≡◌, ℕ, zero, suc, ◌+◌, ◌<◌, ◌≤◌, ◌∙◌, ap, sym, subst, arith, ⊎_elim, ◌⊎◌, List, [], ◌∷◌, ◌++◌, map, length, set, get_or, take, drop, slice_get, Option, Some, None, Global}
use Rattle.std.proofs.lemmas.List.{map-set, drop-drop, nil_from_length}
use Rattle.std.proofs.lemmas.Option.{slice_get-map, slice_get-get_or, same_Some, none-some}
use Rattle.std.specs.Option.{option_map}
use Rattle.std.specs.declared.vec.IntoIter.{IntoIter}
use Rattle.std.specs.Vec.Iter.{into_iter_items, into_iter_len, into_iter_steps}
use Rattle.cq_link.specs.declared.link.Putter.{Putter}
use Rattle.cq_link.specs.declared.link.Taker.{Taker}
use Rattle.cq_link.specs.Links.{LinkId, putter_link, taker_link}
use Rattle.cq_link.specs.Wirings.{cell}
use Rattle.cq_link.specs.within.Tables.{AreHeaded, HasDelivered, FirstsHaveDelivered, AreJoined, HaveAllDelivered, without_firsts}
use Rattle.cq_link.proofs.Cells.{next_is_same, one_more_first, cell_at, cell_within, cell_map, cell_drop, map_map_drop, first_of_rest, written}

-- ---- the next of an iterator

module _ {X : Type 0} where
  pub taken_first : (it after : IntoIter X Global) (r : Option X) → into_iter_steps it r after → (slice_get (into_iter_items it) 0 ≡ r) × (into_iter_items after ≡ drop 1 (into_iter_items it))
  taken_first it after (Some x) steps = (ap (λ (xs : List X). slice_get xs 0) steps.0, sym (ap (λ (xs : List X). drop 1 xs) steps.0))
  taken_first it after None steps =
      let none : into_iter_items it ≡ [] = nil_from_length (into_iter_items it) (sym it.rest.ok.0 ∙ steps.0) in
      let over : into_iter_items after ≡ [] = nil_from_length (into_iter_items after) (sym after.rest.ok.0 ∙ steps.1) in
      (ap (λ (xs : List X). slice_get xs 0) none, over ∙ sym (ap (λ (xs : List X). drop 1 xs) none))

  -- the next item is that at the next place
  pub next_of : (it after : IntoIter X Global) (r : Option X) (xs : List X) (k : ℕ) → into_iter_items it ≡ drop k xs → into_iter_steps it r after → (slice_get xs k ≡ r) × (into_iter_items after ≡ drop (k + 1) xs)
  next_of it after r xs k left steps =
      let taken = taken_first it after r steps in
      (sym (first_of_rest xs k) ∙ ap (λ (ys : List X). slice_get ys 0) (sym left) ∙ taken.0, taken.1 ∙ ap (λ (ys : List X). drop 1 ys) left ∙ drop-drop 1 k xs)

  -- the next of the column at the next place is its first item
  pub next_of_column : (columns : List (IntoIter X Global)) (rows : List (List X)) (k : ℕ) (item after : IntoIter X Global) (r : Option X)
      → map into_iter_items columns ≡ without_firsts k rows → k < length columns → into_iter_steps (get_or columns k item) r after
      → (cell rows k 0 ≡ r) × (map into_iter_items (set columns k after) ≡ without_firsts (k + 1) rows)
  next_of_column columns rows k item after r are within steps = (cell_at rows k 0 column here ∙ taken.0, changed) where
    it : IntoIter X Global
    it = get_or columns k item

    column : List X
    column = into_iter_items it

    taken : (slice_get column 0 ≡ r) × (into_iter_items after ≡ drop 1 column)
    taken = taken_first it after r steps

    here : slice_get rows k ≡ Some column
    here = sym (next_is_same rows k) ∙ ap (λ (cs : List (List X)). slice_get cs k) (sym are) ∙ slice_get-map (into_iter_items {X = X} {Z = Global}) columns k ∙ ap (option_map (into_iter_items {X = X} {Z = Global})) (slice_get-get_or columns k item within)

    changed : map into_iter_items (set columns k after) ≡ without_firsts (k + 1) rows
    changed = map-set (into_iter_items {X = X} {Z = Global}) columns k after ∙ ap (λ (c : List X). set (map into_iter_items columns) k c) taken.1 ∙ ap (λ (cs : List (List X)). set cs k (drop 1 column)) are
        ∙ one_more_first rows k column here ∙ ap (λ n. without_firsts n rows) (let e : suc k ≡ k + 1 = omega arith in e)

-- ---- a row

module _ {T : Type 0} where
  pub headed : (row : List (Putter T)) (columns : List (List (Taker T))) (k : ℕ) (r : Option (Putter T)) (s : Option (Taker T)) → AreHeaded row columns → slice_get row k ≡ r → cell columns k 0 ≡ s
      → (out : Putter T) (end : Taker T) → r ≡ Some out → s ≡ Some end → putter_link out ≡ taker_link end
  headed row columns k r s heads at-row at-column out end is-out is-end = same_Some _ _
      (ap (option_map putter_link) (sym (at-row ∙ is-out)) ∙ sym (slice_get-map putter_link row k) ∙ heads k ∙ cell_map taker_link columns k 0 ∙ ap (option_map taker_link) (at-column ∙ is-end))

  pub delivered_more : (row : List (Putter T)) (columns : List (List (Taker T))) (k : ℕ) (r : Option (Putter T)) (s : Option (Taker T))
      → ((j : ℕ) (out : Putter T) (end : Taker T) → j < k → slice_get row j ≡ Some out → cell columns j 0 ≡ Some end → HasDelivered out end)
      → slice_get row k ≡ r → cell columns k 0 ≡ s → ((out : Putter T) (end : Taker T) → r ≡ Some out → s ≡ Some end → HasDelivered out end)
      → (j : ℕ) (out : Putter T) (end : Taker T) → j < k + 1 → slice_get row j ≡ Some out → cell columns j 0 ≡ Some end → HasDelivered out end
  delivered_more row columns k r s so at-row at-column new j out end below is-out is-end = ⊎_elim (λ less. so j out end less is-out is-end) here cases where
    cases : (j < k) ⊎ (j ≡ k)
    cases = grind arith

    here : j ≡ k → HasDelivered out end
    here e = new out end (sym at-row ∙ subst (λ n. slice_get row n ≡ Some out) e is-out) (sym at-column ∙ subst (λ n. cell columns n 0 ≡ Some end) e is-end)

  pub all_delivered : (row : List (Putter T)) (columns : List (List (Taker T))) (k : ℕ) → length columns ≤ k
      → ((j : ℕ) (out : Putter T) (end : Taker T) → j < k → slice_get row j ≡ Some out → cell columns j 0 ≡ Some end → HasDelivered out end)
      → FirstsHaveDelivered row columns
  all_delivered row columns k over so j out end is-out is-end =
      let within : j < length columns = cell_within columns j 0 end is-end in
      so j out end (omega arith) is-out is-end

  -- ---- row after row

  pub joined_first : (row : List (Putter T)) (rows : List (List (Putter T))) (columns : List (List (Taker T))) → AreJoined (row ∷ rows) columns → AreHeaded row columns
  joined_first row rows columns joined j = joined 0 j

  pub joined_rest : (row : List (Putter T)) (rows : List (List (Putter T))) (columns : List (List (Taker T))) → AreJoined (row ∷ rows) columns → AreJoined rows (map (drop 1) columns)
  joined_rest row rows columns joined i j = joined (suc i) j ∙ sym (cell_drop (map (map taker_link) columns) j i) ∙ ap (λ (cs : List (List LinkId)). cell cs j i) (sym (map_map_drop (taker_link {T = T}) columns))

  pub delivered_first : (row : List (Putter T)) (rows : List (List (Putter T))) (columns : List (List (Taker T)))
      → FirstsHaveDelivered row columns → HaveAllDelivered rows (map (drop 1) columns) → HaveAllDelivered (row ∷ rows) columns
  delivered_first row rows columns first rest zero j out end is-out is-end = first j out end is-out is-end
  delivered_first row rows columns first rest (suc i) j out end is-out is-end = rest i j out end is-out (cell_drop columns j i ∙ is-end)

  pub nothing_to_deliver : (columns : List (List (Taker T))) → HaveAllDelivered [] columns
  nothing_to_deliver columns i j out end is-out is-end = absurd (none-some out is-out)

-- ---- iterators that lose their firsts

module _ {X : Type 0} where
  pub nothing_left : (it : IntoIter X Global) → into_iter_len it ≡ 0 → into_iter_items it ≡ []
  nothing_left it none = nil_from_length (into_iter_items it) (sym it.rest.ok.0 ∙ none)

  pub columns_after : (len : ℕ) (columns now after : List (IntoIter X Global)) → now ≡ columns → length after ≡ length now → len ≡ length columns
      → map into_iter_items after ≡ map (drop 1) (map into_iter_items now) → map into_iter_items (take len (after ++ drop (length after) columns)) ≡ map (drop 1) (map into_iter_items columns)
  columns_after len columns now after seen same all is = ap (λ (cs : List (IntoIter X Global)). map into_iter_items cs) (written len after columns (same ∙ ap length seen) all) ∙ is ∙ ap (λ (cs : List (IntoIter X Global)). map (drop 1) (map into_iter_items cs)) seen

pub moved : {A B : Type 0} (P : A → B → Type 0) (a a' : A) (b b' : B) → a ≡ a' → b ≡ b' → P a b → P a' b'
moved P a a' b b' e f p = subst (P a') f (subst (λ x. P x b) e p)
