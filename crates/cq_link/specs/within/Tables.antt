-- Tables, which are lists of rows, and the tables of the ends of links.
use Rattle.std.specs.Prelude.{◌≡◌, ℕ, List, [], ◌∷◌, ◌++◌, length, map, drop, zero, suc, Some, slice_get}
use Rattle.std.specs.List.{All}
use Rattle.cq_base.specs.Relations.{IsPrefix}
use Rattle.cq_link.specs.declared.link.Putter.{Putter}
use Rattle.cq_link.specs.declared.link.Taker.{Taker}
use Rattle.cq_link.specs.Links.{putter_link, taker_link, put_on, taken_from}
use Rattle.cq_link.specs.Wirings.{cell}

module _ {X : Type 0} where
  -- the rows, with the items each behind the row at its place
  abbrev pub with_column : List (List X) → List X → List (List X)
  with_column [] xs = []
  with_column (row ∷ rows) [] = row ∷ rows
  with_column (row ∷ rows) (x ∷ xs) = (row ++ x ∷ []) ∷ with_column rows xs

  -- without the first item of each of so many rows
  abbrev pub without_firsts : ℕ → List (List X) → List (List X)
  without_firsts zero rows = rows
  without_firsts (suc n) [] = []
  without_firsts (suc n) (row ∷ rows) = drop 1 row ∷ without_firsts n rows

  -- so many rows of so many items
  abbrev pub IsTable : ℕ → ℕ → List (List X) → Type 0
  IsTable high wide rows = (length rows ≡ high) × All (λ row. length row ≡ wide) rows

module _ {T : Type 0} where
  -- the end at place j of row i, and that at place i of column j, are of one link
  abbrev pub AreJoined : List (List (Putter T)) → List (List (Taker T)) → Type 0
  AreJoined rows columns = (i j : ℕ) → cell (map (map putter_link) rows) i j ≡ cell (map (map taker_link) columns) j i

  -- nothing was put on these
  abbrev pub AreUnput : List (Putter T) → Type 0
  AreUnput outs = All (λ out. put_on out ≡ []) outs

  -- nothing was taken from these
  abbrev pub AreUntaken : List (Taker T) → Type 0
  AreUntaken ins = All (λ end. taken_from end ≡ []) ins

  -- what was taken from the one is a prefix of what was put on the other
  abbrev pub HasDelivered : Putter T → Taker T → Type 0
  HasDelivered out end = IsPrefix (taken_from end) (put_on out)

  -- the ends of a row, and the first ends of columns, are of the same links
  abbrev pub AreHeaded : List (Putter T) → List (List (Taker T)) → Type 0
  AreHeaded row columns = (j : ℕ) → slice_get (map putter_link row) j ≡ cell (map (map taker_link) columns) j 0

  -- so it is for each end of a row and the first end of the column at its place
  abbrev pub FirstsHaveDelivered : List (Putter T) → List (List (Taker T)) → Type 0
  FirstsHaveDelivered outs columns = (j : ℕ) (out : Putter T) (end : Taker T) → slice_get outs j ≡ Some out → cell columns j 0 ≡ Some end → HasDelivered out end

  -- so it is for each row and column
  abbrev pub HaveAllDelivered : List (List (Putter T)) → List (List (Taker T)) → Type 0
  HaveAllDelivered rows columns = (i j : ℕ) (out : Putter T) (end : Taker T) → cell rows i j ≡ Some out → cell columns j i ≡ Some end → HasDelivered out end

  -- the ends of a new row of links, of which the others stand behind each column
  pub record IsNewRow (outs : List (Putter T)) (old new : List (List (Taker T))) : Type 0 where
    pub ends : List (Taker T)
    pub links : map putter_link outs ≡ map taker_link ends
    pub unput : AreUnput outs
    pub untaken : AreUntaken ends
    pub columns : new ≡ with_column old ends

  -- so many rows of new ends, of which the others are in so many columns
  pub record AreWired (high wide : ℕ) (outs : List (List (Putter T))) (ins : List (List (Taker T))) : Type 0 where
    pub rows : IsTable high wide outs
    pub columns : IsTable wide high ins
    pub joined : AreJoined outs ins
    pub unput : All AreUnput outs
    pub untaken : All AreUntaken ins
