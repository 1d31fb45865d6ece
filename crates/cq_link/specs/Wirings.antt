-- Which links the ends of parties are of, and what was put on them and taken from them.
use Rattle.std.specs.Prelude.{◌≡◌, ℕ, zero, suc, List, [], ◌∷◌, length, map, slice_get, Option, Some, None}
use Rattle.std.specs.List.{All}
use Rattle.cq_base.specs.Relations.{IsPrefix}
use Rattle.cq_link.specs.declared.link.Putter.{Putter}
use Rattle.cq_link.specs.declared.link.Taker.{Taker}
use Rattle.cq_link.specs.Links.{LinkId, putter_link, taker_link, put_on, taken_from}
use Rattle.cq_link.specs.declared.ports.Ports.{Ports}

-- which links the ends of a party are of, in the order of the parties at their other ends
pub record Wiring : Type 0 where
  pub outs : List LinkId
  pub ins : List LinkId

-- what stands in a row at a place
abbrev pub cell : {X : Type 0} → List (List X) → ℕ → ℕ → Option X
cell [] i j = None
cell (row ∷ rows) zero j = slice_get row j
cell (row ∷ rows) (suc i) j = cell rows i j

-- the link of the end of party i towards party j
abbrev pub out_at : List Wiring → ℕ → ℕ → Option LinkId
out_at parties i j = cell (map (λ party. party.outs) parties) i j

-- the link of the end of party i from party j
abbrev pub in_at : List Wiring → ℕ → ℕ → Option LinkId
in_at parties i j = cell (map (λ party. party.ins) parties) i j

-- the end towards party j of party i, and that from party i of party j, are of one link, or neither is there
abbrev pub AreCrossed : List Wiring → Type 0
AreCrossed parties = (i j : ℕ) → out_at parties i j ≡ in_at parties j i

module _ {T : Type 0} where
  abbrev pub wiring : List (Ports T) → List Wiring
  wiring ports = map (λ p. record { outs = map putter_link p.outs.items; ins = map taker_link p.ins.items }) ports

  -- nothing was put on any of a party's ends, and nothing was taken
  abbrev pub IsUnused : Ports T → Type 0
  IsUnused p = All (λ out. put_on out ≡ []) p.outs.items × All (λ end. taken_from end ≡ []) p.ins.items

  abbrev pub AreUnused : List (Ports T) → Type 0
  AreUnused ports = All IsUnused ports

  -- so many parties, of which each has an end towards each and one from each
  abbrev pub IsSquare : ℕ → List (Ports T) → Type 0
  IsSquare parties ports = (length ports ≡ parties) × All (λ p. (length p.outs.items ≡ parties) × (length p.ins.items ≡ parties)) ports

  -- for each two parties, what was taken by the second from the first is a prefix of what the first put
  abbrev pub HaveDelivered : List (Ports T) → Type 0
  HaveDelivered ports = (i j : ℕ) (a b : Ports T) (out : Putter T) (end : Taker T) → slice_get ports i ≡ Some a → slice_get ports j ≡ Some b
      → slice_get a.outs.items j ≡ Some out → slice_get b.ins.items i ≡ Some end → IsPrefix (taken_from end) (put_on out)
