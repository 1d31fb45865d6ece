-- What is written behind the last chunk of a snapshot.
use Rattle.std.proofs.Common.{◌≡◌, ℕ, Bool, true, List, [], ◌++◌, refl, sym, subst, ap}
use Rattle.cq_store.specs.Stands.{StoreKept}
use Rattle.cq_store_wire.specs.declared.part.Part.{Part}
use Rattle.cq_store_wire.specs.declared.writer.Place.{Place}
use Rattle.cq_store_wire.specs.declared.writer.Place.TheVariants as places
use Rattle.cq_store_wire.specs.declared.writer.StoreWriter.{StoreWriter}
use Rattle.cq_store_wire.specs.Order.{parts_from}
use Rattle.cq_chain_wire.specs.Pieces.{IsNextOfSnapshot, parts_left, snapshot_end}

-- behind what was there is the next piece of a snapshot
abbrev pub HasNext : List Part → List Part → Bool → List ℕ → List ℕ → Type 0
HasNext before after is_done was now = (text : List ℕ) × (now ≡ was ++ text) × IsNextOfSnapshot before after is_done text

-- at its end a store has no parts left
none-left : (kept : StoreKept) (writer : StoreWriter) → writer.place ≡ places.End → parts_left kept writer ≡ []
unfolding parts_from
none-left kept writer end = ap (λ (place : Place). parts_from kept writer.bodies place) end

pub end-next : (kept : StoreKept) (writer : StoreWriter) (after : List Part) (is_done : Bool) (was now : List ℕ) → writer.place ≡ places.End → is_done ≡ true → now ≡ was ++ snapshot_end → HasNext (parts_left kept writer) after is_done was now
end-next kept writer after is_done was now end done e =
    subst (λ (before : List Part). HasNext before after is_done was now) (sym (none-left kept writer end)) (snapshot_end, e, (done, refl))
