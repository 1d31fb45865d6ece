-- The statements of the laws, and what holds of each store.
use Rattle.std.specs.Prelude.{◌≡◌, ℕ, ◌<◌, List, map, Ok, nat_eq}
use Rattle.std.specs.List.{All, AllByRecursion, IsDistinct, flat_map}
use Rattle.std.specs.Map.{keys_of, values_of}
use Rattle.std.specs.Str.{bytes_eq}
use Rattle.cq_base.specs.queue.Incarnations.{Incarnation}
use Rattle.cq_messages.specs.Ordered.{IsRising}
use Rattle.cq_queue.specs.Parts.{AreInOrder, AreParts}
use Rattle.cq_store.specs.Parts.{IsWithin}
use Rattle.cq_store.specs.Stands.{QueueRecord, StoreKept}
use Rattle.cq_wire.specs.Limits.{IfThere}
use Rattle.cq_store_wire.specs.declared.part.Part.{Part}
use Rattle.cq_store_wire.specs.declared.build.State.TheVariants as states
use Rattle.cq_store_wire.specs.Building.{all_fed}
use Rattle.cq_store_wire.specs.Layout.{chunk}
use Rattle.cq_store_wire.specs.Limits.{IsPart}
use Rattle.cq_store_wire.specs.Order.{parts_of}

-- ---- what holds of each store

-- a queue's messages rise, its accepted sends are in order, and both are within what it has done
pub record IsQueue (q : Incarnation) : Type 0 where
  pub known : AreParts q
  pub rising : IsRising 0 q.messages
  pub order : AreInOrder q.accepted

-- its queue, if it lives, is one
abbrev pub IsName : List ℕ × QueueRecord → Type 0
IsName n = IfThere IsQueue n.1.living

-- no client and no name is kept twice, and no name has more than the store has done
pub record IsStore (kept : StoreKept) : Type 0 where
  pub clients : IsDistinct nat_eq (keys_of kept.clients)
  pub names : IsDistinct bytes_eq (keys_of kept.queues)
  pub within : All (IsWithin kept.count kept.last) (values_of kept.queues)
  pub queues : AllByRecursion IsName kept.queues

-- ---- the laws

-- Those chunks, one after another, are the parts of the store in their order.
abbrev pub AreChunksOf : StoreKept → List (List Part) → Type 0
AreChunksOf kept chunks = flat_map (λ some. some) chunks ≡ parts_of kept

-- However the parts of a store are cut into chunks: what is read of them is the store.
abbrev pub IsReadBack : Type 0
IsReadBack = (kept : StoreKept) (chunks : List (List Part)) → IsStore kept → AllByRecursion (AllByRecursion IsPart) chunks → AreChunksOf kept chunks → all_fed (map chunk chunks) states.Empty ≡ Ok (states.Whole kept)

-- What is read as a store is that store's parts, in their order.
abbrev pub IsWrittenSo : Type 0
IsWrittenSo = (kept : StoreKept) (texts : List (List ℕ)) → AllByRecursion (λ text. AllByRecursion (λ byte. byte < 256) text) texts → all_fed texts states.Empty ≡ Ok (states.Whole kept)
    → (chunks : List (List Part)) × (texts ≡ map chunk chunks) × AreChunksOf kept chunks
