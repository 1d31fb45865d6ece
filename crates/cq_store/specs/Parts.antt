-- Bounds on what is kept of each name, and what may be put behind what a store has.
use Rattle.std.specs.Prelude.{◌≡◌, ℕ, ◌≤◌, List, [], ◌∷◌, ◌++◌, Option, None, Some, ⊤}
use Rattle.cq_base.specs.queue.Incarnations.{Incarnation}
use Rattle.cq_store.specs.Stands.{ClientRecord, QueueRecord, StoreKept, name_at}

-- the queue has come to no more than so many uses, and to no later moment
abbrev pub IsQueueWithin : ℕ → ℕ → Option Incarnation → Type 0
IsQueueWithin count last None = ⊤
IsQueueWithin count last (Some q) = (q.used ≤ count) × (q.last ≤ last)

-- the name has no more creations than so many, and its queue is within the same
pub record IsWithin (count last : ℕ) (kept : QueueRecord) : Type 0 where
  pub creations : kept.creations ≤ count
  pub living : IsQueueWithin count last kept.living

-- the name may be the next one of the store, as what is kept of it
pub record IsNextName (kept : StoreKept) (queue : List ℕ) (one : QueueRecord) : Type 0 where
  pub new : name_at kept.queues queue ≡ None
  pub within : IsWithin kept.count kept.last one

-- the store with one more client
abbrev pub and_client : ℕ → ClientRecord → StoreKept → StoreKept
and_client client one kept = record kept { clients = kept.clients ++ (client, one) ∷ [] }

-- and with one more name
abbrev pub and_name : List ℕ → QueueRecord → StoreKept → StoreKept
and_name queue one kept = record kept { queues = kept.queues ++ (queue, one) ∷ [] }
