-- What a server has of its history.
use Rattle.std.specs.Prelude.{◌≡◌, ℕ, ◌≤◌, List, length, drop, get_or}
use Rattle.cq_base.specs.declared.ask.Entry.{Entry}
use Rattle.cq_store.specs.Stands.{StoreKept, StandsFor}

-- What is kept of it: a store, and entries.
pub record Replica : Type 0 where
  pub store : StoreKept
  pub entries : List Entry

-- This stands for a history of which so many entries are forgotten: the store stands for all of it, and the entries
-- kept are those after the forgotten ones.
pub record Recalls (kept : Replica) (history : List Entry) (floor : ℕ) : Type 0 where
  pub store : StandsFor kept.store history
  pub within : floor ≤ length history
  pub after : kept.entries ≡ drop floor history

-- the entry that comes after so many
abbrev pub IsEntryAfter : List Entry → ℕ → Entry → Type 0
IsEntryAfter history before e = e ≡ get_or history before e
