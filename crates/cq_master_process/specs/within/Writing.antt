-- What a map of links writes.
use Rattle.std.specs.Prelude.{◌≡◌, ℕ, ◌==◌, List, Some, if◌then◌else◌}
use Rattle.cq_master_process.specs.declared.link.Link.{Link}
use Rattle.cq_master_process.specs.Links.{link_of}

-- that is known of that server now, and what is known of others stays
abbrev pub Writes : List (ℕ × Link) → List (ℕ × Link) → ℕ → Link → Type 0
Writes old new id link = (other : ℕ) → link_of new other ≡ (if id == other then Some link else link_of old other)
