-- No place before this one is free.
use Rattle.std.proofs.Common.{◌≡◌, ◌+◌, ◌*◌, ◌-◌, ◌<◌, ℕ}
use Rattle.cq_journal.specs.Journal.{IsFree, journal_half, region_len}
use Rattle.cq_journal.proofs.journal.Journal.free_region.Given as goal

abbrev pub invariant-loop-half : goal.invariant-loop-half
invariant-loop-half g l = (m : ℕ) × ((l.place ≡ (journal_half l.fn.self + journal_half l.fn.self) + m * region_len l.fn.self) × ((k : ℕ) → k < m → IsFree l.fn.self ((journal_half l.fn.self + journal_half l.fn.self) + k * region_len l.fn.self) → ⊥))

abbrev pub decreases-loop-half : goal.decreases-loop-half
decreases-loop-half g l = l.whole - l.place
