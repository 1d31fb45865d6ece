-- What calls make of the records of a journal, one behind the other, and what a crash leaves of them.
use Rattle.std.specs.Prelude.{◌≡◌, ◌⊎◌, ℕ, List, [], ◌∷◌, ◌++◌, take}
use Rattle.cq_journal.specs.Base.{HasEitherRecords}
use Rattle.cq_journal.specs.Regions.{HasPrefixOf, HasRecords}

-- A call puts these records behind all others, or in the place of all, or changes none.
pub data Change : Type 0 where
  adds : List (List ℕ) → Change
  replaces : List (List ℕ) → Change
  rests : Change

-- the records, once it has ended well
abbrev pub after : List (List ℕ) → Change → List (List ℕ)
after rs (adds batch) = rs ++ batch
after rs (replaces base) = base
after rs rests = rs

-- once all of these have
abbrev pub after_all : List (List ℕ) → List Change → List (List ℕ)
after_all rs [] = rs
after_all rs (change ∷ changes) = after_all (after rs change) changes

-- The records that a crash in the call may leave: all from before and a prefix of the batch; those from before or the new ones;
-- just those from before.
abbrev pub MayBeLeft : List (List ℕ) → Change → List (List ℕ) → Type 0
MayBeLeft rs (adds batch) left = (many : ℕ) × (left ≡ rs ++ take many batch)
MayBeLeft rs (replaces base) left = (left ≡ rs) ⊎ (left ≡ base)
MayBeLeft rs rests left = left ≡ rs

-- bytes with such records
abbrev pub HasLeft : ℕ → ℕ → List (List ℕ) → Change → List ℕ → Type 0
HasLeft half len rs (adds batch) bytes = HasPrefixOf half len rs batch bytes
HasLeft half len rs (replaces base) bytes = HasEitherRecords half len rs base bytes
HasLeft half len rs rests bytes = HasRecords half len rs bytes

-- ---- what records stand for

-- what is known once they were read in order, where `read` goes on by one record
abbrev pub told : (List ℕ → List ℕ → List ℕ) → List ℕ → List (List ℕ) → List ℕ
told read known [] = known
told read known (r ∷ rs) = told read (read known r) rs

-- all that was added, in order
abbrev pub added : List Change → List (List ℕ)
added [] = []
added (adds batch ∷ changes) = batch ++ added changes
added (replaces base ∷ changes) = added changes
added (rests ∷ changes) = added changes

-- records that take the place of others tell the same
abbrev pub TellTheSame : (List ℕ → List ℕ → List ℕ) → List ℕ → List (List ℕ) → List Change → Type 0
TellTheSame read known rs [] = Unit {0}
TellTheSame read known rs (adds batch ∷ changes) = TellTheSame read known (rs ++ batch) changes
TellTheSame read known rs (replaces base ∷ changes) = (told read known base ≡ told read known rs) × TellTheSame read known base changes
TellTheSame read known rs (rests ∷ changes) = TellTheSame read known rs changes

-- Rows that compute: two batches with a rewrite between them.
pub record ChangeExamples : Type 0 where
  pub records_after : after_all ((1 ∷ []) ∷ []) (adds ((2 ∷ []) ∷ []) ∷ rests ∷ replaces ((3 ∷ []) ∷ []) ∷ adds ((4 ∷ []) ∷ (5 ∷ []) ∷ []) ∷ []) ≡ (3 ∷ []) ∷ (4 ∷ []) ∷ (5 ∷ []) ∷ []
  pub added_before : added (adds ((2 ∷ []) ∷ []) ∷ rests ∷ replaces ((3 ∷ []) ∷ []) ∷ adds ((4 ∷ []) ∷ (5 ∷ []) ∷ []) ∷ []) ≡ (2 ∷ []) ∷ (4 ∷ []) ∷ (5 ∷ []) ∷ []
  -- where a record stands for all of its numbers
  pub all_told : told (λ known r. known ++ r) (7 ∷ []) ((1 ∷ 2 ∷ []) ∷ [] ∷ (3 ∷ []) ∷ []) ≡ 7 ∷ 1 ∷ 2 ∷ 3 ∷ []
  -- the first of two records was on the medium
  pub cut_short : MayBeLeft ((1 ∷ []) ∷ []) (adds ((2 ∷ []) ∷ (3 ∷ []) ∷ [])) ((1 ∷ []) ∷ (2 ∷ []) ∷ [])
