-- What is kept: entries alone, or a base, which stands for those before, and the entries behind it.
-- It is pieces, each with a line feed behind it. The first one says what comes: a byte of 2, and E or S. Behind E come entries. Behind S come
-- the chunks of a store, in their order, and an empty piece, and then entries. All but the first and the empty one are stuffed texts.
use Rattle.std.specs.Prelude.{◌≡◌, ◌≤◌, ℕ, ◌==◌, Bool, true, false, List, [], ◌∷◌, ◌++◌, length, Option, None, Some, Result, Ok, Err, if◌then◌else◌}
use Rattle.cq_base.specs.declared.ask.Entry.{Entry}
use Rattle.cq_base.specs.declared.limits.TheConstants.{HISTORY_LIMIT}
use Rattle.cq_kept_base.specs.Stuffed.{unstuffed}
use Rattle.cq_store.specs.Laws.{Stamped}
use Rattle.cq_store.specs.Stands as stores
use Rattle.cq_store_wire.specs.declared.build.State.{State}
use Rattle.cq_store_wire.specs.declared.build.State.TheVariants as states
use Rattle.cq_store_wire.specs.Building.{fed, whole_of}
use Rattle.cq_wire.specs.declared.fault.WireFault.{WireFault}
use Rattle.cq_wire.specs.Reading.{◌>>=◌, entry_at, whole_at}

-- ---- how far pieces have been read

pub data Stage : Type 0 where
  -- none has come
  fresh : Stage
  -- in a base, whose chunks make that of its store
  storing : State → Stage
  -- Behind the base, if there is one. The entries there.
  listing : Option stores.StoreKept → List Entry → Stage
  -- they are no pieces of this form
  bad : Stage

abbrev pub or_bad : Result Stage WireFault → Stage
or_bad (Ok stage) = stage
or_bad (Err fault) = bad

-- by the letter of the first piece
abbrev pub begun : ℕ → Stage
begun letter = if letter == 69 then listing None [] else (if letter == 83 then storing states.Empty else bad)

abbrev pub head_of : List ℕ → Stage
head_of [] = bad
head_of (mark ∷ []) = bad
head_of (mark ∷ letter ∷ []) = if mark == 2 then begun letter else bad
head_of (mark ∷ letter ∷ b ∷ more) = bad

-- a base that has ended
abbrev pub with_store : Option stores.StoreKept → Stage
with_store None = bad
with_store (Some kept) = listing (Some kept) []

abbrev pub store_ended : List ℕ → State → Stage
store_ended [] state = with_store (whole_of state)
store_ended (b ∷ piece) state = or_bad (unstuffed false (b ∷ piece) >>= λ chunk. fed chunk state >>= λ next. Ok (storing next))

-- what a piece makes of it, with its line feed
abbrev pub ended : List ℕ → Stage → Stage
ended piece fresh = head_of piece
ended piece (storing state) = store_ended piece state
ended piece (listing base entries) = or_bad (unstuffed false piece >>= λ bytes. whole_at entry_at bytes >>= λ entry. Ok (listing base (entries ++ entry ∷ [])))
ended piece bad = bad

-- ---- bytes

-- how far bytes have been read: the piece that has begun, and what those before it make
pub record At : Type 0 where
  pub piece : List ℕ
  pub stage : Stage

abbrev pub at : List ℕ → Stage → At
at piece stage = record { piece = piece; stage = stage }

abbrev pub step : At → ℕ → At
step a b = if b == 10 then at [] (ended a.piece a.stage) else at (a.piece ++ b ∷ []) a.stage

abbrev pub read : At → List ℕ → At
read a [] = a
read a (b ∷ bytes) = read (step a b) bytes

-- before the first byte
abbrev pub start : At
start = at [] fresh

-- ---- what they stand for

-- The store of the base stands for some entries, and those are behind them.
pub record IsBehind (base : stores.StoreKept) (entries all : List Entry) : Type 0 where
  pub before : List Entry
  pub stands : stores.StandsFor base before
  pub are : all ≡ before ++ entries

abbrev pub AreEntries : Option stores.StoreKept → List Entry → List Entry → Type 0
AreEntries None entries all = all ≡ entries
AreEntries (Some base) entries all = IsBehind base entries all

abbrev pub Means : Stage → List Entry → Type 0
Means fresh all = all ≡ []
Means (storing state) all = ⊥
Means (listing base entries) all = AreEntries base entries all
Means bad all = ⊥

-- no piece has begun
abbrev pub MeansAt : At → List Entry → Type 0
MeansAt a all = (a.piece ≡ []) × Means a.stage all

-- What is kept stands for these entries, from the first one on. Of those before a base it only says that its store stands for them.
abbrev pub AreOf : List ℕ → List Entry → Type 0
AreOf bytes all = MeansAt (read start bytes) all

-- A store takes them one by one: none is stamped with an earlier moment than one before it, and they are no more than it counts.
pub record AreTaken (all : List Entry) : Type 0 where
  pub stamped : Stamped all
  pub few : length all ≤ HISTORY_LIMIT

-- entries may come next
abbrev pub is_listing : Stage → Bool
is_listing fresh = false
is_listing (storing state) = false
is_listing (listing base entries) = true
is_listing bad = false

-- none has come
abbrev pub is_fresh : Stage → Bool
is_fresh fresh = true
is_fresh (storing state) = false
is_fresh (listing base entries) = false
is_fresh bad = false

pub record IsListing (a : At) : Type 0 where
  pub whole : a.piece ≡ []
  pub listing : is_listing a.stage ≡ true

-- these bytes are pieces of just these entries, whatever was before
abbrev pub ArePiecesOf : List ℕ → List Entry → Type 0
ArePiecesOf bytes more = (base : Option stores.StoreKept) (entries : List Entry) → read (at [] (listing base entries)) bytes ≡ at [] (listing base (entries ++ more))
