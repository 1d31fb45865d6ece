-- What is kept: the lines of a session alone, or a base, which stands for those before, and the lines behind it.
-- Before the lines of a session on several servers stand a byte of 3, their number as a digit, and a line feed. A base begins with a byte of 2. Its pieces follow, each with a line feed behind it, and one more line feed ends it. Each piece is a
-- stuffed text: the first one is the header of the base, and the others are the chunks of a store, in their order.
use Rattle.std.specs.Prelude.{◌≡◌, ℕ, ◌-◌, ◌==◌, Bool, false, List, [], ◌∷◌, ◌++◌, Option, None, Some, Result, Ok, Err, if◌then◌else◌}
use Rattle.std.specs.Int.{w32, w64}
use Rattle.cq_store.specs.Stands.{StoreKept}
use Rattle.cq_wire.specs.declared.fault.WireFault.{WireFault}
use Rattle.cq_wire.specs.declared.fault.WireFault.TheVariants.{BytesLeft}
use Rattle.cq_wire.specs.Reading.{◌>>=◌, number_at}
use Rattle.cq_store_wire.specs.declared.build.State.{State}
use Rattle.cq_store_wire.specs.declared.build.State.TheVariants as states
use Rattle.cq_store_wire.specs.Building.{fed, whole_of}
use Rattle.cq_script.specs.Resumed.{IsBaseOf}
use Rattle.cq_kept_base.specs.Stuffed.{unstuffed}
use Rattle.cq_kept_session.specs.declared.base.Header.{Header}

-- ---- headers

-- for how many lines the base stands, and the highest numbers of clients in them, with nothing behind them
abbrev pub if_whole : Header → List ℕ → Result Header WireFault
if_whole header [] = Ok header
if_whole header (b ∷ bytes) = Err BytesLeft

unfoldable pub header_of : List ℕ → Result Header WireFault
header_of bytes = do
  lines ← number_at w64 bytes
  clients ← number_at w32 lines.1
  queriers ← number_at w32 clients.1
  if_whole (record { lines = lines.0; highest = record { clients = clients.0; queriers = queriers.0 } }) queriers.1

-- ---- how far the bytes have been read

-- with what the lines begin
pub data Start : Type 0 where
  -- with the first one of a session on one server
  alone : Start
  -- with the first one of a session on so many
  several : ℕ → Start
  -- behind a base
  resumed : Header → StoreKept → Start

pub data Stage : Type 0 where
  -- no byte has come
  fresh : Stage
  -- behind the mark of a session on several servers, and behind their number
  marked : Stage
  sized : ℕ → Stage
  -- In a base: the piece that has begun, and the header and the store as far as the pieces before it make them.
  based : List ℕ → Option Header → State → Stage
  -- the bytes of the lines that begin so
  lined : Start → List ℕ → Stage
  -- no session keeps these bytes
  bad : Stage

abbrev pub or_bad : Result Stage WireFault → Stage
or_bad (Ok stage) = stage
or_bad (Err fault) = bad

-- a base that has ended
abbrev pub with_store : Header → Option StoreKept → Stage
with_store header None = bad
with_store header (Some kept) = lined (resumed header kept) []

abbrev pub whole : Option Header → State → Stage
whole None state = bad
whole (Some header) state = with_store header (whole_of state)

-- what the first piece of a base says, and another one
abbrev pub with_payload : List ℕ → Option Header → State → Result Stage WireFault
with_payload payload None state = header_of payload >>= λ header. Ok (based [] (Some header) state)
with_payload payload (Some header) state = fed payload state >>= λ next. Ok (based [] (Some header) next)

-- what a piece makes of it, with its line feed
abbrev pub ended : List ℕ → Option Header → State → Stage
ended [] header state = whole header state
ended (b ∷ piece) header state = or_bad (unstuffed false (b ∷ piece) >>= λ payload. with_payload payload header state)

abbrev pub step : Stage → ℕ → Stage
step fresh b = if b == 2 then based [] None states.Empty else (if b == 3 then marked else lined alone (b ∷ []))
step marked b = sized (b - 48)
step (sized size) b = if b == 10 then lined (several size) [] else bad
step (based piece header state) b = if b == 10 then ended piece header state else based (piece ++ b ∷ []) header state
step (lined start lines) b = lined start (lines ++ b ∷ [])
step bad b = bad

abbrev pub read : Stage → List ℕ → Stage
read stage [] = stage
read stage (b ∷ bytes) = read (step stage b) bytes

-- ---- what they stand for

-- lines that begin so are those of a session on so many servers; a base is one of a single server
abbrev pub starts : ℕ → Start → Bool
starts size alone = size == 1
starts size (several servers) = size == servers
starts size (resumed header kept) = size == 1

-- what has been read is of such a session, and there is no base, or it is whole
abbrev pub is_of : ℕ → Stage → Bool
is_of size fresh = size == 1
is_of size marked = false
is_of size (sized servers) = false
is_of size (based piece header state) = false
is_of size (lined start lines) = starts size start
is_of size bad = false

-- These bytes of lines, run on so many servers, lead to that base, and those are behind it.
pub record IsBehind (size : ℕ) (base : Header × StoreKept) (lines bytes : List ℕ) : Type 0 where
  pub before : List ℕ
  pub is_base : IsBaseOf size base.1 base.0.lines before
  pub are : bytes ≡ before ++ lines

abbrev pub AreLines : ℕ → Start → List ℕ → List ℕ → Type 0
AreLines size alone lines bytes = bytes ≡ lines
AreLines size (several servers) lines bytes = bytes ≡ lines
AreLines size (resumed header kept) lines bytes = IsBehind size (header, kept) lines bytes

abbrev pub Means : ℕ → Stage → List ℕ → Type 0
Means size fresh bytes = bytes ≡ []
Means size marked bytes = ⊥
Means size (sized servers) bytes = ⊥
Means size (based piece header state) bytes = ⊥
Means size (lined start lines) bytes = AreLines size start lines bytes
Means size bad bytes = ⊥

-- What is kept stands for these bytes, the lines of a session on so many servers from the first one on. Of the bytes before a base it
-- only says that they lead to it.
abbrev pub AreOf : ℕ → List ℕ → List ℕ → Type 0
AreOf size kept bytes = Means size (read fresh kept) bytes
