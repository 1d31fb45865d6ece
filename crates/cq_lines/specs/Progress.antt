-- A text that is being read: what is known of it so far, and how a chunk takes it further.
use Rattle.std.specs.Prelude.{◌≡◌, ℕ, ◌+◌, Bool, true, false, if◌then◌else◌, List, [], ◌∷◌, ◌++◌, replicate, None, Some, Result, Ok, Err}
use Rattle.cq_base.specs.Relations.{IsPrefix}
use Rattle.cq_lines.specs.Lines.{lines_of, has_line_feed, ended_part}
use Rattle.cq_lines.specs.Grammars.{Grammar, Parsed, IsOpen, with_prefix, parse_from, parse_text}
use Rattle.cq_lines.specs.declared.fault.ScriptFault.{ScriptFault}
use Rattle.cq_lines.specs.declared.fault.ScriptFault.TheVariants.{BadLine, LineTooLong, TooManyLines, ReadFailed, WriteFailed, NoMemory}
use Rattle.cq_lines.specs.declared.limits.Limits.{Limits}

-- The values of the lines that have ended since values were last cleared, how many lines have ended in all, and the bytes of the
-- partial line. Where that one is overlong its bytes are not kept, and other overlong bytes are put in their place.
pub record Progress (T : Type 0) : Type 0 where
  pub limits : Limits
  pub values : List T
  pub lines : ℕ
  pub partial : List ℕ

-- the bytes that are put in the place of any overlong line
abbrev pub overlong : ℕ → List ℕ
overlong line_len = replicate (line_len + 1) 0

-- the bytes of the partial line, of which these are kept
abbrev pub partial_of : ℕ → Bool → List ℕ → List ℕ
partial_of line_len is_overlong kept = if is_overlong then overlong line_len else kept

-- before the first byte
abbrev pub nothing_read : {T : Type 0} → Limits → Progress T
nothing_read limits = record { limits = limits; values = []; lines = 0; partial = [] }

-- so many lines have ended, none has begun, and no value is there
abbrev pub lines_read : {T : Type 0} → Limits → ℕ → Progress T
lines_read limits lines = record { limits = limits; values = []; lines = lines; partial = [] }

-- with the values cleared
abbrev pub without_values : {T : Type 0} → Progress T → Progress T
without_values s = record { limits = s.limits; values = []; lines = s.lines; partial = s.partial }

-- with values of lines that ended before
abbrev pub with_earlier : {T : Type 0} → List T → Progress T → Progress T
with_earlier values s = record { limits = s.limits; values = values ++ s.values; lines = s.lines; partial = s.partial }

-- ---- the text that it becomes

-- lines, of which the first begins with the partial one
abbrev pub partial_before : List ℕ → List (List ℕ) → List (List ℕ)
partial_before [] lines = lines
partial_before (b ∷ bs) [] = (b ∷ bs) ∷ []
partial_before (b ∷ bs) (line ∷ lines) = ((b ∷ bs) ++ line) ∷ lines

-- the text, where these bytes are the rest of it
unfoldable pub parse_after : {T : Type 0} → Grammar T → Progress T → List ℕ → Parsed T
parse_after grammar s bytes = with_prefix s.values (parse_from grammar s.limits (s.lines + 1) (partial_before s.partial (lines_of bytes)))

-- ---- a chunk

-- `old` with these bytes is `new` with those that are left of them: whatever comes behind, the text is the same.
abbrev pub Continues : {T : Type 0} → Grammar T → Progress T → List ℕ → Progress T → List ℕ → Type 0
Continues grammar old bytes new left = (more : List ℕ) → parse_after grammar old (bytes ++ more) ≡ parse_after grammar new (left ++ more)

-- The bytes have no fault, and lead from `old` to `new`. The values of the lines that end in them are added, and none if no line
-- ends in them.
pub record ReadsOn {T : Type 0} (grammar : Grammar T) (old : Progress T) (bytes : List ℕ) (new : Progress T) : Type 0 where
  pub continues : Continues grammar old bytes new []
  pub ended : has_line_feed bytes ≡ true → parse_after grammar old (ended_part bytes) ≡ record { values = new.values; fault = None }
  pub unended : has_line_feed bytes ≡ false → new.values ≡ old.values
  pub stays_open : IsOpen (parse_after grammar old []).fault → IsOpen (parse_after grammar new []).fault

-- The bytes have this fault, whatever comes behind them. The values of the lines that ended before it are added.
pub record MeetsFault {T : Type 0} (grammar : Grammar T) (f : ScriptFault) (old : Progress T) (bytes : List ℕ) (new : Progress T) : Type 0 where
  pub here : (more : List ℕ) → parse_after grammar old (bytes ++ more) ≡ record { values = new.values; fault = Some f }
  pub ended : has_line_feed bytes ≡ true → (parse_after grammar old (ended_part bytes)).values ≡ new.values
  pub unended : has_line_feed bytes ≡ false → new.values ≡ old.values

-- a chunk of these bytes was read, by the answer; nothing is said of the state where memory ran out
abbrev pub FeedsChunk : {T : Type 0} → Grammar T → Result (Unit {0}) ScriptFault → Progress T → List ℕ → Progress T → Type 0
FeedsChunk grammar (Ok _) old bytes new = ReadsOn grammar old bytes new
FeedsChunk grammar (Err (BadLine n)) old bytes new = MeetsFault grammar (BadLine n) old bytes new
FeedsChunk grammar (Err (LineTooLong n)) old bytes new = MeetsFault grammar (LineTooLong n) old bytes new
FeedsChunk grammar (Err TooManyLines) old bytes new = MeetsFault grammar TooManyLines old bytes new
FeedsChunk grammar (Err ReadFailed) old bytes new = ⊥
FeedsChunk grammar (Err WriteFailed) old bytes new = ⊥
FeedsChunk grammar (Err NoMemory) old bytes new = Unit {0}

-- ---- all chunks so far

-- All chunks together are this input, and no line that has ended in it is a fault.
pub record HasRead {T : Type 0} (grammar : Grammar T) (limits : Limits) (input : List ℕ) (s : Progress T) : Type 0 where
  pub continues : Continues grammar (nothing_read limits) input s []
  pub ended : parse_text grammar limits (ended_part input) ≡ record { values = s.values; fault = None }
  pub stays_open : IsOpen (parse_after grammar s []).fault

-- These values are the first ones of the lines that have ended in the input, and of each text that begins with it.
pub record AreFirstValues {T : Type 0} (grammar : Grammar T) (limits : Limits) (values : List T) (input : List ℕ) : Type 0 where
  pub prefix : (more : List ℕ) → IsPrefix values (parse_text grammar limits (input ++ more)).values
  pub ended : IsPrefix values (parse_text grammar limits (ended_part input)).values
