-- What has been read of a journal's contents.
use Rattle.std.specs.Prelude.{◌≡◌, ℕ, Bool, List, [], Option, None, Some, length, if◌then◌else◌, ⊤}
use Rattle.cq_records.specs.Frames.{joined}
use Rattle.cq_store.specs.Stands.{StoreKept}
use Rattle.cq_kept_session.specs.Bases.{Stage, Start, alone, fresh, lined, read, resumed, several}
use Rattle.cq_kept_session.specs.Contents.{lines_in}
use Rattle.cq_kept_session.specs.declared.contents.ContentsReader.{ContentsReader}
use Rattle.cq_kept_session.specs.declared.contents.Progress.{Progress}
use Rattle.cq_kept_session.specs.declared.base.Header.{Header}
use Rattle.cq_kept_session.specs.declared.contents.Progress.TheVariants.{Behind, Fresh, InBase, OfSeveral}
use Rattle.cq_kept_session.specs.within.Readers.{reader_stage}

-- no line has come, unless a base is behind
abbrev pub HasLines : Progress → List ℕ → Type 0
HasLines Fresh lines = lines ≡ []
HasLines (InBase reader) lines = lines ≡ []
HasLines (Behind base) lines = ⊤
HasLines (OfSeveral servers) lines = ⊤

-- with what lines begin, behind a base or not
abbrev pub start_of : Option (Header × StoreKept) → Start
start_of None = alone
start_of (Some base) = resumed base.0 base.1

-- where the bytes are, with these lines behind the base
abbrev pub progress_stage : Progress → List ℕ → Stage
progress_stage Fresh lines = fresh
progress_stage (InBase reader) lines = reader_stage reader
progress_stage (Behind base) lines = lined (start_of base) lines
progress_stage (OfSeveral servers) lines = lined (several servers) lines

-- these records were read
pub record IsSoFar (before : List (List ℕ)) (keeps : Bool) (reader : ContentsReader) : Type 0 where
  pub keeps_are : reader.keeps_lines ≡ keeps
  pub records_are : reader.records ≡ length before
  pub bytes_are : reader.bytes ≡ length (joined before)
  pub lines : List ℕ
  pub begun : HasLines reader.progress lines
  pub at : read fresh (joined before) ≡ progress_stage reader.progress lines
  pub lines_are : reader.line_count ≡ lines_in lines
  pub kept : reader.lines.items ≡ (if keeps then lines else [])
