-- What has been read of what is kept, and what was run of it.
use Rattle.std.specs.Prelude.{◌≡◌, ℕ, Bool, true, false, List, []}
use Rattle.cq_script.specs.Resumed.{HasRun}
use Rattle.cq_script.specs.declared.resumed.ResumedSession.{ResumedSession}
use Rattle.cq_kept_session.specs.Bases.{AreLines, Stage, Start, based, fresh, lined, starts}
use Rattle.cq_kept_session.specs.declared.base.BaseReader.{BaseReader}
use Rattle.cq_kept_session.specs.declared.base.Reading.{Reading}
use Rattle.cq_kept_session.specs.declared.base.Reading.TheVariants as readings

abbrev pub reader_stage : BaseReader → Stage
reader_stage r = based r.piece.items r.header r.store

abbrev pub is_base : Reading → Bool
is_base readings.Fresh = false
is_base (readings.Base reader) = true
is_base readings.Lines = false

abbrev pub is_fresh : Reading → Bool
is_fresh readings.Fresh = true
is_fresh (readings.Base reader) = false
is_fresh readings.Lines = false

-- lines were run that begin as those of a session on so many servers
pub record IsRun (size : ℕ) (stage : Stage) (session : ResumedSession) : Type 0 where
  pub start : Start
  pub lines : List ℕ
  pub is : stage ≡ lined start lines
  pub fits : starts size start ≡ true
  pub run : (bytes : List ℕ) → AreLines size start lines bytes → HasRun size bytes session

-- what was read brought the session there
abbrev pub IsRead : ℕ → Stage → Reading → ResumedSession → Type 0
IsRead size stage readings.Fresh session = (stage ≡ fresh) × HasRun size [] session
IsRead size stage (readings.Base reader) session = stage ≡ reader_stage reader
IsRead size stage readings.Lines session = IsRun size stage session
