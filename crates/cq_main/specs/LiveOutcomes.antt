-- What the program has done when a live run ends it.
use Rattle.std.specs.Prelude.{◌≡◌, ◌↔◌, ◌⊎◌, ℕ, Bool, true, false, List, [], ◌++◌, codes, decimal, Option, Some, Result, Ok, Err}
use Rattle.std.specs.Global.{Vec}
use Rattle.std.specs.Io.KnownBytes.{Appends, Consumes}
use Rattle.cq_live.specs.Reports.{IsReport}
use Rattle.cq_live.specs.declared.report.LiveReport.{LiveReport}
use Rattle.cq_live.specs.declared.fault.LiveFault.{LiveFault}
use Rattle.cq_live.specs.declared.fault.LiveFault.TheVariants.{BadScript}
use Rattle.cq_live_script.specs.Lines.{ReadsLive}
use Rattle.cq_main.specs.LiveStatuses.{live_fault_text, live_status_of}
use Rattle.cq_main.specs.Outcomes.{EndsAt}
use Rattle.cq_main.specs.declared.live_fault.LiveEnd.{LiveEnd}
use Rattle.cq_main.specs.declared.live_fault.LiveEnd.TheVariants.{Script, Live}
use Rattle.cq_live_plan.specs.Steps.{first_bad}
use Rattle.cq_live_plan.specs.declared.step.LiveStep.{LiveStep}
use Rattle.cq_lines.specs.declared.fault.ScriptFault.TheVariants.{ReadFailed, WriteFailed}
use Rattle.cq_world.specs.Laws.{Headline}

-- The steps of a live script, which was read to its end, were run on so many servers: the report is of an order of what
-- the nodes did, and of its events the headline holds.
pub record IsRun (size : ℕ) (input : List ℕ) (left : Option (List ℕ)) (report : LiveReport) : Type 0 where
  pub steps : Vec LiveStep
  pub reads : ReadsLive (Ok steps) input left
  pub live : IsReport size steps.items report
  pub headline : Headline size report.events.items

-- They were not, with this fault: it names the first step that can't be done, just where there is one.
pub record IsNotRun (size : ℕ) (input : List ℕ) (left : Option (List ℕ)) (fault : LiveFault) : Type 0 where
  pub steps : Vec LiveStep
  pub reads : ReadsLive (Ok steps) input left
  pub bad : (step : ℕ) → (fault ≡ BadScript step) ↔ (first_bad size [] steps.items ≡ Some step)

-- `input` was read, and `left` is what the reader has left, if that is known: so a live run on so many servers answers
abbrev pub Lived : ℕ → Result LiveReport LiveEnd → List ℕ → Option (List ℕ) → Type 0
Lived size (Ok report) input left = IsRun size input left report
Lived size (Err (Script fault)) input left = ReadsLive (Err fault) input left
Lived size (Err (Live fault)) input left = IsNotRun size input left fault

-- By the answer: the reader has failed where its fault is ReadFailed, and hasn't where its script was read to the end.
abbrev pub IsReadFaithfully : Result LiveReport LiveEnd → Bool → Type 0
IsReadFaithfully (Ok report) reader_failed = reader_failed ≡ false
IsReadFaithfully (Err (Script fault)) reader_failed = fault ≡ ReadFailed → reader_failed ≡ true
IsReadFaithfully (Err (Live fault)) reader_failed = reader_failed ≡ false

-- the two lines of a report
abbrev pub report_text : ℕ → List ℕ
report_text accepted = codes "accepted " ++ (decimal accepted ++ codes "\naudit ok\n")

-- a fault of a live run ended the program: its status, and its line on the writer of errors, unless that failed
abbrev pub EndsAtLive : LiveFault → ℕ → Bool → Option (List ℕ) → Option (List ℕ) → Type 0
EndsAtLive fault status failed old new = (status ≡ live_status_of fault) × (failed ≡ false → Appends old new (live_fault_text fault))

abbrev pub EndsLive : LiveEnd → ℕ → Bool → Option (List ℕ) → Option (List ℕ) → Type 0
EndsLive (Script fault) status failed old new = EndsAt fault status failed old new
EndsLive (Live fault) status failed old new = EndsAtLive fault status failed old new

-- The answer of a live run ended the program: its two lines were written and flushed, or the writer failed, which is a fault;
-- or nothing was written, and its fault is told.
abbrev pub TellsLive : Result LiveReport LiveEnd → ℕ → Option (List ℕ) → Option (List ℕ) → Bool → Bool → Bool → Option (List ℕ) → Option (List ℕ) → Type 0
TellsLive (Ok report) status written output writer_failed writer_flushed failed old new =
    ((writer_failed ≡ false) × (writer_flushed ≡ true) × (status ≡ 0) × (new ≡ old) × Appends written output (report_text report.accepted))
    ⊎ ((writer_failed ≡ true) × EndsAt WriteFailed status failed old new)
TellsLive (Err end) status written output writer_failed writer_flushed failed old new = (output ≡ written) × (writer_failed ≡ false) × EndsLive end status failed old new

-- a live script was read and run on so many servers, to the end of the program
abbrev pub RunsLive : ℕ → ℕ → Option (List ℕ) → Option (List ℕ) → Bool → Option (List ℕ) → Option (List ℕ) → Bool → Bool → Bool → Option (List ℕ) → Option (List ℕ) → Type 0
RunsLive size status unread left reader_failed written output writer_failed writer_flushed failed old new =
    (answer : Result LiveReport LiveEnd) × (input : List ℕ) × Consumes unread left input
    × Lived size answer input left × IsReadFaithfully answer reader_failed × TellsLive answer status written output writer_failed writer_flushed failed old new
