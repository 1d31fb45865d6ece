-- What the program has done when it has carried out what was asked for.
use Rattle.std.specs.Prelude.{ℕ, ◌≤◌, Bool, List, Option, ⊤}
use Rattle.cq_chain.specs.Servers.{first_member, joining}
use Rattle.cq_main.specs.ExplainOutcomes.{RunsExplain}
use Rattle.cq_main.specs.KeptOutcomes.{RunsKept, RunsKeptServer}
use Rattle.cq_main.specs.LiveOutcomes.{RunsLive}
use Rattle.cq_main.specs.Outcomes.{RunsBy}
use Rattle.cq_main.specs.ProcessOutcomes.{RunsLoaded, RunsProcess}
use Rattle.cq_main.specs.WatchOutcomes.{RunsWatch}
use Rattle.cq_processes.specs.Keeping.{KeepsMaster, KeepsServer}
use Rattle.cq_script.specs.Replays.{Headlines, Replays}
use Rattle.cq_script.specs.Sessions.{SessionHeadlines, Sessions}
use Rattle.cq_args.specs.declared.invocation.Invocation.{Invocation}
use Rattle.cq_args.specs.declared.invocation.Invocation.TheVariants.{Copy, Dump, Explain, First, Joining, Kept, KeptServer, Live, Loaded, Master, Replay, Session, Verify, Watch}

-- a first server is one of its chain
abbrev pub IsSound : Invocation → Type 0
IsSound (First id size) = id ≤ size
IsSound _ = ⊤

-- On so many servers a script was replayed, the lines of a session were run or watched, or a live script was; or a process of a chain was kept. What a
-- session or a server with a journal keeps and writes is said where it is served.
abbrev pub Runs : Invocation → ℕ → Option (List ℕ) → Option (List ℕ) → Bool → Option (List ℕ) → Option (List ℕ) → Bool → Bool → Bool → Option (List ℕ) → Option (List ℕ) → Type 0
Runs (Replay size) status unread left reader_failed written output writer_failed writer_flushed failed old new =
    RunsBy (Replays size) (Headlines size) status unread left reader_failed written output writer_failed writer_flushed failed old new
Runs (Session size) status unread left reader_failed written output writer_failed writer_flushed failed old new =
    RunsBy (Sessions size) (SessionHeadlines size) status unread left reader_failed written output writer_failed writer_flushed failed old new
Runs (Kept size journal) status unread left reader_failed written output writer_failed writer_flushed failed old new =
    RunsKept status failed old new
Runs (Live size turns) status unread left reader_failed written output writer_failed writer_flushed failed old new =
    RunsLive size status unread left reader_failed written output writer_failed writer_flushed failed old new
Runs (Verify path) status unread left reader_failed written output writer_failed writer_flushed failed old new =
    RunsKept status failed old new
Runs (Copy path to) status unread left reader_failed written output writer_failed writer_flushed failed old new =
    RunsKept status failed old new
Runs (Dump path) status unread left reader_failed written output writer_failed writer_flushed failed old new =
    RunsKept status failed old new
Runs (First id size) status unread left reader_failed written output writer_failed writer_flushed failed old new =
    RunsProcess (KeepsServer (first_member size id)) status unread left reader_failed written output writer_failed writer_flushed failed old new
Runs (Joining id) status unread left reader_failed written output writer_failed writer_flushed failed old new =
    RunsProcess (KeepsServer joining) status unread left reader_failed written output writer_failed writer_flushed failed old new
Runs (Master size) status unread left reader_failed written output writer_failed writer_flushed failed old new =
    RunsProcess (KeepsMaster size) status unread left reader_failed written output writer_failed writer_flushed failed old new
Runs Loaded status unread left reader_failed written output writer_failed writer_flushed failed old new =
    RunsLoaded status unread left reader_failed written output writer_failed writer_flushed failed old new
Runs (KeptServer path mebibytes no_create) status unread left reader_failed written output writer_failed writer_flushed failed old new =
    RunsKeptServer status failed old new
Runs (Explain size is_live) status unread left reader_failed written output writer_failed writer_flushed failed old new =
    RunsExplain status failed old new
Runs (Watch size) status unread left reader_failed written output writer_failed writer_flushed failed old new =
    RunsWatch size status unread left written output failed old new
