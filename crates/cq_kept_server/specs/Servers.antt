-- A server whose entries are kept.
use Rattle.std.specs.Prelude.{◌≡◌, ℕ, List, [], ◌++◌, None, ◌⊎◌}
use Rattle.cq_base.specs.declared.ask.Entry.{Entry}
use Rattle.cq_base.specs.declared.party.Party.{Party}
use Rattle.cq_chain.specs.Messages.{Message}
use Rattle.cq_chain.specs.Servers as states
use Rattle.cq_disk.specs.declared.device.Device.{Ghosts}
use Rattle.cq_chain.specs.declared.server.Server as rust_server
use Rattle.cq_events.specs.Actions.{CoreState, StandsAs}
use Rattle.cq_journal.specs.Journal.{HasSpare}
use Rattle.cq_kept_entries.specs.declared.class.EntryClass.{EntryClass}
use Rattle.cq_kept_entries.specs.declared.kept.KeptEntries.{KeptEntries}
use Rattle.cq_kept_entries.specs.Kept.{HasAdded, IsKept, StandsFor, entries_device, entries_half, entries_journal, entries_len}
use Rattle.cq_kept_entries.specs.within.Room.{FitsHere}
use Rattle.cq_kept_server.specs.declared.server.KeptServer.{KeptServer}
use Rattle.cq_process_laws.specs.Runs as runs
use Rattle.cq_server_copies.specs.declared.saving.SavingProcess.{SavingProcess}
use Rattle.cq_server_process.specs.declared.streams.Streams.{Streams}
use Rattle.cq_server_process.specs.Answers.{IsNewProcess}
use Rattle.cq_server_process.specs.Processes.{process_of}

-- A server's core, with what is held for others, stands for a server that has these entries.
pub record CoreHas (core : CoreState rust_server.Server) (all : List Entry) : Type 0 where
  pub server : states.Server
  pub outbox : Party → List Message
  pub stands : StandsAs core server outbox
  pub entries : server.entries ≡ all

-- so does the one of a process
abbrev pub HasEntries : SavingProcess → List Entry → Type 0
HasEntries process all = CoreHas (runs.core_of (runs.state_of process.process)) all

-- It is the only server of a chain, at rest behind these entries; no stream has ended, and no copy was made.
pub record IsNewServer (all : List Entry) (process : SavingProcess) (streams : Streams) : Type 0 where
  pub new : IsNewProcess (states.alone all) (process_of process.process)
  pub copy : process.copy ≡ None
  pub ended : streams.ended ≡ 0

-- What a server has that answers change: the process, up to which stream arrivals ended before the process heard of them, and the entries.
pub record State (D : Type 0) (g : Ghosts D) : Type 0 where
  pub process : SavingProcess
  pub ended : ℕ
  pub kept : KeptEntries D g

module _ {D : Type 0} {g : Ghosts D} where
  abbrev pub state_of : KeptServer D g → State D g
  state_of k = record { process = k.process; ended = k.streams.ended; kept = k.kept }

  -- The region that grows fits so many bytes more, and keeps what entries of this class have to leave; or two regions are free.
  abbrev pub HasRoom : KeptEntries D g → EntryClass → ℕ → Type 0
  HasRoom kept class len = FitsHere kept class len ⊎ HasSpare (entries_journal kept)

  abbrev pub device_of : State D g → D
  device_of s = entries_device s.kept

  -- the lengths of a half of the root and of a region
  abbrev pub half_of : State D g → ℕ
  half_of s = entries_half s.kept

  abbrev pub len_of : State D g → ℕ
  len_of s = entries_len s.kept

  abbrev pub server_device : KeptServer D g → D
  server_device k = entries_device k.kept

  abbrev pub server_half : KeptServer D g → ℕ
  server_half k = entries_half k.kept

  abbrev pub server_len : KeptServer D g → ℕ
  server_len k = entries_len k.kept

  -- entries can be kept
  abbrev pub IsReady : KeptServer D g → Type 0
  IsReady k = IsKept k.kept

  -- none was added that isn't kept
  abbrev pub IsSettled : KeptServer D g → Type 0
  IsSettled k = HasAdded k.kept []

  -- The server has these entries: the first ones are kept, and the others were added and aren't kept yet.
  pub record Has (s : State D g) (first rest : List Entry) : Type 0 where
    pub server : HasEntries s.process (first ++ rest)
    pub kept : StandsFor s.kept first
    pub added : HasAdded s.kept rest

  -- It begins behind these entries, and all of them are kept.
  pub record BeginsWith (k : KeptServer D g) (all : List Entry) : Type 0 where
    pub new : IsNewServer all k.process k.streams
    pub has : Has (state_of k) all []
