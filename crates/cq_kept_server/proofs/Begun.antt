-- A server that begins.
use Rattle.std.proofs.Common.{◌≡◌, List, [], ◌++◌, None, refl, sym, ap, subst, append-nil}
use Rattle.cq_base.specs.declared.ask.Entry.{Entry}
use Rattle.cq_base.specs.declared.party.Party.{Party}
use Rattle.cq_chain.specs.Servers as states
use Rattle.cq_chain.specs.Stands as chain
use Rattle.cq_disk.specs.declared.device.Device.{Ghosts}
use Rattle.cq_events.specs.Actions.{Heads, StandsAs, behind}
use Rattle.cq_kept_entries.specs.declared.kept.KeptEntries.{KeptEntries}
use Rattle.cq_kept_entries.specs.Kept.{HasAdded, StandsFor}
use Rattle.cq_kept_server.specs.declared.server.KeptServer.{KeptServer}
use Rattle.cq_kept_server.specs.Servers.{BeginsWith, HasEntries, IsNewServer, state_of}
use Rattle.cq_process.specs.Links.{held_at, held_by}
use Rattle.cq_process_laws.specs.Runs as runs
use Rattle.cq_server_copies.specs.declared.saving.SavingProcess.{SavingProcess}
use Rattle.cq_server_process.specs.declared.streams.Streams.{Streams}
use Rattle.cq_server_process.specs.Answers.{IsNewProcess, Process}
use Rattle.cq_server_process.specs.Processes.{process_of}

-- nothing is held for anyone at first
stands-new : (s : states.Server) (p : Process) → IsNewProcess s p → StandsAs (runs.core_of p.state) s (λ _. [])
stands-new s p new = (subst (chain.StandsFor p.state.core s) (λ i to. none to i) new.core, λ to. subst (λ o. Heads o []) (sym (held to)) tt) where
  held : (to : Party) → held_by p.state.links.outgoing to ≡ None
  held to = ap held_at (new.outgoing to)

  none : (to : Party) → [] ≡ behind (held_by p.state.links.outgoing to) []
  none to = ap (λ o. behind o []) (sym (held to))

new-has : (all : List Entry) (process : SavingProcess) (streams : Streams) → IsNewServer all process streams → HasEntries process all
new-has all process streams new = record { server = states.alone all; outbox = λ _. []; stands = stands-new (states.alone all) (process_of process.process) new.new; entries = refl }

module _ {D : Type 0} {g : Ghosts D} where
  pub begun : (k : KeptServer D g) (kept : KeptEntries D g) (all : List Entry) → k.kept ≡ kept → IsNewServer all k.process k.streams → StandsFor kept all → HasAdded kept [] → BeginsWith k all
  begun k kept all same new stands none = record {
    new = new;
    has = record {
      server = subst (λ (l : List Entry). HasEntries k.process l) (sym (append-nil all)) (new-has all k.process k.streams new);
      kept = subst (λ (it : KeptEntries D g). StandsFor it all) (sym same) stands;
      added = subst (λ (it : KeptEntries D g). HasAdded it []) (sym same) none;
    };
  }
