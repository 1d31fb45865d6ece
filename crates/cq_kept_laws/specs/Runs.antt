-- What a server did whose entries are kept, as what its process did.
use Rattle.std.specs.Prelude.{◌≡◌, ◌⊎◌, ℕ, List, [], ◌∷◌, Some}
use Rattle.cq_base.specs.declared.ask.Entry.{Entry}
use Rattle.cq_chain.specs.Servers.{alone}
use Rattle.cq_chain_laws.specs.Chains.{ServerRun}
use Rattle.cq_chain_laws.specs.Serving.{answered}
use Rattle.cq_disk.specs.declared.device.Device.{Ghosts}
use Rattle.cq_frame_loop.specs.Chains.{Step}
use Rattle.cq_kept_server.specs.declared.server.KeptServer.{KeptServer}
use Rattle.cq_kept_server.specs.Servers.{state_of}
use Rattle.cq_kept_server.specs.Telling.{RefusesAhead}
use Rattle.cq_process_laws.specs.Runs as runs
use Rattle.cq_server_copies.specs.declared.saving.SavingProcess.{SavingProcess}

module _ {D : Type 0} {g : Ghosts D} where
  -- These are the steps of the process, in order: all but those of frames that were refused ahead of it.
  abbrev pub ArePassed : KeptServer D g → List (Step (KeptServer D g)) → List (Step SavingProcess) → Type 0
  ArePassed p [] passed = passed ≡ []
  ArePassed p (step ∷ steps) passed =
      ((rest : List (Step SavingProcess)) × ((passed ≡ record { frame = step.frame; text = step.text; after = (state_of step.after).process } ∷ rest) × ArePassed step.after steps rest))
      ⊎ ((bytes : List ℕ) × ((step.frame ≡ Some bytes) × (RefusesAhead bytes (state_of p).process (state_of step.after).process (state_of p).ended (state_of step.after).ended step.text × ArePassed step.after steps passed)))

  -- From one state to the other the process ran as the only server of a chain does that begins with these entries. Copies of its store are no
  -- steps of that.
  pub record KeptRun (all : List Entry) (first : KeptServer D g) (steps : List (Step (KeptServer D g))) (last : KeptServer D g) : Type 0 where
    pub passed : List (Step SavingProcess)
    pub are : ArePassed first steps passed
    pub one : ServerRun (alone all)
    pub begins : one.first ≡ runs.state_of (state_of first).process.process
    pub others : one.steps ≡ answered passed
    pub ends : one.last ≡ runs.state_of (state_of last).process.process
