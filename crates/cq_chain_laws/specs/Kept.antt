-- What `cq server` and `cq master` read and wrote, as what their processes did.
use Rattle.std.specs.Prelude.{◌≡◌, ℕ, List, [], false, ◌⊎◌}
use Rattle.cq_base.specs.Relations.{IsPrefix}
use Rattle.cq_chain.specs.Servers.{Server}
use Rattle.cq_frame_loop.specs.Chains.{Step, frames_in, text_in}
use Rattle.cq_frame_loop.specs.Cutting.{frames_of}
use Rattle.cq_server_copies.specs.declared.loading.LoadingProcess.{LoadingProcess}
use Rattle.cq_server_copies.specs.declared.saving.SavingProcess.{SavingProcess}
use Rattle.cq_server_copies.specs.Loading.{is_serving}
use Rattle.cq_chain_laws.specs.Chains.{MasterRun, ServerRun}
use Rattle.cq_chain_laws.specs.Serving.{ServesFromStore, answered}

-- A server's process answered the first frames of that input, and a front of what it told is that output. But for those that tell copies of
-- its store it ran so.
pub record IsKeptServer (s : Server) (input output : List ℕ) : Type 0 where
  pub steps : List (Step SavingProcess)
  pub front : IsPrefix (frames_in steps) (frames_of input)
  pub written : IsPrefix output (text_in steps)
  pub one : ServerRun s
  pub others : one.steps ≡ answered steps

-- One that begins with a store did so: no server stands on the store yet, or it serves from there on.
pub record IsKeptLoaded (input output : List ℕ) : Type 0 where
  pub steps : List (Step LoadingProcess)
  pub front : IsPrefix (frames_in steps) (frames_of input)
  pub written : IsPrefix output (text_in steps)
  pub last : LoadingProcess
  pub serves : (is_serving last.stage ≡ false) ⊎ ServesFromStore steps last

-- A master's process did so.
pub record IsKeptMaster (size : ℕ) (input output : List ℕ) : Type 0 where
  pub one : MasterRun size
  pub front : IsPrefix (frames_in one.steps) (frames_of input)
  pub written : IsPrefix output (text_in one.steps)

-- nothing was read, and nothing written
abbrev pub NeverBegan : List ℕ → List ℕ → Type 0
NeverBegan input output = (input ≡ []) × (output ≡ [])
