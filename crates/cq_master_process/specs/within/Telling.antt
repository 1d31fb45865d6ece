-- What is told of the first message for a server, by what became of it.
use Rattle.std.specs.Prelude.{◌≡◌, ℕ, ◌≤◌, List, [], ◌++◌, length, Some, ⊤}
use Rattle.cq_base.specs.declared.party.Party.{Party}
use Rattle.cq_base.specs.declared.party.Party.TheVariants as parties
use Rattle.cq_chain.specs.declared.master.Master as rust_master
use Rattle.cq_chain.specs.declared.message.Message as rust
use Rattle.cq_chain.specs.Masters.{Master}
use Rattle.cq_chain.specs.Messages.{Message}
use Rattle.cq_chain.specs.Stands.{IsFirst, MasterStandsFor}
use Rattle.cq_chain_wire.specs.Limits.{IsMessage}
use Rattle.cq_frames.specs.declared.piece.TheConstants.{PIECE_LIMIT}
use Rattle.cq_frames.specs.declared.response.Response.TheVariants.{Put}
use Rattle.cq_master_process.specs.declared.telling.Putting.{Putting}
use Rattle.cq_master_process.specs.declared.telling.Putting.TheVariants as what
use Rattle.cq_master_process.specs.Cores.{piece_of}
use Rattle.cq_master_process.specs.Putting.{only_piece}
use Rattle.cq_process_frames.specs.Frames.{frame}
use Rattle.cq_wire.specs.Limits.{IsServer}

-- it is put
abbrev pub OnPut : Putting → Type 0 → Type 0
OnPut what.Put holds = holds
OnPut what.Nothing holds = ⊤
OnPut what.NoMemory holds = ⊤
OnPut what.Untellable holds = ⊤

-- none waits
abbrev pub OnNothing : Putting → Type 0 → Type 0
OnNothing what.Put holds = ⊤
OnNothing what.Nothing holds = holds
OnNothing what.NoMemory holds = ⊤
OnNothing what.Untellable holds = ⊤

-- there is no memory
abbrev pub OnNoMemory : Putting → Type 0 → Type 0
OnNoMemory what.Put holds = ⊤
OnNoMemory what.Nothing holds = ⊤
OnNoMemory what.NoMemory holds = holds
OnNoMemory what.Untellable holds = ⊤

-- it isn't put
abbrev pub OnIdle : Putting → Type 0 → Type 0
OnIdle what.Put holds = ⊤
OnIdle what.Nothing holds = holds
OnIdle what.NoMemory holds = holds
OnIdle what.Untellable holds = holds

-- ---- of whatever the core stands for

-- that message is the first one that waits for the server
abbrev pub IsFirstFor : rust_master.Master → ℕ → rust.Message → Type 0
IsFirstFor core to message = (m : Master) (outbox : Party → List Message) → MasterStandsFor core m outbox → IsFirst (Some message) (outbox (parties.Server to))

-- nothing waits for it
abbrev pub IsEmptyFor : rust_master.Master → ℕ → Type 0
IsEmptyFor core to = (m : Master) (outbox : Party → List Message) → MasterStandsFor core m outbox → outbox (parties.Server to) ≡ []

-- something does
abbrev pub WaitsFor : rust_master.Master → ℕ → Type 0
WaitsFor core to = (m : Master) (outbox : Party → List Message) → MasterStandsFor core m outbox → outbox (parties.Server to) ≡ [] → ⊥

-- The first message for the server is told behind the bytes, under that number.
pub record TellsFirst (core : rust_master.Master) (to number : ℕ) (old new : List ℕ) : Type 0 where
  pub message : rust.Message
  pub first : IsFirstFor core to message
  pub bytes : new ≡ old ++ frame (Put (parties.Server to) (only_piece number) (piece_of message))
  pub fits : IsMessage message
  pub server : IsServer to
  pub short : length (piece_of message) ≤ PIECE_LIMIT
