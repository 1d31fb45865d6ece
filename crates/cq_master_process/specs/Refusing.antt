-- Why a command is refused, and under which number.
use Rattle.std.specs.Prelude.{◌≡◌, ℕ, List, Option, true, false, Err, ◌⊎◌}
use Rattle.cq_base.specs.declared.party.Party.{Party}
use Rattle.cq_base.specs.declared.party.Party.TheVariants as parties
use Rattle.cq_chain.specs.declared.fault.WorldFault.{WorldFault}
use Rattle.cq_chain.specs.Faults as chain
use Rattle.cq_chain.specs.Masters.{Master, refusal_of_detection, refusal_of_join}
use Rattle.cq_chain.specs.Messages.{Message}
use Rattle.cq_chain.specs.Stands.{MasterStandsFor}
use Rattle.cq_chain_wire.specs.Reading.{message_at}
use Rattle.cq_frames.specs.declared.command.Command.{Command}
use Rattle.cq_frames.specs.declared.command.Command.TheVariants as commands
use Rattle.cq_frames.specs.declared.number.PieceNumber.{PieceNumber}
use Rattle.cq_frames.specs.declared.response.TheConstants.{NO_MEMORY, NOT_HERE}
use Rattle.cq_master_process.specs.declared.process.MasterProcess.{MasterProcess}
use Rattle.cq_master_process.specs.Steps.{is_in_turn}
use Rattle.cq_process.specs.declared.incoming.TakeFault.TheVariants.{NotNext}
use Rattle.cq_process.specs.Faults.{take_code}
use Rattle.cq_wire.specs.declared.fault.WireFault.{WireFault}
use Rattle.cq_wire.specs.Faults.{wire_code}
use Rattle.cq_wire.specs.Reading.{whole_at}

-- The piece is no plain message, by the fault of that number.
pub record IsNoMessage (piece : List ℕ) (code : ℕ) : Type 0 where
  pub fault : WireFault
  pub read : whole_at message_at piece ≡ Err fault
  pub is : code ≡ wire_code fault

-- Why a message of a server isn't taken. In its turn it is no message, or there is no memory for it.
abbrev pub RefusesTake : MasterProcess → ℕ → PieceNumber → List ℕ → ℕ → Type 0
RefusesTake p from number piece code =
    ((is_in_turn p from number ≡ false) × (code ≡ take_code NotNext))
    ⊎ ((is_in_turn p from number ≡ true) × (IsNoMessage piece code ⊎ (code ≡ NO_MEMORY)))

-- A message of another party means nothing here.
abbrev pub RefusesFrom : MasterProcess → Party → PieceNumber → List ℕ → ℕ → Type 0
RefusesFrom p parties.Master number piece code = code ≡ NOT_HERE
RefusesFrom p parties.Clients number piece code = code ≡ NOT_HERE
RefusesFrom p (parties.Server from) number piece code = RefusesTake p from number piece code

-- The core refuses it, whatever it stands for. Want of memory is told only where nothing else refuses.
pub record RefusesOrder (refusal : Master → Option WorldFault) (p : MasterProcess) (code : ℕ) : Type 0 where
  pub fault : WorldFault
  pub why : (m : Master) (outbox : Party → List Message) → MasterStandsFor p.core m outbox → chain.IsRefusal fault (refusal m)
  pub is : code ≡ chain.code_of fault

-- Why a command is refused.
abbrev pub Refuses : MasterProcess → Command → ℕ → Type 0
Refuses p (commands.Arrive stream clock request) code = code ≡ NOT_HERE
Refuses p (commands.Ask query) code = code ≡ NOT_HERE
Refuses p (commands.Take from number piece) code = RefusesFrom p from number piece code
Refuses p (commands.Detect server) code = RefusesOrder (refusal_of_detection server) p code
Refuses p (commands.Join server) code = RefusesOrder (refusal_of_join server) p code
Refuses p (commands.More to) code = ⊥
Refuses p (commands.Gone server) code = code ≡ NO_MEMORY
Refuses p commands.Save code = code ≡ NOT_HERE
Refuses p (commands.Load chunk) code = code ≡ NOT_HERE
