-- The text by which a fault of a process is told, and what processes are asked for.
use Rattle.std.proofs.Common.{ℕ, List, [], ◌∷◌, ◌++◌, Option, None, Some, refl, codes, ◌≡◌}
use Rattle.std.specs.Prelude.{decimal}
use Rattle.clap.specs.Words.{Row, Text}
use Rattle.cq_args.specs.declared.invocation.Invocation.{Invocation}
use Rattle.cq_args.specs.declared.invocation.Invocation.TheVariants.{Copy, Dump, Explain, First, Joining, Kept, KeptServer, Live, Loaded, Master, Replay, Session, Verify, Watch}
use Rattle.cq_args.specs.CommandLine.{IsAsked}
use Rattle.cq_frame_loop.specs.declared.fault.LoopFault.{LoopFault}
use Rattle.cq_main.specs.Invocations.{IsSound}
use Rattle.cq_main.specs.ProcessStatuses.{process_code_of, process_fault_text, process_name_of}

pub is_process_told : (fault : LoopFault) (code : ℕ) (name : List ℕ) → code ≡ process_code_of fault → name ≡ process_name_of fault
    → codes "cq: " ++ (decimal code ++ (codes " " ++ (name ++ 10 ∷ []))) ≡ process_fault_text fault
is_process_told fault code name code_is name_is = rw (code_is, name_is) refl

-- a first server that is asked for is one of its chain
pub asked_sound : (found : Option (Text × List Row)) (invocation : Invocation) → IsAsked found invocation → IsSound invocation
asked_sound None (First id size) h = absurd (h.5 tt)
asked_sound (Some f) (First id size) h = h.5.0.2
asked_sound found (Replay size) h = tt
asked_sound found (Session size) h = tt
asked_sound found (Kept size journal) h = tt
asked_sound found (Live size turns) h = tt
asked_sound found (Verify path) h = tt
asked_sound found (Copy path to) h = tt
asked_sound found (Dump path) h = tt
asked_sound found (Joining id) h = tt
asked_sound found Loaded h = tt
asked_sound found (KeptServer path mebibytes no_create) h = tt
asked_sound found (Master size) h = tt
asked_sound found (Explain size is_live) h = tt
asked_sound found (Watch size) h = tt
