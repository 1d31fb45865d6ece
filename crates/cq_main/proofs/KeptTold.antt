-- The text by which a fault of a journal is told.
use Rattle.std.proofs.Common.{ℕ, List, [], ◌∷◌, ◌++◌, Option, refl, codes, ◌≡◌}
use Rattle.std.specs.Prelude.{decimal}
use Rattle.cq_kept_run.specs.Faults.{code_of, name_of}
use Rattle.cq_kept_run.specs.declared.fault.JournalFault.{JournalFault}
use Rattle.cq_main.specs.KeptStatuses.{fault_place, journal_fault_text, place_text}

pub is_told : (fault : JournalFault) (code : ℕ) (name : List ℕ) (place : Option ℕ) → code ≡ code_of fault → name ≡ name_of fault → fault_place fault ≡ place
    → codes "cq: " ++ (decimal code ++ (codes " " ++ (name ++ (place_text place ++ 10 ∷ [])))) ≡ journal_fault_text fault
is_told fault code name place code_is name_is place_is = rw (code_is, name_is, place_is) refl
