-- The text by which a fault of a live run is told.
use Rattle.std.proofs.Common.{ℕ, List, [], ◌∷◌, ◌++◌, Option, Result, Err, refl, ap, codes, ◌≡◌}
use Rattle.std.specs.Prelude.{◌↔◌, decimal}
use Rattle.cq_live.specs.declared.report.LiveReport.{LiveReport}
use Rattle.cq_live.specs.Faults.{code_of, name_of}
use Rattle.cq_live.specs.declared.fault.LiveFault.{LiveFault}
use Rattle.cq_main.specs.LiveStatuses.{fault_step, live_fault_text, step_text}

pub is_told : (fault : LiveFault) (code : ℕ) (name : List ℕ) (step : Option ℕ) → code ≡ code_of fault → name ≡ name_of fault → fault_step fault ≡ step
    → codes "cq: " ++ (decimal code ++ (codes " " ++ (name ++ (step_text step ++ 10 ∷ [])))) ≡ live_fault_text fault
is_told fault code name step code_is name_is step_is = rw (code_is, name_is, step_is) refl

same_fault : (f x : LiveFault) (a b : Result LiveReport LiveFault) → a ≡ Err f → b ≡ Err x → a ≡ b → f ≡ x
same_fault f x a b one other same = cc

abbrev faulty : LiveFault → Result LiveReport LiveFault
faulty f = Err f

-- what an answer with a fault says, its fault says
pub of_fault : (f x : LiveFault) (P : Type 0) → ((faulty f ≡ faulty x) ↔ P) → (f ≡ x) ↔ P
of_fault f x P both = (λ same. both.0 (ap faulty same), λ p. same_fault f x (faulty f) (faulty x) refl refl (both.1 p))
