-- The numbers and names of the faults of live runs. They were written down by hand.
use Rattle.std.proofs.Common.{◌≡◌, ℕ, [], ◌∷◌, map, true, false, codes, refl}
use Rattle.cq_live.specs.Faults.{code_of, name_of, is_of_steps}
use Rattle.cq_live.specs.declared.fault.LiveFault.TheVariants.{TurnLimit, AuditRefused, SpawnFailed, BadScript, NoMemory}
use Rattle.cq_trace.specs.declared.fault.AuditFault.{AuditFault}

live_codes : (fault : AuditFault) (step : ℕ) → map code_of (TurnLimit ∷ AuditRefused fault ∷ SpawnFailed ∷ BadScript step ∷ NoMemory ∷ []) ≡ 71 ∷ 72 ∷ 73 ∷ 74 ∷ 20 ∷ []
live_codes fault step = refl

live_names : (fault : AuditFault) (step : ℕ) → map name_of (TurnLimit ∷ AuditRefused fault ∷ SpawnFailed ∷ BadScript step ∷ NoMemory ∷ []) ≡ codes "TurnLimit" ∷ codes "AuditRefused" ∷ codes "SpawnFailed" ∷ codes "BadScript" ∷ codes "NoMemory" ∷ []
live_names fault step = refl

of_steps : (fault : AuditFault) (step : ℕ) → map is_of_steps (TurnLimit ∷ AuditRefused fault ∷ SpawnFailed ∷ BadScript step ∷ NoMemory ∷ []) ≡ false ∷ false ∷ false ∷ true ∷ false ∷ []
of_steps fault step = refl
