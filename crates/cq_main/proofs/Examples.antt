-- Worked lines of faults, the statuses with which they end the program, and the line of a version. They were worked out by
-- hand.
use Rattle.std.proofs.Common.{◌≡◌, ◌∷◌, [], map, codes, refl}
use Rattle.std.specs.Fmt.{digits}
use Rattle.cq_lines.specs.declared.fault.ScriptFault.TheVariants.{BadLine, LineTooLong, TooManyLines, ReadFailed, WriteFailed, NoMemory}
use Rattle.cq_live.specs.declared.fault.LiveFault.TheVariants.{TurnLimit, AuditRefused, SpawnFailed, BadScript, NoMemory as NoRoom}
use Rattle.cq_trace.specs.declared.fault.AuditFault.{AuditFault}
use Rattle.cq_main.specs.LiveStatuses.{live_fault_text, live_status_of}
use Rattle.cq_main.specs.Outcomes.{version_text}
use Rattle.cq_main.specs.Statuses.{fault_text, status_of}

lines_of_faults :
    map fault_text (BadLine 3 ∷ LineTooLong 12 ∷ TooManyLines ∷ ReadFailed ∷ WriteFailed ∷ NoMemory ∷ [])
    ≡ codes "cq: 61 BadLine line 3\n" ∷ codes "cq: 62 LineTooLong line 12\n" ∷ codes "cq: 63 TooManyLines\n" ∷ codes "cq: 64 ReadFailed\n"
    ∷ codes "cq: 65 WriteFailed\n" ∷ codes "cq: 20 NoMemory\n" ∷ []
unfolding digits
lines_of_faults = refl

statuses : map status_of (BadLine 3 ∷ LineTooLong 3 ∷ TooManyLines ∷ ReadFailed ∷ WriteFailed ∷ NoMemory ∷ []) ≡ 2 ∷ 2 ∷ 2 ∷ 3 ∷ 3 ∷ 3 ∷ []
statuses = refl

lines_of_live_faults : (fault : AuditFault) →
    map live_fault_text (TurnLimit ∷ AuditRefused fault ∷ SpawnFailed ∷ BadScript 12 ∷ NoRoom ∷ [])
    ≡ codes "cq: 71 TurnLimit\n" ∷ codes "cq: 72 AuditRefused\n" ∷ codes "cq: 73 SpawnFailed\n" ∷ codes "cq: 74 BadScript step 12\n"
    ∷ codes "cq: 20 NoMemory\n" ∷ []
unfolding digits
lines_of_live_faults fault = refl

live_statuses : (fault : AuditFault) → map live_status_of (TurnLimit ∷ AuditRefused fault ∷ SpawnFailed ∷ BadScript 3 ∷ NoRoom ∷ []) ≡ 3 ∷ 1 ∷ 3 ∷ 2 ∷ 3 ∷ []
live_statuses fault = refl

line_of_version : version_text (codes "0.1.0") ≡ codes "cq 0.1.0\n"
line_of_version = refl
