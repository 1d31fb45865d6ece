-- The line of a fault, and the status with which the program ends.
use Rattle.std.specs.Prelude.{ℕ, List, [], ◌∷◌, ◌++◌, codes, decimal, Option, Some, None}
use Rattle.cq_lines.specs.Faults.{code_of, name_of}
use Rattle.cq_lines.specs.declared.fault.ScriptFault.{ScriptFault}
use Rattle.cq_lines.specs.declared.fault.ScriptFault.TheVariants.{BadLine, LineTooLong, TooManyLines, ReadFailed, WriteFailed, NoMemory}

-- 2 where the script is at fault, and else 3
abbrev pub status_of : ScriptFault → ℕ
status_of (BadLine n) = 2
status_of (LineTooLong n) = 2
status_of TooManyLines = 2
status_of ReadFailed = 3
status_of WriteFailed = 3
status_of NoMemory = 3

-- at which line the fault is, if it is at one
abbrev pub fault_line : ScriptFault → Option ℕ
fault_line (BadLine n) = Some n
fault_line (LineTooLong n) = Some n
fault_line TooManyLines = None
fault_line ReadFailed = None
fault_line WriteFailed = None
fault_line NoMemory = None

-- it, as it is told
abbrev pub line_text : Option ℕ → List ℕ
line_text (Some n) = codes " line " ++ decimal n
line_text None = []

-- the line of a fault
abbrev pub fault_text : ScriptFault → List ℕ
fault_text fault = codes "cq: " ++ (decimal (code_of fault) ++ (codes " " ++ (name_of fault ++ (line_text (fault_line fault) ++ 10 ∷ []))))
