-- The number and the name of each fault of a script, and which answers are want of memory.
use Rattle.std.specs.Prelude.{ℕ, List, codes, Bool, true, false, Result, Ok, Err}
use Rattle.cq_lines.specs.declared.fault.ScriptFault.{ScriptFault}
use Rattle.cq_lines.specs.declared.fault.ScriptFault.TheVariants.{BadLine, LineTooLong, TooManyLines, ReadFailed, WriteFailed, NoMemory}

-- the number of a fault
abbrev pub code_of : ScriptFault → ℕ
code_of (BadLine n) = 61
code_of (LineTooLong n) = 62
code_of TooManyLines = 63
code_of ReadFailed = 64
code_of WriteFailed = 65
code_of NoMemory = 20

-- the name of a fault
abbrev pub name_of : ScriptFault → List ℕ
name_of (BadLine n) = codes "BadLine"
name_of (LineTooLong n) = codes "LineTooLong"
name_of TooManyLines = codes "TooManyLines"
name_of ReadFailed = codes "ReadFailed"
name_of WriteFailed = codes "WriteFailed"
name_of NoMemory = codes "NoMemory"

-- whether memory ran out
abbrev pub ends_by_memory : Result (Unit {0}) ScriptFault → Bool
ends_by_memory (Ok _) = false
ends_by_memory (Err (BadLine n)) = false
ends_by_memory (Err (LineTooLong n)) = false
ends_by_memory (Err TooManyLines) = false
ends_by_memory (Err ReadFailed) = false
ends_by_memory (Err WriteFailed) = false
ends_by_memory (Err NoMemory) = true
