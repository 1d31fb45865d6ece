-- The line of a fault of a process, and the status with which the program ends.
use Rattle.std.specs.Prelude.{ℕ, List, [], ◌∷◌, ◌++◌, codes, decimal}
use Rattle.cq_frame_loop.specs.declared.fault.LoopFault.{LoopFault}
use Rattle.cq_frame_loop.specs.declared.fault.LoopFault.TheVariants.{NoMemory, ReadFailed, WriteFailed, Unanswered, Interrupted, TooManyBytes}

-- the number of a fault
abbrev pub process_code_of : LoopFault → ℕ
process_code_of NoMemory = 20
process_code_of ReadFailed = 64
process_code_of WriteFailed = 65
process_code_of Unanswered = 75
process_code_of Interrupted = 76
process_code_of TooManyBytes = 77

-- its name
abbrev pub process_name_of : LoopFault → List ℕ
process_name_of NoMemory = codes "NoMemory"
process_name_of ReadFailed = codes "ReadFailed"
process_name_of WriteFailed = codes "WriteFailed"
process_name_of Unanswered = codes "Unanswered"
process_name_of Interrupted = codes "Interrupted"
process_name_of TooManyBytes = codes "TooManyBytes"

-- its line
abbrev pub process_fault_text : LoopFault → List ℕ
process_fault_text fault = codes "cq: " ++ (decimal (process_code_of fault) ++ (codes " " ++ (process_name_of fault ++ 10 ∷ [])))

-- the line where what came first was no store
abbrev pub not_loaded_text : List ℕ
not_loaded_text = codes "cq: 78 NotLoaded" ++ 10 ∷ []
