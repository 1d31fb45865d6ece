-- The number and the name of why a line says no event.
use Rattle.std.specs.Prelude.{ℕ, List, codes}
use Rattle.cq_base.specs.Fault as texts
use Rattle.cq_script.specs.declared.fault.LineRefusal.{LineRefusal}
use Rattle.cq_script.specs.declared.fault.LineRefusal.TheVariants.{Text, Bad, TooLong}

-- the number of why a line says no event: that of the text's fault, or of the script's
abbrev pub line_code_of : LineRefusal → ℕ
line_code_of (Text fault) = texts.code_of fault
line_code_of Bad = 61
line_code_of TooLong = 62

-- its name
abbrev pub line_name_of : LineRefusal → List ℕ
line_name_of (Text fault) = texts.name_of fault
line_name_of Bad = codes "BadLine"
line_name_of TooLong = codes "LineTooLong"
