-- How the program's readers stand to the readings of `Fields`.
use Rattle.std.specs.Prelude.{◌≡◌, Result, Ok, Err}
use Rattle.cq_base.specs.declared.fault.BaseFault.{BaseFault}
use Rattle.cq_base.specs.declared.fault.BaseFault.TheVariants as faults
use Rattle.cq_json.specs.Fields.{Reason, bad, refused}
use Rattle.cq_json.specs.declared.fields.ReadFault.{ReadFault}
use Rattle.cq_json.specs.declared.fields.ReadFault.TheVariants.{Bad, Text, Memory}

-- why a reader stops where a text could not be made
abbrev pub stop_of : BaseFault → ReadFault
stop_of faults.NoMemory = Memory
stop_of fault = Text fault

-- the reading fails for the same reason, unless memory was at fault
abbrev pub Fails : {Y : Type 0} → ReadFault → Result Y Reason → Type 0
Fails Bad reading = reading ≡ Err bad
Fails (Text fault) reading = reading ≡ Err (refused fault)
Fails Memory reading = Unit {0}

-- the reader gives what the reading gives, as it is seen
abbrev pub Gives : {X Y : Type 0} → (X → Y) → Result X ReadFault → Result Y Reason → Type 0
Gives seen (Ok x) reading = reading ≡ Ok (seen x)
Gives seen (Err stop) reading = Fails stop reading

-- it is seen as it is
abbrev pub same : {X : Type 0} → X → X
same x = x
