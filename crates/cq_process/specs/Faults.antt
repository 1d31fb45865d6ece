-- The numbers under which the faults of links are told.
use Rattle.std.specs.Prelude.{ℕ}
use Rattle.cq_chain.specs.Faults as chain
use Rattle.cq_process.specs.declared.incoming.TakeFault.{TakeFault}
use Rattle.cq_process.specs.declared.incoming.TakeFault.TheVariants.{NotNext, Unread, Refused}
use Rattle.cq_process.specs.declared.outgoing.PutFault.{PutFault}
use Rattle.cq_process.specs.declared.outgoing.PutFault.TheVariants.{NumbersSpent, NoMemory}
use Rattle.cq_wire.specs.declared.fault.ReadFault.TheVariants as read
use Rattle.cq_wire.specs.Faults as wire

-- why nothing was taken; where there was no memory for a piece, its message begins again, and that has a number of its own
abbrev pub take_code : TakeFault → ℕ
take_code NotNext = 45
take_code (Unread read.NoMemory) = 48
take_code (Unread (read.Bad fault)) = wire.wire_code fault
take_code (Refused fault) = chain.code_of fault

-- why nothing was written
abbrev pub put_code : PutFault → ℕ
put_code NumbersSpent = 46
put_code NoMemory = 20
