-- Whether a chunk was kept, by the answer of the call that took it.
use Rattle.std.specs.Prelude.{Result, Ok, Err}
use Rattle.cq_kept_session.specs.declared.fault.TakeFault.{TakeFault}
use Rattle.cq_kept_session.specs.declared.fault.TakeFault.TheVariants.{NotKept, NotTold}

-- what holds where the chunk is kept, whatever came of its run
abbrev pub OnKept : Result (Unit {0}) TakeFault → Type 0 → Type 0
OnKept (Ok _) P = P
OnKept (Err (NotKept fault)) P = Unit {0}
OnKept (Err (NotTold fault)) P = P

-- what holds where it isn't
abbrev pub OnNotKept : Result (Unit {0}) TakeFault → Type 0 → Type 0
OnNotKept (Ok _) P = Unit {0}
OnNotKept (Err (NotKept fault)) P = P
OnNotKept (Err (NotTold fault)) P = Unit {0}
