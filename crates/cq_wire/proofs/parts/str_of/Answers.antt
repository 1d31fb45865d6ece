use Rattle.cq_wire.proofs.Utf8.{utf8_found, utf8_refused}
use Rattle.cq_wire.proofs.parts.str_of.Goals as goal

pub returns-in-Ok : goal.returns-in-Ok
returns-in-Ok c = rw c.in-Ok.ensures.cases.0 (utf8_found _ c.in-Ok.ensures.cases.1)

pub returns-in-Err : goal.returns-in-Err
returns-in-Err c = utf8_refused _ c.in-Err.ensures.cases.0
