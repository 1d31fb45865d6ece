-- The first message, if one waits.
use Rattle.cq_master_process.specs.within.Telling.{IsEmptyFor, WaitsFor}
use Rattle.cq_master_process.proofs.Told.{first-waits, on-no-memory, on-nothing, tells-first}
use Rattle.cq_master_process.proofs.telling.tell_first.Goals as goal

pub returns-in-Some-clause-told : goal.returns-in-Some-clause-told
returns-in-Some-clause-told c =
    tells-first c.tell_message.result c.args.core.now c.args.to c.args.number c.args.out.now.items c.tell_message.new.out.items c.in-Some.message.now c.in-Some.ensures c.tell_message.ensures.told c.tell_message.ensures.fits

pub returns-in-Some-clause-empty : goal.returns-in-Some-clause-empty
returns-in-Some-clause-empty c = on-nothing c.tell_message.result (IsEmptyFor c.args.core.now c.args.to) c.tell_message.ensures.some

pub returns-in-Some-clause-waits : goal.returns-in-Some-clause-waits
returns-in-Some-clause-waits c = on-no-memory c.tell_message.result (WaitsFor c.args.core.now c.args.to) (first-waits c.args.core.now c.args.to c.in-Some.message.now c.in-Some.ensures)

pub returns-in-None-clause-empty : goal.returns-in-None-clause-empty
returns-in-None-clause-empty c = c.in-None.ensures
