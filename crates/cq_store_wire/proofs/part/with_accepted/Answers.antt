use Rattle.cq_store_wire.proofs.Building.{accepted-put, accepted-refused}
use Rattle.cq_store_wire.proofs.part.with_accepted.Goals as goal

pub returns-in-Ok-true : goal.returns-in-Ok-true
returns-in-Ok-true c =
    accepted-put c.args.accepted c.args.queue c.restore_accepted.new.self (c.in-Ok-true.ensures.next c.in-Ok-true.field-0-test) (c.in-Ok-true.ensures.put c.in-Ok-true.field-0-test)

pub returns-in-Ok-false : goal.returns-in-Ok-false
returns-in-Ok-false c = accepted-refused c.args.accepted c.args.queue (c.in-Ok-false.ensures.only c.in-Ok-false.field-0-test)
