use Rattle.cq_store_wire.proofs.Building.{name-put, name-refused, recorded}
use Rattle.cq_store_wire.proofs.part.NameRecord.close.Goals as goal

pub returns-in-Ok-true : goal.returns-in-Ok-true
returns-in-Ok-true c =
    let same = recorded c.args.self c.closed_if.result c.restored-record.result c.restored-record.ensures c.closed_if.ensures in
    name-put c.args.store c.restore_name.new.self c.args.self c.restored-record.result same (c.in-Ok-true.ensures.next c.in-Ok-true.field-0-test) (c.in-Ok-true.ensures.put c.in-Ok-true.field-0-test)

pub returns-in-Ok-false : goal.returns-in-Ok-false
returns-in-Ok-false c =
    let same = recorded c.args.self c.closed_if.result c.restored-record.result c.restored-record.ensures c.closed_if.ensures in
    name-refused c.args.store c.args.self c.restored-record.result same (c.in-Ok-false.ensures.only c.in-Ok-false.field-0-test)
