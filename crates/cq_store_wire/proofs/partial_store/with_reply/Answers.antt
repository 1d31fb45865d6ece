use Rattle.cq_store_wire.proofs.Building.{client-put, client-refused}
use Rattle.cq_store_wire.proofs.partial_store.with_reply.Goals as goal

pub returns-in-Ok-true : goal.returns-in-Ok-true
returns-in-Ok-true c =
    client-put c.args.client c.args.number c.args.reply c.args.store c.restore_client.new.self (c.in-Ok-true.ensures.new c.in-Ok-true.field-0-test) (c.in-Ok-true.ensures.put c.in-Ok-true.field-0-test)

pub returns-in-Ok-false : goal.returns-in-Ok-false
returns-in-Ok-false c = client-refused c.args.client c.args.number c.args.reply c.args.store (c.in-Ok-false.ensures.only c.in-Ok-false.field-0-test)
