use Rattle.cq_store_wire.proofs.Building.{message-late, message-put, message-refused, none-first, some-first}
use Rattle.cq_store_wire.proofs.part.with_message.Goals as goal

pub returns-then-is_some : goal.returns-then-is_some
returns-then-is_some c = message-late c.args.message c.args.queue (some-first (λ a. a.now) c.accepted.result c.args.queue.accepted c.accepted.ensures.item c.if-is_some.ensures)

pub returns-in-Ok-true : goal.returns-in-Ok-true
returns-in-Ok-true c =
    message-put c.args.message c.args.queue c.restore_message.new.self
    (none-first (λ a. a.now) c.accepted.result c.args.queue.accepted c.accepted.ensures.item c.if-is_some.ensures)
    (c.in-Ok-true.ensures.next c.in-Ok-true.field-0-test) (c.in-Ok-true.ensures.put c.in-Ok-true.field-0-test)

pub returns-in-Ok-false : goal.returns-in-Ok-false
returns-in-Ok-false c =
    message-refused c.args.message c.args.queue
    (none-first (λ a. a.now) c.accepted.result c.args.queue.accepted c.accepted.ensures.item c.if-is_some.ensures)
    (c.in-Ok-false.ensures.only c.in-Ok-false.field-0-test)
