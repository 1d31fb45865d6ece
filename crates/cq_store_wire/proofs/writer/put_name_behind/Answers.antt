use Rattle.std.proofs.Common.{suc, ◌+◌, arith}
use Rattle.cq_store_wire.specs.Order.{parts_from}
use Rattle.cq_store_wire.proofs.Places.{drop-past, end-next, names-from, same-next}
use Rattle.cq_store_wire.proofs.writer.put_name_behind.Goals as goal

pub returns-then-name-name_count-clause-ok : goal.returns-then-name-name_count-clause-ok
returns-then-name-name_count-clause-ok c =
    λ known. same-next c.put_name_at.result _ _ (parts_from c.args.store.now known) _ _ (names-from c.args.store.now known c.args.name (c.args.name + 1) (omega arith)) (c.put_name_at.ensures.ok known)

pub returns-in_ok-put_end-clause-ok : goal.returns-in_ok-put_end-clause-ok
returns-in_ok-put_end-clause-ok c =
    λ known. end-next c.args.store.now known _ c.args.out.now.value c.put_end.new.out.value (drop-past c.args.store.now.queues (suc c.args.name) (omega (arith, c.name_count.ensures.count, c.if-name-name_count.false))) c.in_ok-put_end.ensures.ok
