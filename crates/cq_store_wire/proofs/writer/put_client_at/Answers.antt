use Rattle.std.proofs.Common.{◌+◌, arith}
use Rattle.cq_store_wire.specs.Order.{parts_from}
use Rattle.cq_store_wire.proofs.Places.{client-next-at, clients-end, drop-none, drop-past, same-next}
use Rattle.cq_store_wire.proofs.writer.put_client_at.Goals as goal

pub returns-then-index-client_count-clause-ok : goal.returns-then-index-client_count-clause-ok
returns-then-index-client_count-clause-ok c =
    same-next c.put_name_at.result _ _ (parts_from c.args.store.now c.args.bodies.now) _ _ (clients-end c.args.store.now c.args.bodies.now c.args.index (drop-past _ c.args.index (omega (arith, c.client_count.ensures.count, c.if-index-client_count.true)))) (c.put_name_at.ensures.ok c.args.bodies.now)

pub returns-in_ok-put_client-in-Some-clause-ok : goal.returns-in_ok-put_client-in-Some-clause-ok
returns-in_ok-put_client-in-Some-clause-ok c =
    client-next-at c.args.store.now c.args.bodies.now c.put_client.new.bodies c.args.index (c.args.index + 1) (c.in-Some.client.now, c.in-Some.kept.now) c.args.out.now.value c.put_client.new.out.value (omega arith) c.in-Some.ensures.some c.in_ok-put_client-in-Some.ensures.known
    (c.client_fits.ensures c.args.bodies.now c.in_ok-put_client-in-Some.ensures.known) c.in_ok-put_client-in-Some.ensures.ok

pub returns-in-None-clause-ok : goal.returns-in-None-clause-ok
returns-in-None-clause-ok c =
    same-next c.put_name_at-in-None.result _ _ (parts_from c.args.store.now c.args.bodies.now) _ _ (clients-end c.args.store.now c.args.bodies.now c.args.index (drop-none _ c.args.index c.in-None.ensures.none)) (c.put_name_at-in-None.ensures.ok c.args.bodies.now)
