use Rattle.std.proofs.Common.{◌+◌, sym, arith}
use Rattle.cq_store_wire.specs.Order.{parts_from}
use Rattle.cq_store_wire.proofs.Places.{accepted-done, accepted-next-at, accepted-none, same-next}
use Rattle.cq_store_wire.proofs.writer.put_accepted_at.Goals as goal

pub returns-in_ok-put_accepted-in-Some-accepted-clause-ok : goal.returns-in_ok-put_accepted-in-Some-accepted-clause-ok
returns-in_ok-put_accepted-in-Some-accepted-clause-ok c =
    λ known. accepted-next-at c.args.store.now known c.args.name c.args.next (c.args.next + 1) c.in-Some.queue.now c.in-Some-accepted.accepted.now c.args.out.now.value c.put_accepted.new.out.value (omega arith) (sym c.in-Some.ensures) (sym c.in-Some-accepted.ensures.item) c.accepted_fits.ensures c.in_ok-put_accepted-in-Some-accepted.ensures.ok

pub returns-in-None-accepted-clause-ok : goal.returns-in-None-accepted-clause-ok
returns-in-None-accepted-clause-ok c =
    λ known. same-next c.put_name_behind.result _ _ (parts_from c.args.store.now known) _ _ (accepted-done c.args.store.now known c.args.name c.args.next c.in-Some.queue.now (sym c.in-Some.ensures) (sym c.in-None-accepted.ensures.item)) (c.put_name_behind.ensures.ok known)

pub returns-in-None-clause-ok : goal.returns-in-None-clause-ok
returns-in-None-clause-ok c =
    λ known. same-next c.put_name_behind-in-None.result _ _ (parts_from c.args.store.now known) _ _ (accepted-none c.args.store.now known c.args.name c.args.next (sym c.in-None.ensures)) (c.put_name_behind-in-None.ensures.ok known)
