use Rattle.cq_store_wire.proofs.Places.{start-at}
use Rattle.cq_store_wire.proofs.writer.put_at.Goals as goal

pub returns-in_ok-put_start-in-Start-clause-ok : goal.returns-in_ok-put_start-in-Start-clause-ok
returns-in_ok-put_start-in-Start-clause-ok c =
    start-at c.args.store.now _ c.args.place c.count-count.result c.last-last.result c.args.out.now.value c.put_start.new.out.value c.in-Start.is c.count-count.ensures.value c.last-last.ensures.value c.start_fits.ensures c.in_ok-put_start-in-Start.ensures.ok
