use Rattle.cq_store_wire.proofs.Places.{end-here, name-next}
use Rattle.cq_store_wire.proofs.writer.put_name_at.Goals as goal

pub returns-in_ok-put_name-in-Some-clause-ok : goal.returns-in_ok-put_name-in-Some-clause-ok
returns-in_ok-put_name-in-Some-clause-ok c =
    λ known. name-next c.args.store.now known c.args.index (c.in-Some.name.now, c.in-Some.kept.now) c.args.out.now.value c.put_name.new.out.value c.in-Some.ensures.some c.record_fits.ensures c.all_follow.ensures c.in_ok-put_name-in-Some.ensures.ok

pub returns-in_ok-put_end-in-None-clause-ok : goal.returns-in_ok-put_end-in-None-clause-ok
returns-in_ok-put_end-in-None-clause-ok c =
    λ known. end-here c.args.store.now known c.args.index c.args.out.now.value c.put_end.new.out.value c.in-None.ensures.none c.in_ok-put_end-in-None.ensures.ok
