use Rattle.cq_wire.specs.Reading.{several_at}
use Rattle.cq_wire.proofs.Loop.{goes_on, fails, ends}
use Rattle.cq_store_wire.specs.Reading.{delivery_record_at}
use Rattle.cq_store_wire.proofs.replies.several_of.Goals as goal

pub returns-in-Err : goal.returns-in-Err
returns-in-Err c =
    fails delivery_record_at c.in-Err.fault c.loop.records.items c.args.count c.loop.counter c.loop.rest.now (several_at delivery_record_at c.args.count c.args.bytes.now) c.loop-test.true c.in-Err.ensures c.loop.invariant

pub loop-preserved : goal.loop-preserved
loop-preserved c =
    rw c.in_ok-push.ensures.items
    (goes_on delivery_record_at c.loop.records.items c.args.count c.loop.counter c.loop.rest.now c.in-Ok.read.0 c.in-Ok.read.1.now (several_at delivery_record_at c.args.count c.args.bytes.now) c.loop-test.true c.in-Ok.ensures c.loop.invariant)

pub returns : goal.returns
returns c = ends delivery_record_at c.loop.records.items c.args.count c.loop.counter c.loop.rest.now (several_at delivery_record_at c.args.count c.args.bytes.now) c.loop-test.false c.loop.invariant
