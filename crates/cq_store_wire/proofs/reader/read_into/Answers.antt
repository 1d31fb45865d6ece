use Rattle.std.proofs.Common.{subst, sym, ◌∙◌}
use Rattle.cq_wire.specs.Reading.{Fails}
use Rattle.cq_store_wire.proofs.Steps.{not-empty, of-nothing, shorter, turn-ok, turn-rest, turn-unput, turn-unread}
use Rattle.cq_store_wire.proofs.reader.read_into.Goals as goal

pub returns-in-Err : goal.returns-in-Err
returns-in-Err c =
    subst (λ r. Fails c.in-Err.fault r) (sym c.loop-rest.invariant.same)
    (turn-unread c.loop-rest.rest.now c.loop-rest.state c.in-Err.fault c.loop-rest.invariant.fits (not-empty c.loop-rest.rest.now c.is_empty.result c.is_empty.ensures c.loop-rest-test.true) c.in-Err.ensures)

pub returns-in-Err-put_into : goal.returns-in-Err-put_into
returns-in-Err-put_into c =
    subst (λ r. Fails c.in-Err-put_into.fault r) (sym c.loop-rest.invariant.same)
    (turn-unput c.loop-rest.rest.now c.in-Ok.read.1.now c.loop-rest.state c.in-Ok.read.0 c.in-Err-put_into.fault c.loop-rest.invariant.fits (not-empty c.loop-rest.rest.now c.is_empty.result c.is_empty.ensures c.loop-rest-test.true)
    c.in-Ok.ensures c.in-Err-put_into.ensures)

pub loop-rest-smaller : goal.loop-rest-smaller
loop-rest-smaller c = shorter c.loop-rest.rest.now _ c.loop-rest.invariant.fits c.in-Ok.ensures

pub loop-rest-preserved : goal.loop-rest-preserved
loop-rest-preserved c = record {
  fits = turn-rest c.loop-rest.rest.now _ c.loop-rest.invariant.fits c.in-Ok.ensures;
  same = c.loop-rest.invariant.same
      ∙ turn-ok c.loop-rest.rest.now c.in-Ok.read.1.now c.loop-rest.state c.in-Ok-put_into.next c.in-Ok.read.0 c.loop-rest.invariant.fits (not-empty c.loop-rest.rest.now c.is_empty.result c.is_empty.ensures c.loop-rest-test.true)
      c.in-Ok.ensures c.in-Ok-put_into.ensures;
}

pub returns : goal.returns
returns c = c.loop-rest.invariant.same ∙ of-nothing c.loop-rest.rest.now c.loop-rest.state c.is_empty.result c.is_empty.ensures c.loop-rest-test.false
