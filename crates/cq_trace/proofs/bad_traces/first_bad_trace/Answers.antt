-- By the trace that comes next.
use Rattle.std.proofs.Common.{◌∙◌, sym, refl, length, arith}
use Rattle.std.proofs.lemmas.Option.{slice_get_read}
use Rattle.cq_trace.proofs.OfAudit.GoodTraces.{bad-here, bad-next, bad-end}
use Rattle.cq_trace.proofs.bad_traces.first_bad_trace.Goals as goal

pub loop-i-init : goal.loop-i-init
loop-i-init c = refl

pub returns-then-is_bad_trace : goal.returns-then-is_bad_trace
returns-then-is_bad_trace c =
    let traces = c.args.traces.now in
    sym (bad-here traces c.loop-i.i c.index-traces-i.result (slice_get_read traces (length traces) c.loop-i.i c.index-traces-i.result refl c.loop-i-test.true c.index-traces-i.is) (sym c.is_bad_trace.ensures ∙ c.if-is_bad_trace.true)) ∙ c.loop-i.invariant

pub loop-i-preserved : goal.loop-i-preserved
loop-i-preserved c =
    let traces = c.args.traces.now in
    bad-next traces c.loop-i.i c.index-traces-i.result (slice_get_read traces (length traces) c.loop-i.i c.index-traces-i.result refl c.loop-i-test.true c.index-traces-i.is) (sym c.is_bad_trace.ensures ∙ c.if-is_bad_trace.false) ∙ c.loop-i.invariant

pub returns : goal.returns
returns c = sym (bad-end c.args.traces.now c.loop-i.i (omega (arith, c.loop-i-test.false, c.loop-i.auto.i-end))) ∙ c.loop-i.invariant
