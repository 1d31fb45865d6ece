-- None before this one was bad.
use Rattle.std.proofs.Common.{◌≡◌, [], take, drop}
use Rattle.cq_trace.specs.Audits.{first_bad}
use Rattle.cq_trace.proofs.bad_traces.first_bad_trace.Given as goal

abbrev pub invariant-loop-i : goal.invariant-loop-i
invariant-loop-i l = first_bad (take l.i l.traces) (drop l.i l.traces) ≡ first_bad [] l.traces
