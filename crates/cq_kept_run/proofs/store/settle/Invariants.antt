-- The session stays one.
use Rattle.std.proofs.Common.{◌≡◌}
use Rattle.cq_kept_session.specs.Kept.{IsKept, session_size}
use Rattle.cq_kept_run.proofs.store.settle.Given as goal

abbrev pub invariant-loop : goal.invariant-loop
invariant-loop g l = record { kept : IsKept l.session; size : session_size l.session ≡ session_size l.initial.session }
