-- So far the events before this one were run.
use Rattle.std.proofs.Common.{◌≡◌, take, None}
use Rattle.cq_world.proofs.OfSim.RunSteps.{IsRun}
use Rattle.cq_world.proofs.sim.Sim.run.Given as goal

abbrev pub invariant-loop-event : goal.invariant-loop-event
invariant-loop-event l = (l.ran.done ≡ l.event-index) × (l.ran.stop ≡ None) × IsRun l.fn.self l.self (take l.event-index l.events) l.ran.given.items l.ran.refused.items
