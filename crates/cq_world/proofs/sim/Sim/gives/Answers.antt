-- Only what is put to the clients gives an answer.
use Rattle.std.proofs.lemmas.Bool.{false≢true}
use Rattle.cq_events.specs.Events.{refusal_of}
use Rattle.cq_events.specs.declared.event.Event.TheVariants.{Put}
use Rattle.cq_world.proofs.OfSim.Refused.{silent-put, silent-event, nothing-same}
use Rattle.cq_world.proofs.sim.Sim.gives.Goals as goal

pub returns-in_default-to : goal.returns-in_default-to
returns-in_default-to c = record {
  allowed = λ w h is. absurd (false≢true is);
  silent = λ w h is. let put = Put c.in-Put.from c.in-Put.to in
      nothing-same w c.args.next.now put c.in-Put.is (silent-put w c.in-Put.from c.in-Put.to (refusal_of w put) c.in_default-to.not-Clients);
}

pub returns-in_default : goal.returns-in_default
returns-in_default c = record {
  allowed = λ w h is. absurd (false≢true is);
  silent = λ w h is. silent-event w c.args.next.now (refusal_of w c.args.next.now) c.in_default.not-Put;
}
