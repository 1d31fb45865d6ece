-- The master hears servers alone.
use Rattle.std.proofs.Common.{◌∙◌, sym, subst}
use Rattle.cq_chain.specs.Faults.{IsRefusal}
use Rattle.cq_events.specs.Events.{refusal_of_take}
use Rattle.cq_world.specs.Stands.{StandsFor}
use Rattle.cq_world.proofs.OfSim.Refused.{next-take, take-filled, take-dropped, take-nothing, dropped-of-others}
use Rattle.cq_world.proofs.OfSim.Calls.{on-ok, if-err}
use Rattle.cq_world.proofs.sim.Sim.take_by_master.Goals as goal

pub returns-in_default : goal.returns-in_default
returns-in_default c =
    let from = c.args.pair.now.from in
    let to = c.args.pair.now.to in
    let dropped = dropped-of-others from to c.requires c.in_default.not-Server in
    record {
      ok = λ w h. on-ok c.drop_first.result (λ r. (
        take-filled w from to (w.link from to) dropped r.0,
        subst (λ v. StandsFor c.drop_first.new.self v) (sym (next-take w from to ∙ take-dropped w from to (w.link from to) dropped r.0)) r.1,
      )) (c.drop_first.ensures.ok w h);
      err = λ w h. if-err _ (λ fault. IsRefusal fault (refusal_of_take w from to (w.link from to)) × StandsFor c.drop_first.new.self w) c.drop_first.result
          (λ fault r. (take-nothing w from to (w.link from to) fault r.0 r.1, r.2)) (c.drop_first.ensures.err w h);
    }
