-- By what the step gave.
use Rattle.std.proofs.Common.{◌+◌, ◌∙◌, ◌++◌, inr, ap, sym, subst, append-nil, Some}
use Rattle.std.specs.Result.{IsOk}
use Rattle.cq_events.specs.Events.{refusal_of}
use Rattle.cq_events.specs.Runs.{given_if, numbered}
use Rattle.cq_world.specs.Stands.{StandsFor, HasRoomFor}
use Rattle.cq_events.specs.Worlds.{World}
use Rattle.cq_world.proofs.OfSim.RunSteps.{after-done, after-refused, refusal-told, passes}
use Rattle.cq_world.proofs.OfSim.Calls.{on-ok, on-err, no-err}
use Rattle.cq_world.proofs.sim.Sim.run_event.Goals as goal

pub returns-in-Ok : goal.returns-in-Ok
returns-in-Ok c =
    let event = c.args.event.now in
    let old = c.args.ran.now in
    let given = c.in-Ok.given in
    let room = c.in_ok-make_room.ensures in
    let passed : (w : World) → StandsFor c.args.self.now w → IsOk c.pass.result = λ w h.
    let done = c.in-Ok.ensures.ok w h in
    passes given c.make_room.new.ran c.pass.result (subst (λ g. HasRoomFor g c.make_room.new.ran) (ap (λ r. given_if w event r) done.0 ∙ sym done.1) (room.room w h)) c.pass.ensures.none c.pass.ensures.room in
    record {
      ok = λ w h. let done = c.in-Ok.ensures.ok w h in
          on-ok c.pass.result (λ e. subst (λ v. StandsFor c.step.new.self v) (sym (after-done w event done.0)) done.2) c.pass.ensures.done;
      done = on-ok c.pass.result (λ e. e ∙ ap (λ n. n + 1) room.done) c.pass.ensures.done;
      stop = c.pass.ensures.stop ∙ room.stop;
      given = λ w h. let done = c.in-Ok.ensures.ok w h in
          on-ok c.pass.result (λ e. e ∙ ap (λ xs. xs ++ numbered (c.make_room.new.ran.done + 1) given) room.given
          ∙ ap (λ n. old.given.items ++ numbered (n + 1) given) room.done
          ∙ ap (λ g. old.given.items ++ numbered (old.done + 1) g) (done.1 ∙ sym (ap (λ r. given_if w event r) done.0))) c.pass.ensures.given;
      refused = λ w h. let done = c.in-Ok.ensures.ok w h in
          on-ok c.pass.result (λ e. ap (λ r. r.items) (c.pass.ensures.refused ∙ room.refused)
          ∙ sym (ap (λ r. old.refused.items ++ numbered (old.done + 1) r) done.0 ∙ append-nil old.refused.items)) c.pass.ensures.done;
      err = λ w h. no-err (StandsFor c.step.new.self w) c.pass.result (passed w h);
      same_done = on-err c.pass.result (λ e. e ∙ room.done) c.pass.ensures.same_done;
      same_given = on-err c.pass.result (λ e. e ∙ room.given) c.pass.ensures.same_given;
      same_refused = on-err c.pass.result (λ e. ap (λ r. r.items) (c.pass.ensures.refused ∙ room.refused)) c.pass.ensures.same_done;
      wants = λ w h. no-err _ c.pass.result (passed w h);
    }

pub returns-in_default : goal.returns-in_default
returns-in_default c =
    let event = c.args.event.now in
    let fault = c.in-Err.fault in
    let old = c.args.ran.now in
    let room = c.in_ok-make_room.ensures in
    record {
      ok = λ w h.
          let refused = c.in-Err.ensures.err w h in
          on-ok c.refuse.result (λ e. subst (λ v. StandsFor c.step.new.self v) (sym (after-refused w event fault (refusal-told fault (refusal_of w event) c.in_default.not-NoMemory refused.0))) refused.1) c.refuse.ensures.done;
      done = on-ok c.refuse.result (λ e. e ∙ ap (λ n. n + 1) room.done) c.refuse.ensures.done;
      stop = c.refuse.ensures.stop ∙ room.stop;
      given = λ w h.
          let told = refusal-told fault (refusal_of w event) c.in_default.not-NoMemory (c.in-Err.ensures.err w h).0 in
          on-ok c.refuse.result (λ e. c.refuse.ensures.given ∙ room.given ∙ sym (ap (λ r. old.given.items ++ numbered (old.done + 1) (given_if w event r)) told ∙ append-nil old.given.items)) c.refuse.ensures.done;
      refused = λ w h.
          let told = refusal-told fault (refusal_of w event) c.in_default.not-NoMemory (c.in-Err.ensures.err w h).0 in
          on-ok c.refuse.result (λ e. e ∙ ap (λ r. r.items ++ numbered (c.make_room.new.ran.done + 1) (Some fault)) room.refused
          ∙ ap (λ n. old.refused.items ++ numbered (n + 1) (Some fault)) room.done
          ∙ sym (ap (λ r. old.refused.items ++ numbered (old.done + 1) r) told)) c.refuse.ensures.refused;
      err = λ w h. on-err c.refuse.result (λ e. (c.in-Err.ensures.err w h).1) c.refuse.ensures.same_done;
      same_done = on-err c.refuse.result (λ e. e ∙ room.done) c.refuse.ensures.same_done;
      same_given = on-err c.refuse.result (λ e. c.refuse.ensures.given ∙ room.given) c.refuse.ensures.same_done;
      same_refused = on-err c.refuse.result (λ e. e ∙ ap (λ r. r.items) room.refused) c.refuse.ensures.same_refused;
      wants = λ w h. on-err c.refuse.result (λ full. inr full) c.refuse.ensures.full;
    }
