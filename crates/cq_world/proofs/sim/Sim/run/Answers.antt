-- One event more.
use Rattle.std.proofs.Common.{◌≡◌, ◌+◌, ◌<◌, ◌≤◌, ◌∙◌, ◌++◌, ◌∷◌, [], ap, sym, subst, take, length, slice_get, Some, suc, arith}
use Rattle.std.proofs.lemmas.List.{length-take-le}
use Rattle.std.proofs.lemmas.Option.{slice_get-get_or}
use Rattle.std.proofs.Math.Seq.{take-suc}
use Rattle.cq_base.specs.Relations.{Among}
use Rattle.cq_events.specs.Events.{refusal_of}
use Rattle.cq_world.specs.Laws.{IsOfTheObject}
use Rattle.cq_events.specs.Runs.{world_after}
use Rattle.cq_world.specs.Stands.{WantsMemory}
use Rattle.cq_events.specs.Worlds.{first_world}
use Rattle.cq_world.proofs.OfLaws.Headlines.{headline_holds, given_of_one_object}
use Rattle.cq_world.proofs.OfSim.RunSteps.{IsRun, none-run, one-more, some_same}
use Rattle.cq_world.proofs.OfSim.Calls.{had-ok, had-err}
use Rattle.cq_world.proofs.sim.Sim.run.Goals as goal

pub loop-event-init : goal.loop-event-init
loop-event-init c = (
  c.new-ran.ensures.done,
  c.new-ran.ensures.stop,
  subst (λ xs. IsRun c.args.self.now c.args.self.now [] xs c.new-ran.result.refused.items) (sym c.new-ran.ensures.given)
      (subst (λ xs. IsRun c.args.self.now c.args.self.now [] [] xs) (sym c.new-ran.ensures.refused) (none-run c.args.self.now)),
)

pub loop-event-preserved : goal.loop-event-preserved
loop-event-preserved c =
    let i = c.loop-event.event-index in
    let events = c.args.events.now in
    let event = c.event-item.result in
    let ok = sym c.if-is_err.ensures.value in
    let inside : i < length events = omega (arith, c.loop-event-test.true, c.loop-event.auto.event-index-end) in
    let one : i + 1 ≡ suc i = omega arith in
    let so : take (i + 1) events ≡ take i events ++ event ∷ [] = ap (λ k. take k events) one ∙ take-suc events i event inside ∙ ap (λ e. take i events ++ e ∷ []) (sym c.event-item.is) in
    let few : i ≤ length events = omega (arith, inside) in
    let count : c.loop-event.ran.done ≡ length (take i events) = c.loop-event.invariant.0 ∙ sym (length-take-le i events few) in (
      had-ok c.run_event.result ok c.run_event.ensures.done ∙ ap (λ n. n + 1) c.loop-event.invariant.0,
      c.run_event.ensures.stop ∙ c.loop-event.invariant.1,
      subst (λ xs. IsRun c.args.self.now c.run_event.new.self xs c.run_event.new.ran.given.items c.run_event.new.ran.refused.items) (sym so)
          (one-more c.args.self.now c.loop-event.self c.run_event.new.self (take i events) event c.loop-event.ran.done c.loop-event.ran.given.items c.run_event.new.ran.given.items c.loop-event.ran.refused.items c.run_event.new.ran.refused.items count c.loop-event.invariant.2
          (λ w h. had-ok c.run_event.result ok (c.run_event.ensures.ok w h))
          (λ w h. had-ok c.run_event.result ok (c.run_event.ensures.given w h))
          (λ w h. had-ok c.run_event.result ok (c.run_event.ensures.refused w h))),
    )

pub returns-then-is_err-clause-headline : goal.returns-then-is_err-clause-headline
returns-then-is_err-clause-headline c = λ size before some stands. headline_holds size (before ++ take c.run_event.new.ran.done c.args.events.now) some

pub returns-clause-headline : goal.returns-clause-headline
returns-clause-headline c = λ size before some stands. headline_holds size (before ++ take c.loop-event.ran.done c.args.events.now) some

pub returns-then-is_err-clause-answers : goal.returns-then-is_err-clause-answers
returns-then-is_err-clause-answers c = λ size before some stands number answer among.
    let i = c.loop-event.event-index in
    let events = c.args.events.now in
    let err = sym c.if-is_err.ensures.value in
    let done = had-err c.run_event.result err c.run_event.ensures.same_done ∙ c.loop-event.invariant.0 in
    let given = had-err c.run_event.result err c.run_event.ensures.same_given ∙ c.loop-event.invariant.2.given_so (world_after (first_world size) before) stands in
    subst (λ k. IsOfTheObject size (before ++ take k events) answer) (sym done) (given_of_one_object size before (take i events) number answer some (subst (λ xs. Among (number, answer) xs) given among))

pub returns-then-is_err-clause-stop : goal.returns-then-is_err-clause-stop
returns-then-is_err-clause-stop c = λ w h stopped event is.
    let i = c.loop-event.event-index in
    let events = c.args.events.now in
    let err = sym c.if-is_err.ensures.value in
    let inside : i < length events = omega (arith, c.loop-event-test.true, c.loop-event.auto.event-index-end) in
    let done = had-err c.run_event.result err c.run_event.ensures.same_done ∙ c.loop-event.invariant.0 in
    let here : slice_get events i ≡ Some c.event-item.result = slice_get-get_or events i c.event-item.result inside ∙ ap Some (sym c.event-item.is) in
    let same : c.event-item.result ≡ event = some_same (sym here ∙ ap (λ k. slice_get events k) (sym done) ∙ is) in
    subst (λ e. WantsMemory (refusal_of (world_after w (take c.run_event.new.ran.done events)) e) c.run_event.new.ran) same
    (subst (λ k. WantsMemory (refusal_of (world_after w (take k events)) c.event-item.result) c.run_event.new.ran) (sym done)
    (had-err c.run_event.result err (c.run_event.ensures.wants (world_after w (take i events)) (c.loop-event.invariant.2.world w h))))

pub returns-clause-answers : goal.returns-clause-answers
returns-clause-answers c = λ size before some stands number answer among.
    let i = c.loop-event.event-index in
    let events = c.args.events.now in
    subst (λ k. IsOfTheObject size (before ++ take k events) answer) (sym c.loop-event.invariant.0) (given_of_one_object size before (take i events) number answer some
    (subst (λ xs. Among (number, answer) xs) (c.loop-event.invariant.2.given_so (world_after (first_world size) before) stands) among))
