-- With what is asked for by one step more.
use Rattle.std.proofs.Common.{◌∙◌, ap, sym, refl, length, ◌++◌, ◌∷◌, []}
use Rattle.std.proofs.lemmas.Option.{slice_get_read}
use Rattle.cq_live_plan.proofs.Joining.{joins_more}
use Rattle.cq_live_plan.specs.Steps.{joins_of}
use Rattle.cq_live_plan.proofs.joins.joins_of.Goals as goal

pub loop-step-preserved : goal.loop-step-preserved
loop-step-preserved c =
    let steps = c.args.steps.now in
    c.in_ok-add_join.ensures ∙ ap (λ us. us ++ joins_of (c.step-item.result ∷ [])) c.loop-step.invariant
    ∙ sym (joins_more steps c.loop-step.step-index c.step-item.result (slice_get_read steps (length steps) c.loop-step.step-index c.step-item.result refl c.loop-step-test.true c.step-item.is))
