-- By the step that comes next.
use Rattle.std.proofs.Common.{◌∙◌, sym, refl, length, arith}
use Rattle.std.proofs.lemmas.Option.{slice_get_read}
use Rattle.cq_live_plan.proofs.Firsts.{bad_here, good_here, all_good}
use Rattle.cq_live_plan.proofs.bad_steps.first_bad_step.Goals as goal

pub loop-i-init : goal.loop-i-init
loop-i-init c = refl

pub returns-then-is_bad : goal.returns-then-is_bad
returns-then-is_bad c =
    let steps = c.args.steps.now in
    sym (bad_here c.args.size steps c.loop-i.i c.index-steps-i.result (slice_get_read steps (length steps) c.loop-i.i c.index-steps-i.result refl c.loop-i-test.true c.index-steps-i.is) (sym c.is_bad.ensures ∙ c.if-is_bad.true)) ∙ c.loop-i.invariant

pub loop-i-preserved : goal.loop-i-preserved
loop-i-preserved c =
    let steps = c.args.steps.now in
    good_here c.args.size steps c.loop-i.i c.index-steps-i.result (slice_get_read steps (length steps) c.loop-i.i c.index-steps-i.result refl c.loop-i-test.true c.index-steps-i.is) (sym c.is_bad.ensures ∙ c.if-is_bad.false) ∙ c.loop-i.invariant

pub returns : goal.returns
returns c = sym (all_good c.args.size c.args.steps.now c.loop-i.i (omega (arith, c.loop-i-test.false, c.loop-i.auto.i-end))) ∙ c.loop-i.invariant
