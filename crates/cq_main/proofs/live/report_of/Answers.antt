-- What was read, and what a live run of its steps says.
use Rattle.std.proofs.Common.{◌≡◌, List, [], Some, subst}
use Rattle.std.specs.Prelude.{◌↔◌}
use Rattle.cq_live.specs.Reports.{IsReport}
use Rattle.cq_live.specs.declared.fault.LiveFault.TheVariants.{BadScript}
use Rattle.cq_live_plan.specs.Steps.{first_bad}
use Rattle.cq_live_plan.specs.declared.step.LiveStep.{LiveStep}
use Rattle.cq_main.proofs.LiveTold.{of_fault}
use Rattle.cq_main.proofs.live.report_of.Goals as goal

pub returns-in-Ok-live-clause-lived : goal.returns-in-Ok-live-clause-lived
returns-in-Ok-live-clause-lived g c =
    let r = c.in-Ok.ensures.reads in (
      r.0,
      r.1,
      record {
        steps = c.in-Ok.steps;
        reads = r.2;
        live = subst (λ (steps : List LiveStep). IsReport c.args.size steps c.in-Ok-live.report) c.deref.ensures.value c.in-Ok-live.ensures.live;
        headline = c.in-Ok-live.ensures.headline;
      },
    )

pub returns-in-Ok-clause-lived : goal.returns-in-Ok-clause-lived
returns-in-Ok-clause-lived g c =
    let r = c.in-Ok.ensures.reads in (
      r.0,
      r.1,
      record {
        steps = c.in-Ok.steps;
        reads = r.2;
        bad = λ step. subst (λ (steps : List LiveStep). (c.in-Err-live.fault ≡ BadScript step) ↔ (first_bad c.args.size [] steps ≡ Some step)) c.deref.ensures.value (of_fault _ _ _ (c.in-Err-live.ensures.bad step));
      },
    )
