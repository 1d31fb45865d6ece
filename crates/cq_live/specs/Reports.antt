-- What a live run reports.
use Rattle.std.specs.Prelude.{ℕ, List}
use Rattle.cq_chain.specs.declared.message.Answer.{Answer}
use Rattle.cq_live.specs.Lives.{IsLive}
use Rattle.cq_live.specs.declared.report.LiveReport.{LiveReport}
use Rattle.cq_live.specs.Plans.{plan_of}
use Rattle.cq_live_plan.specs.declared.step.LiveStep.{LiveStep}

-- There are answers that closed the clients' asks, by which the events of the report are all that a live run of these steps
-- promises.
pub record IsReport (size : ℕ) (steps : List LiveStep) (report : LiveReport) : Type 0 where
  pub closed : ℕ → List Answer
  pub live : IsLive (plan_of steps) size report.events.items closed report.accepted report.starved.items
