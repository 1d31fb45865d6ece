-- What an audit answered of the traces, with all asks closed, is what was promised.
use Rattle.std.proofs.Common.{◌+◌, ◌∙◌, ap, sym, subst, List, length}
use Rattle.cq_live.specs.Lives.{sends_closed}
use Rattle.cq_live.proofs.Reporting.{is_live}
use Rattle.cq_live.specs.Ended.{closed_of}
use Rattle.cq_live_plan.specs.Steps.{asks_of}
use Rattle.cq_trace.specs.Audits.{IsMerge}
use Rattle.cq_events.specs.declared.trace.Trace.{Trace}
use Rattle.cq_live.proofs.report.report_of.Goals as goal

pub returns-clause-live : goal.returns-clause-live
returns-clause-live c =
    let size = c.args.size in
    let steps = c.args.steps.now in
    let ended = c.args.ended in
    let events = c.in_ok-events.events.items in
    let merge = subst (λ (ts : List Trace). IsMerge size ts events) c.deref-3.ensures.value c.in_ok-events.ensures.ok in
    let count = c.accepted_of-accepted.ensures
    ∙ ap (λ xs. sends_closed xs ended.first.items + sends_closed c.deref-2.result.now ended.second.items) (c.deref.ensures.value ∙ c.in_ok-first.ensures)
    ∙ ap (λ xs. sends_closed (asks_of 1 steps) ended.first.items + sends_closed xs ended.second.items) (c.deref-2.ensures.value ∙ c.in_ok-second.ensures) in
    let one = sym ended.first.ok.0 ∙ sym c.len.ensures ∙ c.if-len.false ∙ c.len-2.ensures ∙ c.in_ok-first.first.ok.0 ∙ ap length c.in_ok-first.ensures in
    let two = sym ended.second.ok.0 ∙ sym c.len-else-len.ensures ∙ c.if-len-2.false ∙ c.len-else-len-2.ensures ∙ c.in_ok-second.second.ok.0 ∙ ap length c.in_ok-second.ensures in
    record {
      closed = closed_of c.requires.nodes;
      live = is_live size steps ended c.requires events c.accepted_of-accepted.result merge one two count;
    }
