-- By who has events left.
use Rattle.std.proofs.Common.{◌≡◌, ◌≢◌, ◌∙◌, [], sym, subst}
use Rattle.cq_trace.specs.Audits.{IsMerge, IsStuck}
use Rattle.cq_trace.specs.within.Along.{unfinished}
use Rattle.cq_trace.proofs.OfAudit.GoodTraces.{good}
use Rattle.cq_trace.proofs.OfAudit.Leftovers.{merged, stuck}
use Rattle.cq_trace.proofs.OfAudit.Rounds.{if-ok}
use Rattle.cq_trace.proofs.rounds.merge_from.Goals as goal

pub returns-clause-done : goal.returns-clause-done
returns-clause-done c =
    let order = c.follow_all.new.order in
    let places = c.follow_all.new.places in
    let traces = c.args.traces.now in
    if-ok (λ parties. parties.items ≡ unfinished traces places) (λ parties. parties.items ≡ [] → IsMerge order.size traces order.events.items) c.parties_left.result
    (λ parties is none. merged traces places order c.in_ok-follow_all.ensures.along (sym is ∙ none)) c.parties_left.ensures

pub returns-clause-stuck : goal.returns-clause-stuck
returns-clause-stuck c =
    let order = c.follow_all.new.order in
    let places = c.follow_all.new.places in
    let traces = c.args.traces.now in
    if-ok (λ parties. parties.items ≡ unfinished traces places) (λ parties. parties.items ≢ [] → IsStuck order.size traces parties.items) c.parties_left.result
    (λ parties is some. subst (IsStuck order.size traces) (sym is) (stuck traces places order (good traces c.requires.good) c.in_ok-follow_all.ensures.along (λ none. some (is ∙ none)) c.in_ok-follow_all.ensures.stuck)) c.parties_left.ensures
