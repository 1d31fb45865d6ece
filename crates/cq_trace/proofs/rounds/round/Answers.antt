-- One trace more is followed.
use Rattle.std.proofs.Common.{◌≡◌, ◌∙◌, ap, sym, subst, refl, drop, take, length, ◌++◌, ◌<◌, ◌≤◌, ℕ, List, Some, slice_get, slice_index_or, arith}
use Rattle.std.proofs.lemmas.Option.{slice_get_read, slice_get-get_or, slice_get_within}
use Rattle.cq_trace.specs.within.Along.{IsNext}
use Rattle.cq_events.specs.declared.event.Event.{Event}
use Rattle.cq_events.specs.declared.trace.Trace.{Trace}
use Rattle.cq_trace.proofs.OfAudit.Following.{Followed}
use Rattle.cq_trace.proofs.OfAudit.GoodTraces.{good}
use Rattle.cq_trace.proofs.OfAudit.Rounds.{rounded}
use Rattle.cq_trace.proofs.rounds.round.Goals as goal

pub loop-k-preserved : goal.loop-k-preserved
loop-k-preserved c =
    let traces = c.args.traces.now in
    let places = c.loop-k.places in
    let k = c.loop-k.k in
    let t = c.index-traces-k.result in
    let from : ℕ = slice_index_or places k 0 in
    let place = c.in_ok-place.place in
    let so_far = c.loop-k.invariant.0 in
    let within : k < length places = omega (arith, so_far.along.many, c.loop-k-test.true) in
    let trace = slice_get_read traces (length traces) k t refl c.loop-k-test.true c.index-traces-k.is in
    let value : c.deref.result.now ≡ t.events.items = c.deref.ensures.value ∙ ap (λ (z : Trace). z.events.items) (sym c.index-traces-k.is) in
    let came = subst (λ (es : List Event). c.follow.new.self.events.items ≡ c.loop-k.order.events.items ++ drop from (take place es)) value c.in_ok-place.ensures.events in
    let up = subst (λ (es : List Event). (from ≤ place) × (place ≤ length es)) value c.in_ok-place.ensures.place in
    let blocked = subst (λ (es : List Event). (event : Event) → slice_get es place ≡ Some event → IsNext c.follow.new.self event → ⊥) value c.in_ok-place.ensures.refused in
    let followed : Followed traces places c.loop-k.order c.follow.new.self k from place t = record {
      good = good traces c.requires.good;
      along = so_far.along;
      leads = c.in_ok-place.ensures.leads;
      trace = trace;
      start = slice_get-get_or places k 0 within;
      came = came;
      up = up.0;
      within = up.1;
    } in (
      rounded traces c.args.places.now places c.loop-k.order c.follow.new.self k from place t c.loop-k.moved _ followed so_far refl c.follow.ensures.size blocked,
      c.follow.ensures.size ∙ c.loop-k.invariant.1,
    )

pub returns-clause-stuck : goal.returns-clause-stuck
returns-clause-stuck c = λ unmoved j place event at event_is next.
    let so_far = c.loop-k.invariant.0 in
    so_far.stuck unmoved j place event (omega (arith, slice_get_within c.loop-k.places j place at, so_far.along.many, c.loop-k-test.false)) at event_is next
