-- Each message is in flight or not.
use Rattle.std.proofs.Common.{◌≡◌, ℕ, ◌+◌, ◌∙◌, ap, not, length, refl, arith, List}
use Rattle.std.specs.List.{filter}
use Rattle.std.proofs.lemmas.List.Filters.{length-filter_both}
use Rattle.cq_base.specs.queue.Messages.{Message}
use Rattle.cq_base.specs.queue.Receiving.{is_in_flight}
use Rattle.cq_messages.specs.Slots.{live}
use Rattle.cq_messages.proofs.messages.Messages.counts.Goals as goal

-- those that are, and those that aren't, are all
all_counted : (t : ℕ) (ms : List Message) → length (filter (is_in_flight t) ms) + length (filter (λ x. not (is_in_flight t x)) ms) ≡ length ms
all_counted t ms = length-filter_both (is_in_flight t) (λ x. not (is_in_flight t x)) (λ x. refl) ms

pub overflow_sub-result : goal.overflow_sub-result
overflow_sub-result c =
    let ms = live c.self.inside.slots.items in
    let all = all_counted c.args.moment ms in
    let flying : c.count_in_flight-in_flight.result ≡ length (filter (is_in_flight c.args.moment) ms) = c.count_in_flight-in_flight.ensures ∙ ap (λ xs. length (filter (is_in_flight c.args.moment) (live xs))) c.deref.ensures.value in
    let count = c.self.invariant.1 in
    omega arith

pub returns-clause-visible : goal.returns-clause-visible
returns-clause-visible c =
    let ms = live c.self.inside.slots.items in
    let all = all_counted c.args.moment ms in
    let flying : c.count_in_flight-in_flight.result ≡ length (filter (is_in_flight c.args.moment) ms) = c.count_in_flight-in_flight.ensures ∙ ap (λ xs. length (filter (is_in_flight c.args.moment) (live xs))) c.deref.ensures.value in
    let count = c.self.invariant.1 in
    let rest : c.self.inside.count ≡ c.count_in_flight-in_flight.result + length (filter (λ x. not (is_in_flight c.args.moment x)) ms) = omega arith in
    let at = ap (λ xs. length (filter (λ x. not (is_in_flight c.args.moment x)) xs)) c.self.view_is in
    omega arith
