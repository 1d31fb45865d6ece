-- What stands beside the slots says which lead.
use Rattle.std.proofs.Common.{◌<◌, length, arith, refl}
use Rattle.cq_min_index.specs.Firsts.{AreAbove, IsFirst}
use Rattle.cq_messages.specs.declared.slot.TheConstants.{NEVER}
use Rattle.cq_messages.proofs.Leading.{above-closed, found-open}
use Rattle.cq_messages.proofs.open.next_open.Goals as goal

pub returns-in-Some-clause-some : goal.returns-in-Some-clause-some
returns-in-Some-clause-some c =
    let small : c.args.moment < NEVER = omega arith in
    let first : IsFirst c.args.lead_times.now c.args.from c.args.moment c.in-Some.place = rw (← c.get.ensures.value) c.in-Some.ensures.found in
    found-open c.args.slots.now c.args.lead_times.now c.args.moment c.args.from c.in-Some.place c.requires.ascending c.requires.lead_times small c.if-place-slots.true first

pub returns-in_default-clause-none : goal.returns-in_default-clause-none
returns-in_default-clause-none c = λ no.
    let small : c.args.moment < NEVER = omega arith in
    let first : IsFirst c.args.lead_times.now c.args.from c.args.moment c.in-Some.place = rw (← c.get.ensures.value) c.in-Some.ensures.found in
    above-closed c.args.slots.now c.args.lead_times.now c.args.moment c.args.from (length c.args.slots.now) c.requires.ascending c.requires.lead_times small (omega arith) (λ k a b. first.before k a (omega arith))

pub returns-in_default-2-clause-none : goal.returns-in_default-2-clause-none
returns-in_default-2-clause-none c = λ no.
    let small : c.args.moment < NEVER = omega arith in
    let above : AreAbove c.args.lead_times.now c.args.moment c.args.from (length c.args.lead_times.now) = rw (← c.get.ensures.value) (c.in_default.ensures.none refl) in
    above-closed c.args.slots.now c.args.lead_times.now c.args.moment c.args.from (length c.args.slots.now) c.requires.ascending c.requires.lead_times small (omega arith) (λ k a b. above k a (let long = c.requires.lead_times.long in omega arith))
