-- From the last slot down, each number is smaller than the one after it.
use Rattle.std.proofs.Common.{◌-◌, ◌<◌, length, arith, ap}
use Rattle.std.proofs.lemmas.List.{get_or_default}
use Rattle.cq_messages.specs.Slots.{gone}
use Rattle.cq_messages.proofs.Ascending.{ascending-upto, ascending-apart}
use Rattle.cq_messages.proofs.places.earliest.Goals as goal

pub returns-then-last-sequence-clause-below : goal.returns-then-last-sequence-clause-below
returns-then-last-sequence-clause-below c = λ k inside.
    let slots = c.args.slots.now in
    let last = length slots - 1 in
    let within : last < length slots = omega arith in
    let read = ap (λ s. s.sequence) (get_or_default slots last c.index-slots-len.result gone within) in
    let order = ascending-upto 0 slots k last c.requires (omega arith) within in
    let small = c.if-last-sequence.true in
    omega arith

pub returns-then-after-len-clause-below : goal.returns-then-after-len-clause-below
returns-then-after-len-clause-below c = λ k early.
    let slots = c.args.slots.now in
    let last = length slots - 1 in
    let within : last < length slots = omega arith in
    let read = ap (λ s. s.sequence) (get_or_default slots last c.index-slots-len.result gone within) in
    let apart = ascending-apart 0 slots k last c.requires (omega arith) within in
    let large = c.if-last-sequence.false in
    omega arith
