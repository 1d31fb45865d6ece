-- From the first slot on, each number is larger than the one before it.
use Rattle.std.proofs.Common.{◌<◌, length, arith, ap}
use Rattle.std.proofs.lemmas.List.{get_or_default}
use Rattle.cq_messages.specs.Slots.{gone}
use Rattle.cq_messages.proofs.Ascending.{ascending-upto, ascending-apart}
use Rattle.cq_messages.proofs.places.latest.Goals as goal

pub returns-then-sequence-first-clause-above : goal.returns-then-sequence-first-clause-above
returns-then-sequence-first-clause-above c = λ k from inside.
    let slots = c.args.slots.now in
    let within : 0 < length slots = omega arith in
    let read = ap (λ s. s.sequence) (get_or_default slots 0 c.index-slots-0.result gone within) in
    let order = ascending-upto 0 slots 0 k c.requires (omega arith) inside in
    let small = c.if-sequence-first.true in
    omega arith

pub returns-then-before-len-clause-above : goal.returns-then-before-len-clause-above
returns-then-before-len-clause-above c = λ k from inside.
    let slots = c.args.slots.now in
    let within : 0 < length slots = omega arith in
    let read = ap (λ s. s.sequence) (get_or_default slots 0 c.index-slots-0.result gone within) in
    let apart = ascending-apart 0 slots 0 k c.requires (omega arith) inside in
    let large = c.if-sequence-first.false in
    omega arith
