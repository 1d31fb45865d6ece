-- The place of the group's first number.
use Rattle.std.proofs.Common.{◌≡◌, ◌<◌, ◌∙◌, ap, sym, length, get_or, arith, None}
use Rattle.std.specs.Option.{option_copied}
use Rattle.cq_messages.specs.within.Groups.{numbers_or, numbers_at}
use Rattle.cq_messages.specs.Changes.{numbers_of}
use Rattle.cq_messages.specs.Slots.{gone, live, in_group}
use Rattle.cq_messages.specs.within.Touched.{IsHead}
use Rattle.cq_messages.proofs.Remaining.{head-at, head-there, if_both, none-numbered}
use Rattle.cq_messages.proofs.heads.head_of.Goals as goal

pub returns-in-Some-clause-some : goal.returns-in-Some-clause-some
returns-in-Some-clause-some c =
    let ss = c.args.slots.now in
    let g = c.args.group.now in
    let ns = c.in-Some.kept.now.numbers in
    let is : ns ≡ numbers_of (in_group g (live ss)) = ap numbers_or c.in-Some.ensures ∙ c.requires.groups g in
    if_both c.place_of.result (λ k. k < length ss) (λ k. (get_or ss k gone).sequence ≡ c.number.result) (IsHead ss g)
    (λ k l e. head-at ss g ns k c.requires.ascending is (omega arith) l (e ∙ c.number.ensures)) c.place_of.ensures.within c.place_of.ensures.found

pub returns-in-Some-clause-none : goal.returns-in-Some-clause-none
returns-in-Some-clause-none c = λ no.
    let ss = c.args.slots.now in
    let g = c.args.group.now in
    let ns = c.in-Some.kept.now.numbers in
    let is : ns ≡ numbers_of (in_group g (live ss)) = ap numbers_or c.in-Some.ensures ∙ c.requires.groups g in
    absurd (head-there ss g ns c.requires.ascending is (omega arith) (λ k l e. c.place_of.ensures.none no k l (e ∙ sym c.number.ensures)))

pub returns-in_default-2-clause-none : goal.returns-in_default-2-clause-none
returns-in_default-2-clause-none c = λ no.
    let g = c.args.group.now in
    let none : option_copied c.get.result ≡ None = ap option_copied c.in_default.is in
    none-numbered (in_group g (live c.args.slots.now)) (numbers_at c.args.groups.now g) (c.requires.groups g) (ap (λ o. length (numbers_or o)) (sym c.get.ensures ∙ none))
