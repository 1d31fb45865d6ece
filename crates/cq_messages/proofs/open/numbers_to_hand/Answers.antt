-- Each round adds the group of the next leading message, until there is none or enough are there.
use Rattle.std.proofs.Common.{◌≤◌, ◌++◌, ◌∙◌, ap, sym, subst, length, take, get_or, arith, refl}
use Rattle.cq_base.specs.queue.Receiving.{leads}
use Rattle.cq_messages.specs.within.Opened.{numbers_for, numbers_led, leaders_upto}
use Rattle.cq_messages.specs.within.Passing.{NonePasses, IsNext}
use Rattle.cq_messages.specs.Slots.{live, gone}
use Rattle.cq_messages.proofs.Opening.{led-next, take-twice, handed-rest, handed-full}
use Rattle.cq_messages.proofs.open.numbers_to_hand.Goals as goal

pub loop-from-preserved : goal.loop-from-preserved
loop-from-preserved c =
    let ss = c.args.slots.now in
    let t = c.args.moment in
    let next : IsNext (leads t (live ss)) ss c.loop-from.from c.in-Some.place = c.in-Some.ensures.some in
    let led = numbers_led (live ss) (leaders_upto t ss c.loop-from.from) in
    let more = numbers_for (live ss) (get_or ss c.in-Some.place gone).message in
    record {
      within = omega arith;
      led = c.push_open.ensures ∙ ap (λ xs. take c.args.size (xs ++ more)) c.loop-from.invariant.led ∙ take-twice c.args.size led more ∙ ap (take c.args.size) (sym (led-next t ss c.loop-from.from c.in-Some.place next));
    }

pub returns-in-None : goal.returns-in-None
returns-in-None c =
    let none : NonePasses (leads c.args.moment (live c.args.slots.now)) c.args.slots.now c.loop-from.from (length c.args.slots.now) = c.in-None.ensures.none refl in
    c.loop-from.invariant.led ∙ sym (handed-rest c.args.size c.args.moment c.args.slots.now c.loop-from.from c.loop-from.invariant.within none)

pub returns : goal.returns
returns c =
    let many : c.args.size ≤ length c.loop-from.numbers.items = omega arith in
    c.loop-from.invariant.led ∙ sym (handed-full c.args.size c.args.moment c.args.slots.now c.loop-from.from (subst (λ xs. c.args.size ≤ length xs) c.loop-from.invariant.led many))
