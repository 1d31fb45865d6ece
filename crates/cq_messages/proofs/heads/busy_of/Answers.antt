-- Each number of the group has its message.
use Rattle.std.proofs.Common.{◌≡◌, ◌<◌, ◌≤◌, ◌∙◌, ap, sym, subst, length, get_or, take, max, arith, None}
use Rattle.std.specs.Option.{option_copied}
use Rattle.std.specs.Str.{bytes_eq}
use Rattle.std.proofs.lemmas.List.{length-map}
use Rattle.cq_base.specs.queue.Messages.{Message}
use Rattle.cq_base.proofs.Among.{among-filter}
use Rattle.cq_messages.specs.within.Groups.{numbers_or, numbers_at, handed_or}
use Rattle.cq_messages.specs.Changes.{numbers_of}
use Rattle.cq_messages.specs.Slots.{live, in_group, busy}
use Rattle.cq_messages.proofs.Rising.{rising-filter, live-rising}
use Rattle.cq_messages.proofs.Remaining.{busy-rest, busy-more, at-among, number-at, none-numbered, handed-upto, no_message}
use Rattle.cq_messages.proofs.heads.busy_of.Goals as goal

pub returns-then-number-handed : goal.returns-then-number-handed
returns-then-number-handed c =
    let ss = c.args.slots.now in
    let g = c.args.group.now in
    let gs = in_group g (live ss) in
    let i = c.loop-i.i in
    let is : c.in-Some.kept.now.numbers ≡ numbers_of gs = ap numbers_or c.in-Some.ensures ∙ c.requires.groups g in
    let many : length c.in-Some.kept.now.numbers ≡ length gs = ap length is ∙ length-map gs (λ m. m.sequence) in
    let up : c.in-Some.kept.now.handed ≡ handed_or (Rattle.cq_messages.specs.within.Groups.group_at c.args.groups.now g) = ap handed_or c.in-Some.ensures in
    let at : get_or c.in-Some.kept.now.numbers i 0 ≡ get_or (numbers_of gs) i 0 = ap (λ ns. get_or ns i 0) is in
    c.loop-i.invariant ∙ sym (busy-rest 0 gs c.in-Some.kept.now.handed i (rising-filter (λ m. bytes_eq g m.group) 0 (live ss) (live-rising 0 ss c.requires.ascending))
    (λ m a p. subst (λ h. m.sequence ≤ h) (sym up) (handed-upto ss c.args.groups.now g c.requires.handed m a p)) (omega arith) (omega arith))

pub loop-i-preserved : goal.loop-i-preserved
loop-i-preserved c =
    let ss = c.args.slots.now in
    let g = c.args.group.now in
    let gs = in_group g (live ss) in
    let i = c.loop-i.i in
    let is : c.in-Some.kept.now.numbers ≡ numbers_of gs = ap numbers_or c.in-Some.ensures ∙ c.requires.groups g in
    let many : length c.in-Some.kept.now.numbers ≡ length gs = ap length is ∙ length-map gs (λ m. m.sequence) in
    let inside : i < length gs = omega arith in
    let m : Message = get_or gs i no_message in
    let at : get_or c.in-Some.kept.now.numbers i 0 ≡ m.sequence = ap (λ ns. get_or ns i 0) is ∙ number-at gs i no_message inside in
    let until : c.until_at.result ≡ m.until = c.until_at.ensures m (among-filter (λ y. bytes_eq g y.group) m (live ss) (at-among gs i no_message inside)).0 (sym at ∙ sym c.number-in-loop-i.ensures) in
    c.max-most.ensures ∙ ap (λ a. max a c.until_at.result) c.loop-i.invariant ∙ ap (max (busy (take i gs))) until ∙ sym (busy-more gs i no_message inside)

pub returns-in_default : goal.returns-in_default
returns-in_default c =
    let g = c.args.group.now in
    let none : option_copied c.get.result ≡ None = ap option_copied c.in_default.is in
    sym (ap busy (none-numbered (in_group g (live c.args.slots.now)) (numbers_at c.args.groups.now g) (c.requires.groups g) (ap (λ o. length (numbers_or o)) (sym c.get.ensures ∙ none))))
