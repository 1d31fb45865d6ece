-- What is kept beside the messages follows.
use Rattle.std.proofs.Common.{◌≡◌, ◌<◌, ◌≤◌, ◌∙◌, ℕ, ap, sym, subst, length, set, get_or, max, arith}
use Rattle.cq_messages.specs.within.Groups.{numbers_at, handed_at}
use Rattle.cq_messages.specs.within.Indexed.{IsIndexed, AreNumbers, AreHanded}
use Rattle.cq_messages.specs.Slots.{live, in_group, busy, IsAscending}
use Rattle.cq_messages.specs.within.Touched.{IsHead, retimed}
use Rattle.cq_messages.proofs.Touching.{touched-read, idle-read, numbers-raised, handed-touched, indexed-touched, length-retimed, head-before, busy-raised, same_self}
use Rattle.cq_messages.proofs.retime.retime.Goals as goal

pub refresh_after-requires-clause-ascending : goal.refresh_after-requires-clause-ascending
refresh_after-requires-clause-ascending c =
    let ss = c.args.slots.now.items in
    let r = touched-read ss c.write_times-before.new.slots.items c.args.place c.args.handings c.args.handed_at c.args.until c.index.result.now c.in-Some.message c.requires.indexed.ascending c.requires.place c.write_times-before.ensures.slots c.index.ensures c.in-Some.is in
    subst (IsAscending 0) (sym c.deref.ensures.value) r.1.1.new_order

pub refresh_after-requires-clause-groups : goal.refresh_after-requires-clause-groups
refresh_after-requires-clause-groups c =
    let ss = c.args.slots.now.items in
    let r = touched-read ss c.write_times-before.new.slots.items c.args.place c.args.handings c.args.handed_at c.args.until c.index.result.now c.in-Some.message c.requires.indexed.ascending c.requires.place c.write_times-before.ensures.slots c.index.ensures c.in-Some.is in
    subst (λ xs. AreNumbers xs c.raise.new.self) (sym c.deref.ensures.value)
    (numbers-raised ss c.write_times-before.new.slots.items c.args.groups.now c.raise.new.self c.args.place r.0 (retimed c.args.handings c.args.handed_at c.args.until r.0) r.1.1 c.requires.indexed.are_numbers c.raise.ensures.numbers)

pub refresh_after-requires-clause-handed : goal.refresh_after-requires-clause-handed
refresh_after-requires-clause-handed c =
    let ss = c.args.slots.now.items in
    let r = touched-read ss c.write_times-before.new.slots.items c.args.place c.args.handings c.args.handed_at c.args.until c.index.result.now c.in-Some.message c.requires.indexed.ascending c.requires.place c.write_times-before.ensures.slots c.index.ensures c.in-Some.is in
    let is = c.message.view_is ∙ r.1.0 in
    let group = ap (λ m. m.group) is in
    let number = ap (λ m. m.sequence) is in
    subst (λ xs. AreHanded xs c.raise.new.self) (sym c.deref.ensures.value)
    (handed-touched ss c.write_times-before.new.slots.items c.args.groups.now c.raise.new.self c.args.place r.0 (retimed c.args.handings c.args.handed_at c.args.until r.0) r.1.1 c.requires.indexed.are_numbers c.requires.indexed.are_handed c.raise.ensures.others
    (λ some. subst (λ g. r.0.sequence ≤ handed_at c.raise.new.self g) group (subst (λ n. n ≤ handed_at c.raise.new.self c.message.inside.group) number (c.raise.ensures.handed (subst (λ g. 0 < length (numbers_at c.args.groups.now g)) (sym group) some)))))

pub returns-in-Some-clause-indexed : goal.returns-in-Some-clause-indexed
returns-in-Some-clause-indexed c =
    let ss = c.args.slots.now.items in
    let ss' = c.write_times-before.new.slots.items in
    let r = touched-read ss ss' c.args.place c.args.handings c.args.handed_at c.args.until c.index.result.now c.in-Some.message c.requires.indexed.ascending c.requires.place c.write_times-before.ensures.slots c.index.ensures c.in-Some.is in
    let m' = retimed c.args.handings c.args.handed_at c.args.until r.0 in
    let is = c.message.view_is ∙ r.1.0 in
    let group = ap (λ m. m.group) is in
    let number = ap (λ m. m.sequence) is in
    let head : (h : ℕ) → IsHead ss' r.0.group h → c.refresh_after.new.lead_times ≡ set c.args.lead_times.now h (busy (in_group r.0.group (live ss'))) = λ h hd.
    c.refresh_after.ensures.head h (subst (λ g. IsHead c.deref.result.now g h) (sym group) (subst (λ xs. IsHead xs r.0.group h) (sym c.deref.ensures.value) hd))
    ∙ ap (λ g. set c.args.lead_times.now h (busy (in_group g (live c.deref.result.now)))) group
    ∙ ap (λ xs. set c.args.lead_times.now h (busy (in_group r.0.group (live xs)))) c.deref.ensures.value in
    subst (λ f. IsIndexed ss' c.refresh_after.new.lead_times f c.raise.new.self) (sym c.set.ensures)
    (indexed-touched ss ss' c.args.lead_times.now c.refresh_after.new.lead_times c.args.flight_ends.now c.args.groups.now c.raise.new.self c.args.place r.0 m' r.1.1 c.requires.indexed head
    (numbers-raised ss ss' c.args.groups.now c.raise.new.self c.args.place r.0 m' r.1.1 c.requires.indexed.are_numbers c.raise.ensures.numbers)
    (handed-touched ss ss' c.args.groups.now c.raise.new.self c.args.place r.0 m' r.1.1 c.requires.indexed.are_numbers c.requires.indexed.are_handed c.raise.ensures.others
    (λ some. subst (λ g. r.0.sequence ≤ handed_at c.raise.new.self g) group (subst (λ n. n ≤ handed_at c.raise.new.self c.message.inside.group) number (c.raise.ensures.handed (subst (λ g. 0 < length (numbers_at c.args.groups.now g)) (sym group) some))))))

pub returns-in_default-clause-indexed : goal.returns-in_default-clause-indexed
returns-in_default-clause-indexed c =
    let ss = c.args.slots.now.items in
    let same = idle-read ss c.write_times-before.new.slots.items c.args.place c.args.handings c.args.handed_at c.args.until c.index.result.now c.requires.place c.write_times-before.ensures.slots c.index.ensures c.in_default.is in
    subst (λ xs. IsIndexed xs c.args.lead_times.now c.args.flight_ends.now c.args.groups.now) (sym same) c.requires.indexed

pub returns-in-Some-clause-count : goal.returns-in-Some-clause-count
returns-in-Some-clause-count c = ap (λ xs. length (live xs)) c.write_times-before.ensures.slots ∙ length-retimed c.args.slots.now.items c.args.place c.args.handings c.args.handed_at c.args.until

pub refresh_after-requires-clause-raised : goal.refresh_after-requires-clause-raised
refresh_after-requires-clause-raised c = λ later h head.
    let ss = c.args.slots.now.items in
    let ss' = c.write_times-before.new.slots.items in
    let r = touched-read ss ss' c.args.place c.args.handings c.args.handed_at c.args.until c.index.result.now c.in-Some.message c.requires.indexed.ascending c.requires.place c.write_times-before.ensures.slots c.index.ensures c.in-Some.is in
    let m' = retimed c.args.handings c.args.handed_at c.args.until r.0 in
    let group = ap (λ m. m.group) (c.message.view_is ∙ r.1.0) in
    let before : c.write_times-before.result ≡ r.0.until = c.write_times-before.ensures.before r.0 r.1.1.before in
    let same = c.deref.ensures.value in
    let at : IsHead ss' r.0.group h = subst (λ g. IsHead ss' g h) group (subst (λ xs. IsHead xs c.message.inside.group h) same head) in
    let busy_now : max (get_or c.args.lead_times.now h 0) c.args.until ≡ busy (in_group r.0.group (live ss')) =
    ap (λ n. max n c.args.until) (head-before ss ss' c.args.lead_times.now c.args.place h r.0 m' r.1.1 at c.requires.indexed.are_waits)
    ∙ sym (ap (λ xs. busy (in_group r.0.group (live xs))) c.write_times-before.ensures.slots ∙ busy-raised r.0.group ss c.args.place c.args.handings c.args.handed_at c.args.until r.0 c.requires.place r.1.1.before (same_self r.0.group) (omega arith)) in
    busy_now ∙ sym (ap (λ xs. busy (in_group c.message.inside.group (live xs))) same ∙ ap (λ g. busy (in_group g (live ss'))) group)
