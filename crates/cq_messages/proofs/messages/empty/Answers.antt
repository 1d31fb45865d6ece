-- What is kept beside the messages follows.
use Rattle.std.proofs.Common.{◌≡◌, ◌∙◌, ap, sym, subst, List, ℕ, [], cond, set, get_or, Some}
use Rattle.std.proofs.lemmas.List.{get_or_read}
use Rattle.std.specs.Str.{bytes_eq}
use Rattle.cq_messages.specs.within.Groups.{numbers_at, without}
use Rattle.cq_messages.specs.within.Indexed.{IsIndexed, AreNumbers, AreHanded}
use Rattle.cq_messages.specs.declared.slot.TheConstants.{NEVER}
use Rattle.cq_messages.specs.Slots.{live, gone, in_group, busy, IsAscending}
use Rattle.cq_messages.specs.within.Touched.{IsHead}
use Rattle.cq_messages.proofs.Emptying.{emptied-read, numbers-shrunk, handed-vacated, indexed-vacated, length-vacated}
use Rattle.cq_messages.proofs.messages.empty.Goals as goal

pub refresh-requires-clause-ascending : goal.refresh-requires-clause-ascending
refresh-requires-clause-ascending c =
    let ss = c.args.slots.now.items in
    let v = emptied-read ss c.args.place c.index_mut.result.now c.take-taken.new.self c.in-Some.message c.requires.indexed.ascending c.requires.place c.index_mut.ensures.value c.in-Some.ensures.value c.in-Some.ensures.after in
    subst (IsAscending 0) (sym c.deref.ensures.value) v.new_order

pub refresh-requires-clause-groups : goal.refresh-requires-clause-groups
refresh-requires-clause-groups c =
    let ss = c.args.slots.now.items in
    let v = emptied-read ss c.args.place c.index_mut.result.now c.take-taken.new.self c.in-Some.message c.requires.indexed.ascending c.requires.place c.index_mut.ensures.value c.in-Some.ensures.value c.in-Some.ensures.after in
    let is = c.message.view_is in
    let shrunk : (g : List ℕ) → numbers_at c.take_out.new.self g ≡ cond (bytes_eq c.in-Some.message.group g) (without c.in-Some.message.sequence (numbers_at c.args.groups.now g)) (numbers_at c.args.groups.now g) = λ g.
    c.take_out.ensures.numbers g ∙ ap (λ m. cond (bytes_eq m.group g) (without m.sequence (numbers_at c.args.groups.now g)) (numbers_at c.args.groups.now g)) is in
    let ss' = set ss c.args.place (record { sequence = c.index_mut.result.now.sequence; message = c.take-taken.new.self }) in
    let numbers = numbers-shrunk ss ss' c.args.groups.now c.take_out.new.self c.args.place c.in-Some.message v c.requires.indexed.are_numbers shrunk in
    subst (λ xs. AreNumbers xs c.take_out.new.self) (sym c.deref.ensures.value) numbers

pub refresh-requires-clause-handed : goal.refresh-requires-clause-handed
refresh-requires-clause-handed c =
    let ss = c.args.slots.now.items in
    let v = emptied-read ss c.args.place c.index_mut.result.now c.take-taken.new.self c.in-Some.message c.requires.indexed.ascending c.requires.place c.index_mut.ensures.value c.in-Some.ensures.value c.in-Some.ensures.after in
    let is = c.message.view_is in
    let shrunk : (g : List ℕ) → numbers_at c.take_out.new.self g ≡ cond (bytes_eq c.in-Some.message.group g) (without c.in-Some.message.sequence (numbers_at c.args.groups.now g)) (numbers_at c.args.groups.now g) = λ g.
    c.take_out.ensures.numbers g ∙ ap (λ m. cond (bytes_eq m.group g) (without m.sequence (numbers_at c.args.groups.now g)) (numbers_at c.args.groups.now g)) is in
    let ss' = set ss c.args.place (record { sequence = c.index_mut.result.now.sequence; message = c.take-taken.new.self }) in
    let numbers = numbers-shrunk ss ss' c.args.groups.now c.take_out.new.self c.args.place c.in-Some.message v c.requires.indexed.are_numbers shrunk in
    let handed = handed-vacated ss ss' c.args.groups.now c.take_out.new.self c.args.place c.in-Some.message v c.requires.indexed.are_handed numbers c.take_out.ensures.handed in
    subst (λ xs. AreHanded xs c.take_out.new.self) (sym c.deref.ensures.value) handed

pub returns-in-Some-clause-indexed : goal.returns-in-Some-clause-indexed
returns-in-Some-clause-indexed c =
    let ss = c.args.slots.now.items in
    let v = emptied-read ss c.args.place c.index_mut.result.now c.take-taken.new.self c.in-Some.message c.requires.indexed.ascending c.requires.place c.index_mut.ensures.value c.in-Some.ensures.value c.in-Some.ensures.after in
    let is = c.message.view_is in
    let shrunk : (g : List ℕ) → numbers_at c.take_out.new.self g ≡ cond (bytes_eq c.in-Some.message.group g) (without c.in-Some.message.sequence (numbers_at c.args.groups.now g)) (numbers_at c.args.groups.now g) = λ g.
    c.take_out.ensures.numbers g ∙ ap (λ m. cond (bytes_eq m.group g) (without m.sequence (numbers_at c.args.groups.now g)) (numbers_at c.args.groups.now g)) is in
    let ss' = set ss c.args.place (record { sequence = c.index_mut.result.now.sequence; message = c.take-taken.new.self }) in
    let numbers = numbers-shrunk ss ss' c.args.groups.now c.take_out.new.self c.args.place c.in-Some.message v c.requires.indexed.are_numbers shrunk in
    let handed = handed-vacated ss ss' c.args.groups.now c.take_out.new.self c.args.place c.in-Some.message v c.requires.indexed.are_handed numbers c.take_out.ensures.handed in
    let group = ap (λ m. m.group) is in
    let first = set c.args.lead_times.now c.args.place NEVER in
    let head : (h : ℕ) → IsHead ss' c.in-Some.message.group h → c.refresh.new.lead_times ≡ set first h (busy (in_group c.in-Some.message.group (live ss'))) = λ h hd.
    c.refresh.ensures.head h (subst (λ g. IsHead c.deref.result.now g h) (sym group) (subst (λ xs. IsHead xs c.in-Some.message.group h) (sym c.deref.ensures.value) hd))
    ∙ ap (λ ws. set ws h (busy (in_group c.message.inside.group (live c.deref.result.now)))) c.set.ensures
    ∙ ap (λ g. set first h (busy (in_group g (live c.deref.result.now)))) group
    ∙ ap (λ xs. set first h (busy (in_group c.in-Some.message.group (live xs)))) c.deref.ensures.value in
    let none : in_group c.in-Some.message.group (live ss') ≡ [] → c.refresh.new.lead_times ≡ first = λ e.
    c.refresh.ensures.none (ap (λ g. in_group g (live c.deref.result.now)) group ∙ ap (λ xs. in_group c.in-Some.message.group (live xs)) c.deref.ensures.value ∙ e) ∙ c.set.ensures in
    subst (λ f. IsIndexed ss' c.refresh.new.lead_times f c.take_out.new.self) (sym c.set-in-Some.ensures)
    (indexed-vacated ss ss' c.args.lead_times.now c.refresh.new.lead_times c.args.flight_ends.now c.args.groups.now c.take_out.new.self c.args.place c.in-Some.message v c.requires.indexed head none numbers handed)

pub returns-in-Some-clause-count : goal.returns-in-Some-clause-count
returns-in-Some-clause-count c =
    let ss = c.args.slots.now.items in
    let there : (get_or ss c.args.place gone).message ≡ Some c.in-Some.message =
    ap (λ s. s.message) (sym (get_or_read ss c.args.place c.index_mut.result.now c.requires.place c.index_mut.ensures.value gone)) ∙ sym c.in-Some.ensures.value in
    length-vacated ss c.args.place (record { sequence = c.index_mut.result.now.sequence; message = c.take-taken.new.self }) c.in-Some.message c.requires.place there c.in-Some.ensures.after
