-- What is kept beside the slots has one more.
use Rattle.std.proofs.Common.{◌≡◌, ◌<◌, ◌==◌, ◌++◌, ◌∷◌, [], ◌∙◌, ap, sym, subst, arith, refl, length, get_or, set, cond, Some}
use Rattle.std.specs.Str.{bytes_eq}
use Rattle.std.proofs.lemmas.List.{length-set, get_or-set_same, get_or-set_other, length-map}
use Rattle.cq_messages.specs.declared.slot.Slot.{Slot}
use Rattle.cq_messages.specs.declared.slot.TheConstants.{NEVER}
use Rattle.cq_messages.specs.within.Groups.{numbers_at}
use Rattle.cq_messages.specs.within.Indexed.{IsIndexed}
use Rattle.cq_messages.specs.Slots.{live, in_group}
use Rattle.cq_messages.proofs.Passing.{live-append}
use Rattle.cq_messages.proofs.Pushing.{indexed-pushed, last-above}
use Rattle.cq_messages.proofs.append.append.Goals as goal

pub returns-clause-indexed : goal.returns-clause-indexed
returns-clause-indexed c =
    let left = c.args.slots.now.items in
    let old = c.args.groups.now in
    let m = c.args.message in
    let is = c.message.view_is in
    let number : c.message.inside.sequence ≡ m.sequence = ap (λ x. x.sequence) is in
    let group : c.message.inside.group ≡ m.group = ap (λ x. x.group) is in
    let s' : Slot = record { sequence = c.message.inside.sequence; message = Some m } in
    let count : length (numbers_at old c.message.inside.group) ≡ length (in_group m.group (live left)) = ap length (c.requires.indexed.are_numbers c.message.inside.group) ∙ length-map (in_group c.message.inside.group (live left)) (λ x. x.sequence) ∙ ap (λ g. length (in_group g (live left))) group in
    let wait : c.first_wait-wait.result ≡ cond (length (in_group m.group (live left)) == 0) 0 NEVER = c.first_wait-wait.ensures ∙ ap (λ b. cond b 0 NEVER) (c.has_none.ensures ∙ ap (λ n. n == 0) count) in
    let positive : 0 < m.sequence = subst (λ n. 0 < n) number c.message.invariant.0 in
    let lead_times = c.args.lead_times.now in
    let flight_ends = c.args.flight_ends.now in
    let at = c.len-place.result in
    let place : at ≡ length left = omega arith in
    let w = c.first_wait-wait.result in
    subst (λ xs. IsIndexed xs c.set.new.self c.set-2.new.self c.add.new.self) (sym c.push_reserved.ensures.items)
    (indexed-pushed left s' m lead_times c.set.new.self flight_ends c.set-2.new.self old c.add.new.self c.requires.indexed refl number c.requires.fresh positive
    (last-above left m.sequence c.requires.indexed.ascending c.requires.last c.requires.order)
    (let n = ap length c.set.ensures in let o = length-set lead_times at w in let r = c.requires.lead_times in omega arith)
    (λ k l. ap (λ xs. get_or xs k 0) c.set.ensures ∙ get_or-set_other lead_times at k w 0 (λ e. omega arith))
    (ap (λ xs. get_or xs (length left) 0) c.set.ensures ∙ ap (λ j. get_or (set lead_times at w) j 0) (sym place) ∙ get_or-set_same lead_times at w 0 (let r = c.requires.lead_times in omega arith) ∙ wait)
    (let n = ap length c.set-2.ensures in let o = length-set flight_ends at NEVER in let r = c.requires.flight_ends in omega arith)
    (λ k l. ap (λ xs. get_or xs k 0) c.set-2.ensures ∙ get_or-set_other flight_ends at k NEVER 0 (λ e. omega arith))
    (ap (λ xs. get_or xs (length left) 0) c.set-2.ensures ∙ ap (λ j. get_or (set flight_ends at NEVER) j 0) (sym place) ∙ get_or-set_same flight_ends at NEVER 0 (let r = c.requires.flight_ends in omega arith))
    (λ g. c.in_ok-add.ensures.numbers g ∙ ap (λ x. cond (bytes_eq x.group g) (numbers_at old g ++ x.sequence ∷ []) (numbers_at old g)) is)
    c.in_ok-add.ensures.handed)

pub returns-clause-ok : goal.returns-clause-ok
returns-clause-ok c =
    let m = c.args.message in
    let left = c.args.slots.now.items in
    let s' : Slot = record { sequence = c.message.inside.sequence; message = Some m } in
    ap live c.push_reserved.ensures.items ∙ live-append left (s' ∷ [])
