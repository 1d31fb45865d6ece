-- Each slot with a message has its number moved behind those before.
use Rattle.std.proofs.Common.{◌≡◌, ℕ, List, ◌+◌, ◌<◌, ◌≤◌, ◌∙◌, ap, sym, subst, arith, length, get_or, set, take, true, false}
use Rattle.std.proofs.lemmas.List.{get_or_default, get_or-set_other, length-set, take_all}
use Rattle.cq_messages.specs.within.Gathered.{IsBeside, is_full, full_slots}
use Rattle.cq_messages.specs.declared.slot.TheConstants.{NEVER}
use Rattle.cq_messages.specs.Slots.{gone}
use Rattle.cq_messages.proofs.Gathering.{full-skip, full-count, full-upto, beside-apart, beside-next}
use Rattle.cq_messages.proofs.compact.gather.Goals as goal
use Rattle.cq_messages.proofs.compact.gather.Goals.{then-is_some, else-is_some}

pub move_down-requires-clause-from : goal.move_down-requires-clause-from
move_down-requires-clause-from g c = omega (arith, c.loop-from.invariant.long)

pub move_down-requires-clause-to : goal.move_down-requires-clause-to
move_down-requires-clause-to g c =
    let upto = full-upto c.args.slots.now c.loop-from.from (omega arith) in
    omega (arith, c.loop-from.invariant.to)

pub overflow_add-to : goal.overflow_add-to
overflow_add-to g c =
    let upto = full-upto c.args.slots.now c.loop-from.from (omega arith) in
    omega (arith, c.loop-from.invariant.to)

pub loop-from-preserved : goal.loop-from-preserved
loop-from-preserved g c =
    let ss = c.args.slots.now in
    let i = c.loop-from.from in
    let to = c.loop-from.to in
    let numbers : List ℕ = g.T.NumberList.numbers c.loop-from.beside in
    let inside : i < length ss = c.loop-from-test.true in
    let same = get_or_default ss i c.index-slots-from.result gone inside in
    let upto = full-upto ss i (omega arith) in
    let was = c.loop-from.invariant in
    let order : to ≤ i = omega (arith, was.to) in
    let room : i < length numbers = omega (arith, was.long) in
    elim c.if-is_some.branch [
      | then-is_some w ↦
          let v : ℕ = get_or numbers i 0 in
          let moved : List ℕ = set numbers i NEVER in
          let long : length moved ≡ length numbers = length-set numbers i NEVER in
          let full : is_full (get_or ss i gone) ≡ true = ap is_full (sym same) ∙ sym c.is_some.ensures ∙ w.if-is_some.true in
          rw (w.beside-is, w.to-is) (rw w.move_down.ensures (record {
            long = length-set moved to v ∙ long ∙ was.long;
            to = ap (λ n. n + 1) was.to ∙ sym (full-count ss i inside full);
            prefix = λ f old. beside-next f ss i to v moved inside full was.to (omega arith) (was.rest i (omega arith) ∙ old i inside) (beside-apart f (full_slots (take i ss)) i NEVER numbers (omega (arith, was.to)) (was.prefix f old));
            rest = λ k h. get_or-set_other moved to k v 0 (λ e. omega arith) ∙ get_or-set_other numbers i k NEVER 0 (λ e. omega arith) ∙ was.rest k (omega arith);
          }))
      | else-is_some w ↦
          let empty : is_full (get_or ss i gone) ≡ false = ap is_full (sym same) ∙ sym c.is_some.ensures ∙ w.if-is_some.false in
          let skip = full-skip ss i inside empty in
          rw (w.beside-is, w.to-is) (record {
            long = was.long;
            to = was.to ∙ ap length (sym skip);
            prefix = λ f old. subst (λ xs. IsBeside f xs numbers) (sym skip) (was.prefix f old);
            rest = λ k h. was.rest k (omega arith);
          })
    ]

pub returns : goal.returns
returns g c =
    let ss = c.args.slots.now in
    let all = take_all c.loop-from.from ss c.loop-from-test.false in
    record {
      long = c.loop-from.invariant.long;
      beside = λ f old. subst (λ xs. IsBeside f (full_slots xs) (g.T.NumberList.numbers c.loop-from.beside)) all (c.loop-from.invariant.prefix f old);
    }
