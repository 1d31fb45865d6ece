-- One more message is handed out, unless it was already.
use Rattle.std.proofs.Common.{◌≡◌, ◌<◌, ◌==◌, ◌∷◌, [], ◌∙◌, ap, sym, subst, arith, get_or, take, map, false}
use Rattle.std.specs.List.{list_any}
use Rattle.std.proofs.lemmas.List.{take_more}
use Rattle.cq_base.specs.Relations.{Among}
use Rattle.cq_messages.specs.Changes.{marked}
use Rattle.cq_messages.proofs.Marking.{map-marked, map-again, map-unmarked, still-few}
use Rattle.cq_messages.proofs.Values.{all-among}
use Rattle.cq_messages.proofs.messages.Messages.mark.Goals as goal
use Rattle.cq_messages.proofs.messages.Messages.mark.Goals.{then-not-is_before, else-not-is_before}

pub loop-i-init : goal.loop-i-init
loop-i-init c = map-unmarked c.args.moment c.args.end c.args.self.now

pub hand_one-requires : goal.hand_one-requires
hand_one-requires c = λ m a e.
    let ns = c.args.numbers.now in
    let new : list_any (λ n. n == get_or ns c.loop-i.i 0) (take c.loop-i.i ns) ≡ false = sym c.is_before.ensures ∙ c.if-not-is_before.true in
    let r = still-few c.args.moment c.args.end (take c.loop-i.i ns) (get_or ns c.loop-i.i 0) c.args.self.now m new (subst (Among m) c.loop-i.invariant a) e in
    let few : r.0.handings < 4611686018427387904 = all-among (λ x. x.handings < 4611686018427387904) c.args.self.now r.0 c.requires r.1.0 in
    subst (λ x. x.handings < 4611686018427387904) (sym r.1.1) few

pub loop-i-preserved : goal.loop-i-preserved
loop-i-preserved c =
    let ns = c.args.numbers.now in
    let i = c.loop-i.i in
    let n = get_or ns i 0 in
    let t = c.args.moment in
    let end = c.args.end in
    let more = ap (λ xs. map (marked t end xs) c.args.self.now) (sym (take_more ns i 0 (omega arith))) in
    elim c.if-not-is_before.branch [
      | then-not-is_before w ↦ w.self-is ∙ w.hand_one.ensures ∙ ap (map (marked t end (n ∷ []))) c.loop-i.invariant ∙ map-marked t end (take i ns) n c.args.self.now (sym c.is_before.ensures ∙ w.if-not-is_before.true) ∙ more
      | else-not-is_before w ↦ w.self-is ∙ c.loop-i.invariant ∙ map-again t end (take i ns) n c.args.self.now (sym c.is_before.ensures ∙ w.if-not-is_before.false) ∙ more
    ]
