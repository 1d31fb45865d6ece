use Rattle.std.proofs.Common.{◌≡◌, ◌<◌, [], ◌∷◌, true, length, refl, subst, sym, ap, ◌∙◌, arith, length-append, rules}
use Rattle.std.proofs.lemmas.Bool.{eqb-true, eqb-false}
use Rattle.json.specs.Lex.{lex, between}
use Rattle.json.specs.Word.{is_operator}
use Rattle.cq_json.proofs.FlatText.{opening_of, opening_operator, opening_first, opening_later, take_more, take_inner, take_end, AreInRange-push}
use Rattle.cq_json.proofs.SameText.{operator_ends}
use Rattle.cq_json.proofs.flat_text.take_members.Goals as goal
use Rattle.cq_json.proofs.flat_text.take_members.Goals.{then-is_empty, else-is_empty}

pub returns-then-is_inner : goal.returns-then-is_inner
returns-then-is_inner c =
    let ms = c.members.members.items in
    let m = c.in_ok-member.member in
    let opening : c.if-is_empty.opening ≡ opening_of ms = elim c.if-is_empty.branch [
      | then-is_empty w ↦ w.opening-is ∙ sym (opening_first ms (eqb-true (length ms) 0 (sym c.is_empty.ensures ∙ w.if-is_empty.true)))
      | else-is_empty w ↦ w.opening-is ∙ sym (opening_later ms (omega (arith, eqb-false (length ms) 0 (sym c.is_empty.ensures ∙ w.if-is_empty.false))))
    ] in
    let opened = c.without_spaces-rest.ensures.same ∙ ap (lex between) (c.in-Some.ensures ∙ ap (λ b. b ∷ c.in-Some.next.now) opening) in
    let ends = c.without_spaces-rest.ensures.ends (operator_ends c.without_spaces-rest.result.now c.in-Some.next.now c.if-is_empty.opening c.in-Some.ensures (subst (λ b. is_operator b ≡ true) (sym opening) (opening_operator ms))) in
    rw c.push.ensures.items (
      take_inner c.args.text.now c.args.members.now.items ms c.members.rest.now c.in-Some.next.now c.in_ok-member.left.now c.members.invariant.1.0 c.members.invariant.1.1 m opened ends c.in_ok-member.ensures.0
          (sym c.is_inner.ensures ∙ c.if-is_inner.true),
      ((λ all. AreInRange-push ms m c.in_ok-member.ensures.1 (c.members.invariant.1.1 all)), omega (arith, length-append ms (m ∷ []))),
    )

pub members-preserved : goal.members-preserved
members-preserved c =
    let ms = c.members.members.items in
    let m = c.in_ok-member.member in
    let opening : c.if-is_empty.opening ≡ opening_of ms = elim c.if-is_empty.branch [
      | then-is_empty w ↦ w.opening-is ∙ sym (opening_first ms (eqb-true (length ms) 0 (sym c.is_empty.ensures ∙ w.if-is_empty.true)))
      | else-is_empty w ↦ w.opening-is ∙ sym (opening_later ms (omega (arith, eqb-false (length ms) 0 (sym c.is_empty.ensures ∙ w.if-is_empty.false))))
    ] in
    let opened = c.without_spaces-rest.ensures.same ∙ ap (lex between) (c.in-Some.ensures ∙ ap (λ b. b ∷ c.in-Some.next.now) opening) in
    let ends = c.without_spaces-rest.ensures.ends (operator_ends c.without_spaces-rest.result.now c.in-Some.next.now c.if-is_empty.opening c.in-Some.ensures (subst (λ b. is_operator b ≡ true) (sym opening) (opening_operator ms))) in
    rw c.push.ensures.items (
      search rules,
      (
        take_more c.args.text.now c.args.members.now.items ms c.members.rest.now c.in-Some.next.now c.in_ok-member.left.now c.members.invariant.1.0 c.members.invariant.1.1 m opened ends c.in_ok-member.ensures.0
            (sym c.is_inner.ensures ∙ c.if-is_inner.false),
        (λ all. AreInRange-push ms m c.in_ok-member.ensures.1 (c.members.invariant.1.1 all)),
      ),
    )

pub returns : goal.returns
returns c =
    let ms = c.members.members.items in
    let took = c.members.invariant.1 in
    let some : 0 < length ms = omega (arith, eqb-false (length ms) 0 (sym c.is_empty-2.ensures ∙ c.if-is_empty-2.false)) in
    (take_end c.args.text.now c.args.members.now.items ms c.members.rest.now c.in_ok-rest.rest.now took.0 took.1 (c.without_spaces-rest.ensures.same ∙ ap (lex between) c.in_ok-rest.ensures) (c.without_spaces-rest.ensures.ends (operator_ends c.without_spaces-rest.result.now c.in_ok-rest.rest.now 125 c.in_ok-rest.ensures refl)), (took.1, some))
