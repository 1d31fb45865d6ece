use Rattle.std.proofs.Common.{◌≡◌, ◌+◌, ◌-◌, ◌*◌, ◌<◌, ◌++◌, length, get_or, decimal, rules, arith, ap, sym, ◌∙◌, subst}
use Rattle.std.proofs.lemmas.Str.{IsCharBoundary-after_ascii}
use Rattle.std.specs.Str.{IsCharBoundary}
use Rattle.cq_json.proofs.FlatText.{zero_prefix, first_digit, digit_more}
use Rattle.cq_json.proofs.flat_text.read_number.Goals as goal

pub range_from-requires : goal.range_from-requires
range_from-requires c = λ _. IsCharBoundary-after_ascii c.args.text.now 0 c.utf8.text (search rules) (search rules)

pub returns-then-first-eq48 : goal.returns-then-first-eq48
returns-then-first-eq48 c =
    let zero = zero_prefix c.args.text.now (search rules) (search rules) in
    (zero ∙ ap (λ t. decimal 0 ++ t) (sym c.range_from.ensures.value), omega arith)

pub loop-len-init : goal.loop-len-init
loop-len-init c =
    let b = c.as_bytes-bytes.result.now in
    let some : 0 < length b = search rules in
    let first : c.in_ok-first.field-0.now ≡ get_or b 0 0 = search rules in
    let digit = c.if-not-is_ascii_digit.ensures.cases in
    record {
      digits = ap decimal (c.from-number.ensures ∙ ap (λ x. x - 48) first) ∙ first_digit b some (omega (arith, first, digit.0)) (omega (arith, first, digit.1));
      positive = omega (arith, c.from-number.ensures, c.if-first-eq48.false, digit.0);
      some = omega arith;
      within = omega arith;
      ascii = omega (arith, first, digit.1);
    }

pub loop-len-preserved : goal.loop-len-preserved
loop-len-preserved c =
    let b = c.as_bytes-bytes.result.now in
    let n = c.loop-len.len in
    let l = c.loop-len.invariant in
    let digit = c.if-is_ascii_digit.ensures.cases in
    let last : n + 1 - 1 ≡ n = omega arith in
    record {
      digits = ap (λ x. decimal (c.loop-len.number * 10 + x)) c.from.ensures
          ∙ digit_more b n c.loop-len.number l.digits l.positive (omega (arith, c.if-number-ge-NUMBER_END.false)) (omega arith) digit.0 digit.1;
      positive = omega (arith, l.positive);
      some = omega arith;
      within = omega arith;
      ascii = rw last (omega (arith, digit.1));
    }

pub range_from-requires-2 : goal.range_from-requires-2
range_from-requires-2 c = λ _.
    let n = c.loop-len.len in
    let before : n - 1 + 1 ≡ n = omega (arith, c.loop-len.invariant.some) in
    subst (IsCharBoundary c.args.text.now) before (IsCharBoundary-after_ascii c.args.text.now (n - 1) c.utf8.text
    (omega (arith, c.loop-len.invariant.within, c.loop-len.invariant.some, c.as_bytes-bytes.ensures.len))
    (rw (← c.as_bytes-bytes.ensures.value) c.loop-len.invariant.ascii))
