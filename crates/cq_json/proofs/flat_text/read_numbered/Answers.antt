use Rattle.std.proofs.Common.{◌≡◌, true, false, arith, subst, sym}
use Rattle.std.proofs.lemmas.Bool.Decides.{nat_tests}
use Rattle.std.specs.Char.{encode_utf8}
use Rattle.json.specs.Text.{after_u, is_high_surrogate, is_low_surrogate}
use Rattle.cq_json.specs.within.FlatText.{SpelledFrom}
use Rattle.cq_json.proofs.Escapes.{alone_spelled, high_spelled}
use Rattle.cq_json.proofs.flat_text.read_numbered.Goals as goal

pub returns-then-contains-clause-value : goal.returns-then-contains-clause-value
returns-then-contains-clause-value c =
    let unit = c.in_ok-unit.unit in
    let high : is_high_surrogate unit ≡ true = grind (arith, nat_tests, c.if-contains.ensures.cases) in
    high_spelled c.args.text.now c.in_ok-unit.rest.now c.in_ok-character.behind.now (encode_utf8 c.in_ok-character.character) unit c.in_ok-unit.ensures high c.in_ok-character.ensures.value

pub returns-clause-value : goal.returns-clause-value
returns-clause-value c =
    let unit = c.in_ok-unit.unit in
    let text = c.args.text.now in
    let rest = c.in_ok-unit.rest.now in
    let high : is_high_surrogate unit ≡ false = grind (arith, nat_tests, c.if-contains.ensures.cases) in
    let low : is_low_surrogate unit ≡ false = grind (arith, nat_tests, c.in_ok-from_u32.ensures.cases) in
    subst (λ x. SpelledFrom after_u text (encode_utf8 x) rest) (sym c.in_ok-from_u32.ensures.value.1) (alone_spelled text rest unit c.in_ok-unit.ensures high low)
