use Rattle.std.proofs.Common.{◌≡◌, ◌∷◌, true, arith, rules, subst, sym}
use Rattle.std.proofs.lemmas.Bool.Decides.{nat_tests}
use Rattle.std.specs.Char.{encode_utf8}
use Rattle.json.specs.Text.{after_high, is_low_surrogate, surrogate_pair}
use Rattle.cq_json.specs.within.FlatText.{SpelledFrom}
use Rattle.cq_json.proofs.Escapes.{low_spelled}
use Rattle.cq_json.proofs.flat_text.read_second_half.Goals as goal

pub returns-clause-value : goal.returns-clause-value
returns-clause-value c =
    let text = c.args.text.now in
    let digits = c.in_ok-strip_prefix.field-0.now in
    let rest = c.in_ok-low.rest.now in
    let is : text ≡ 92 ∷ 117 ∷ digits = search rules in
    let second : is_low_surrogate c.in_ok-low.low ≡ true = grind (arith, nat_tests, c.if-not-contains.ensures.cases) in
    let pair : surrogate_pair c.args.high c.in_ok-low.low ≡ c.in_ok-character.character = sym c.in_ok-character.ensures.value.1 in
    subst (λ x. SpelledFrom (after_high c.args.high) text (encode_utf8 x) rest) pair (low_spelled text digits rest c.args.high c.in_ok-low.low is c.in_ok-low.ensures second)
