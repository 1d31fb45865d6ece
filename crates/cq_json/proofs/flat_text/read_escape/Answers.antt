use Rattle.std.proofs.Common.{◌≡◌, ◌∷◌, rules, subst, sym}
use Rattle.std.proofs.lemmas.Bool.{true≢false}
use Rattle.std.proofs.lemmas.Str.{IsCharBoundary-after_ascii}
use Rattle.std.specs.Char.{encode_utf8}
use Rattle.cq_json.specs.within.FlatText.{Spelled}
use Rattle.cq_json.proofs.Escapes.{short_spelled, numbered_spelled}
use Rattle.cq_json.proofs.flat_text.read_escape.Goals as goal

pub returns-in-Some-clause-value : goal.returns-in-Some-clause-value
returns-in-Some-clause-value c =
    let bytes = encode_utf8 c.in_ok-character.character in
    let rest = c.in_ok-character.rest.now in
    subst (λ t. Spelled (92 ∷ t) bytes rest) (sym c.in-Some.ensures) (numbered_spelled c.in-Some.digits.now rest bytes c.in_ok-character.ensures.value)

pub returns-clause-value : goal.returns-clause-value
returns-clause-value c =
    let text = c.args.text.now in
    let rest = c.range_from.result.now in
    let letter = c.in_ok-first.field-0.now in
    let is : text ≡ letter ∷ rest = search rules in
    let escaped = c.in_ok-character-2.ensures in
    short_spelled text rest letter c.in_ok-character-2.character is escaped.value escaped.ascii.0 (λ e. true≢false (escaped.numbered e))

pub range_from-requires : goal.range_from-requires
range_from-requires c = λ _. IsCharBoundary-after_ascii c.args.text.now 0 c.utf8.text (search rules) (search rules)
