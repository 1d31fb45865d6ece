use Rattle.std.proofs.Common.{◌≡◌, ◌<◌, ◌+◌, ◌*◌, get_or, Some, rules, ap, ◌∙◌}
use Rattle.std.proofs.lemmas.Str.{IsCharBoundary-after_ascii}
use Rattle.std.specs.Char.{digit_value}
use Rattle.cq_json.proofs.Escapes.{unit_of, digit_ascii}
use Rattle.cq_json.proofs.flat_text.read_unit.Goals as goal

pub range_from-requires : goal.range_from-requires
range_from-requires c = λ _. IsCharBoundary-after_ascii c.args.text.now 3 c.utf8.text (search rules) (digit_ascii (get_or c.args.text.now 3 0) (search rules))

pub returns : goal.returns
returns c =
    let t = c.args.text.now in
    let a : digit_value (get_or t 0 0) < 16 = search rules in
    let b : digit_value (get_or t 1 0) < 16 = search rules in
    let d : digit_value (get_or t 2 0) < 16 = search rules in
    let e : digit_value (get_or t 3 0) < 16 = search rules in
    let value : digit_value (get_or t 0 0) * 4096 + digit_value (get_or t 1 0) * 256 + digit_value (get_or t 2 0) * 16 + digit_value (get_or t 3 0)
    ≡ c.in_ok-a.a * 4096 + c.in_ok-b.b * 256 + c.in_ok-c.c * 16 + c.in_ok-d.d = search rules in
    (search rules, (unit_of (get_or t 0 0) (get_or t 1 0) (get_or t 2 0) (get_or t 3 0) a b d e ∙ ap Some value, search rules))
