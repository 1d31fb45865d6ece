use Rattle.std.proofs.Common.{◌≡◌, ◌++◌, ◌∷◌, ap, ◌∙◌}
use Rattle.json.specs.Lex.{lex, between}
use Rattle.json.specs.Print.{escape}
use Rattle.cq_json.specs.within.FlatText.{run_end}
use Rattle.cq_json.proofs.Escapes.{closed}
use Rattle.cq_json.proofs.flat_text.read_text.Goals as goal

pub returns : goal.returns
returns c =
    let prefix = c.in_ok-prefix.prefix.now in
    let rest = c.in_ok-prefix.rest.now in
    let text = escape prefix ++ (92 ∷ rest) in
    let is : c.args.text.now ≡ 34 ∷ text =
    c.in_ok-after.ensures ∙ ap (λ t. 34 ∷ t) (c.in_ok-prefix.ensures.value ∙ ap (λ e. escape prefix ++ (run_end e ∷ rest)) c.if-ends.false) in
    ap (lex between) is ∙ closed text c.in_ok-string.string.now c.in_ok-string.rest.now c.in_ok-string.ensures
