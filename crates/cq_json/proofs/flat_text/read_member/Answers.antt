use Rattle.std.proofs.Common.{◌++◌, ◌∷◌, [], ap, sym, ◌∙◌, append_assoc}
use Rattle.json.specs.Lex.{lex, between}
use Rattle.json.specs.Print.{quoted}
use Rattle.cq_json.specs.within.FlatText.{value_text}
use Rattle.cq_json.specs.Keys.{key_text}
use Rattle.cq_json.proofs.SameText.{behind_colon, behind_quoted}
use Rattle.cq_json.proofs.flat_text.read_member.Goals as goal

pub returns : goal.returns
returns c =
    let name = key_text c.in_ok-key.key in
    let value = value_text [] c.in_ok-value.value in
    let rest = c.in_ok-value.rest.now in
    let behind = c.in_ok-after_mark.field-0.now in (
      c.in_ok-name.ensures ∙ ap (λ k. lex between (quoted k ++ c.in_ok-name.rest.now)) c.in_ok-key.ensures
          ∙ behind_quoted name c.in_ok-name.rest.now (58 ∷ behind) c.in_ok-after_mark.ensures.same
          ∙ behind_quoted name (58 ∷ behind) (58 ∷ (value ++ rest)) (behind_colon behind (value ++ rest) c.in_ok-value.ensures.0)
          ∙ ap (lex between) (sym (append_assoc (quoted name) (58 ∷ value) rest)),
      c.in_ok-value.ensures.1,
    )
