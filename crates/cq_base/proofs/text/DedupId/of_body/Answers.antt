use Rattle.std.proofs.Common.{◌≡◌, ◌∙◌, ap, sym, true, subst}
use Rattle.std.specs.Arc.{arc_str_bytes}
use Rattle.hex.specs.Hex.{encode_lower}
use Rattle.cq_base.specs.Texts.{is_id, made_id}
use Rattle.cq_base.proofs.MadeIds.{made_is_id}
use Rattle.cq_base.proofs.text.DedupId.of_body.Goals as goal

-- src/text.rt:261:9
pub invariant_of-result : goal.invariant_of-result
invariant_of-result c =
    let text : arc_str_bytes c.in_ok-from_string.field-0 ≡ made_id c.args.body.now = c.in_ok-from_string.ensures.ok ∙ c.in_ok-text.ensures ∙ ap encode_lower c.digest-digest.ensures ∙ ap made_id c.as_str.ensures.text in
    subst (λ bytes. is_id bytes ≡ true) (sym text) (made_is_id c.args.body.now)
