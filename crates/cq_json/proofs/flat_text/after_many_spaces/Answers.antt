use Rattle.std.proofs.Common.{◌∙◌, rules}
use Rattle.cq_json.proofs.flat_text.after_many_spaces.Goals as goal

pub spaces-preserved : goal.spaces-preserved
spaces-preserved c =
    let before = c.spaces.invariant.1 in
    (search rules, (before.0 ∙ c.in-Some.ensures.same, λ _. before.1 c.in-Some.ensures.ends))
