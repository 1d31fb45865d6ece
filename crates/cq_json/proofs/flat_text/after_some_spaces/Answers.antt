use Rattle.std.proofs.Common.{rules, ◌≡◌, ◌++◌, codes}
use Rattle.cq_json.proofs.SameText.{spaces_passed}
use Rattle.cq_json.proofs.flat_text.after_some_spaces.Goals as goal

pub returns-in-Some-clause-same : goal.returns-in-Some-clause-same
returns-in-Some-clause-same c =
    let is : c.args.text.now ≡ codes "                " ++ c.in-Some.rest.now = search rules in
    spaces_passed c.args.text.now c.in-Some.rest.now is
