use Rattle.cq_json.proofs.SameText.{space_passed, tab_passed, return_passed}
use Rattle.cq_json.proofs.flat_text.after_space.Goals as goal

pub returns-in-Some-clause-same : goal.returns-in-Some-clause-same
returns-in-Some-clause-same c = space_passed c.args.text.now c.in-Some.rest.now c.in-Some.ensures

pub returns-in-Some-after-clause-same : goal.returns-in-Some-after-clause-same
returns-in-Some-after-clause-same c = tab_passed c.args.text.now c.in-Some-after.rest.now c.in-Some-after.ensures

pub returns-clause-same : goal.returns-clause-same
returns-clause-same c = return_passed c.args.text.now c.in_ok-rest.rest.now c.in_ok-rest.ensures
