-- The blank line was run, and then it was told what the world holds.
use Rattle.std.proofs.Common.{◌++◌, ◌∷◌, [], Err}
use Rattle.std.proofs.lemmas.Result.{err_from_is_err_and}
use Rattle.cq_script.specs.Resumed.{world_behind}
use Rattle.cq_show.specs.Worlds.{world_text}
use Rattle.cq_watching.specs.Watching.{answered_text}
use Rattle.cq_watching.proofs.Adding.{adds-cut, adds-then, on_ok_so}
use Rattle.cq_watching.proofs.watcher.answer.Goals as goal

pub returns-in_err-run-clause-adds : goal.returns-in_err-run-clause-adds
returns-in_err-run-clause-adds g c = λ size before ran.
    let fault = err_from_is_err_and c.from_residual.result c.from_residual.ensures.1 in
    rw fault.1 (adds-cut (Err c.in_err-run.field-0.0) c.in_err-run.field-0.0 _ _ (answered_text size before (10 ∷ [])) (world_text (world_behind size (before ++ 10 ∷ []))) (c.in_err-run.ensures.adds size before ran))

pub returns-clause-adds : goal.returns-clause-adds
returns-clause-adds g c = λ size before ran.
    let first = c.in_ok-run.ensures.adds size before ran in
    adds-then c.tell.result _ _ _ (answered_text size before (10 ∷ [])) (world_text (world_behind size (before ++ 10 ∷ []))) first.0 first.1 first.3
    (c.tell.ensures size (before ++ 10 ∷ []) (c.in_ok-run.ensures.runs size before ran))

pub returns-clause-runs : goal.returns-clause-runs
returns-clause-runs g c = λ size before ran. on_ok_so c.tell.result (c.in_ok-run.ensures.runs size before ran)
