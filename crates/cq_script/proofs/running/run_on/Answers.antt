-- The flush adds nothing to what was written.
use Rattle.std.proofs.Common.{◌++◌}
use Rattle.std.proofs.lemmas.Result.{err_from_is_err_and}
use Rattle.std.proofs.KnownBytes.{Appends-kept}
use Rattle.cq_script.proofs.Played.{runs_unflushed}
use Rattle.cq_script.proofs.running.run_on.Goals as goal

pub returns-in_err-finish_writing-clause-runs : goal.returns-in_err-finish_writing-clause-runs
returns-in_err-finish_writing-clause-runs g c = λ limits size before written played.
    let r = c.run_chunks-ended.ensures.runs limits size before written played in
    let fault = err_from_is_err_and c.from_residual.result c.from_residual.ensures.1 in
    rw (fault.1, fault.2) (
      r.0,
      r.1,
      r.2,
      Appends-kept _ _ _ r.1 r.3 c.in_err-finish_writing.ensures.kept,
      runs_unflushed g.P.LineParser.grammar limits size c.in_err-finish_writing.field-0.0 _ (before ++ r.0) _ (written ++ r.1) c.in_err-finish_writing.ensures.answer r.5,
      r.5,
      r.6,
    )

pub returns-clause-runs : goal.returns-clause-runs
returns-clause-runs g c = λ limits size before written played.
    let r = c.run_chunks-ended.ensures.runs limits size before written played in
    (r.0, r.1, r.2, Appends-kept _ _ _ r.1 r.3 c.in_ok-finish_writing.ensures.kept, r.4, r.5, r.6)
