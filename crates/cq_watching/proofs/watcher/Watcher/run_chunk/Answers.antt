-- Line by line, and then the part of a line that is left.
use Rattle.std.proofs.Common.{◌≡◌, ◌++◌, ◌∙◌, ◌∷◌, [], Err, Ok, ap, refl, sym}
use Rattle.std.proofs.KnownBytes.{Appends-nil}
use Rattle.std.proofs.lemmas.Result.{err_from_is_err_and}
use Rattle.cq_watching.specs.Coming.{after_bytes, by_bytes}
use Rattle.cq_watching.specs.Watching.{line_text}
use Rattle.cq_watching.proofs.Adding.{keeps-as, line-cut, more-lines, none-adds, part-adds, rest-adds}
use Rattle.cq_watching.proofs.Coming.{after-append, more-done}
use Rattle.cq_watching.proofs.watcher.Watcher.run_chunk.Goals as goal

pub loop-line-init : goal.loop-line-init
unfolding after_bytes by_bytes
loop-line-init g c = λ size come kept. ([], Appends-nil _, kept, refl)

pub returns-in_err-run_line-clause-adds : goal.returns-in_err-run_line-clause-adds
returns-in_err-run_line-clause-adds g c = λ size come kept.
    let done = c.loop-line.invariant size come kept in
    let line = c.in-Some.line.now in
    let later = c.in-Some.later.now in
    let fault = err_from_is_err_and c.from_residual.result c.from_residual.ensures.1 in
    rw fault.1 (rest-adds {A = Unit {0}} (Err fault.0) (line_text size) come c.args.chunk.now done.0 c.loop-line.rest.now _ _ _ done.3 done.1
    (line-cut (Err c.in_err-run_line.field-0.0) c.in_err-run_line.field-0.0 (line_text size) (after_bytes come done.0) c.loop-line.rest.now line later _ _ c.in-Some.ensures.1
    (c.in_err-run_line.ensures.adds size (after_bytes come done.0) done.2)))

pub loop-line-preserved : goal.loop-line-preserved
loop-line-preserved g c = λ size come kept.
    let done = c.loop-line.invariant size come kept in
    let line = c.in-Some.line.now in
    let later = c.in-Some.later.now in
    let adds = c.in_ok-run_line.ensures.adds size (after_bytes come done.0) done.2 in (
      done.0 ++ (line ++ 10 ∷ []),
      more-lines (line_text size) come done.0 (line ++ 10 ∷ []) adds.0 _ _ _ done.1 adds.1 adds.3,
      keeps-as size _ _ _ (sym (after-append come done.0 (line ++ 10 ∷ []))) (c.in_ok-run_line.ensures.keeps size (after_bytes come done.0) done.2),
      more-done c.args.chunk.now done.0 c.loop-line.rest.now line later done.3 c.in-Some.ensures.1,
    )

pub returns-in_err-keep-clause-adds : goal.returns-in_err-keep-clause-adds
returns-in_err-keep-clause-adds g c = λ size come kept.
    let done = c.loop-line.invariant size come kept in
    let fault = err_from_is_err_and c.from_residual-in_err-keep.result c.from_residual-in_err-keep.ensures.1 in
    rw fault.1 (rest-adds {A = Unit {0}} (Err fault.0) (line_text size) come c.args.chunk.now done.0 c.loop-line.rest.now _ _ _ done.3 done.1 (none-adds fault.0 _ _))

pub returns-clause-adds : goal.returns-clause-adds
returns-clause-adds g c = λ size come kept.
    let done = c.loop-line.invariant size come kept in
    rest-adds {A = Unit {0}} (Ok tt) (line_text size) come c.args.chunk.now done.0 c.loop-line.rest.now _ _ _ done.3 done.1
    (part-adds (line_text size) (after_bytes come done.0) c.loop-line.rest.now _ c.in_default.ensures)

pub returns-clause-keeps : goal.returns-clause-keeps
returns-clause-keeps g c = λ size come kept.
    let done = c.loop-line.invariant size come kept in
    keeps-as size _ _ _ (sym (after-append come done.0 c.loop-line.rest.now) ∙ ap (after_bytes come) (sym done.3)) (c.in_ok-keep.ensures size (after_bytes come done.0) done.2)
