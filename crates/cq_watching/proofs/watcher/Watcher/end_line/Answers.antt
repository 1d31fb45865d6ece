-- By whether the line asks.
use Rattle.std.proofs.Common.{◌≡◌, ◌++◌, ◌∙◌, ◌∷◌, [], true, false, Ok, Err, ap, sym}
use Rattle.std.proofs.lemmas.Result.{err_from_is_err_and}
use Rattle.cq_watching.specs.Coming.{asks}
use Rattle.cq_watching.specs.Watching.{answered_text}
use Rattle.cq_watching.proofs.Adding.{adds-as, end-answered, end-asked, line-answered, line-asked, on_ok_map, ran-as}
use Rattle.cq_watching.proofs.watcher.Watcher.end_line.Goals as goal

pub returns-then-is_show-clause-adds : goal.returns-then-is_show-clause-adds
returns-then-is_show-clause-adds g c = λ size come kept.
    let is : asks come.line ≡ true = ap asks (sym kept.begun ∙ sym c.as_slice.ensures.value) ∙ sym c.is_show.ensures ∙ c.if-is_show.true in
    adds-as c.answer.result _ _ _ _ (sym (line-asked size come is)) (c.answer.ensures.adds size come.given kept.ran)

pub returns-then-is_show-clause-keeps : goal.returns-then-is_show-clause-keeps
returns-then-is_show-clause-keeps g c = λ size come kept.
    let is : asks come.line ≡ true = ap asks (sym kept.begun ∙ sym c.as_slice.ensures.value) ∙ sym c.is_show.ensures ∙ c.if-is_show.true in
    rw (end-asked come is) (on_ok_map c.answer.result (λ ran. record { ran = ran; begun = c.clear.ensures.items }) (c.answer.ensures.runs size come.given kept.ran))

pub returns-in_err-run-clause-adds : goal.returns-in_err-run-clause-adds
returns-in_err-run-clause-adds g c = λ size come kept.
    let is : asks come.line ≡ false = ap asks (sym kept.begun ∙ sym c.as_slice.ensures.value) ∙ sym c.is_show.ensures ∙ c.if-is_show.false in
    let whole : c.as_slice-2.result.now ≡ come.line ++ 10 ∷ [] = c.as_slice-2.ensures.value ∙ c.in_ok-push.ensures.items ∙ ap (λ line. line ++ 10 ∷ []) kept.begun in
    let fault = err_from_is_err_and c.from_residual-in_err-run.result c.from_residual-in_err-run.ensures.1 in
    rw fault.1 (adds-as {A = Unit {0}} (Err c.in_err-run.field-0.0) _ _ _ _ (ap (answered_text size come.given) whole ∙ sym (line-answered size come is)) (c.in_err-run.ensures.adds size come.given kept.ran))

pub returns-clause-adds : goal.returns-clause-adds
returns-clause-adds g c = λ size come kept.
    let is : asks come.line ≡ false = ap asks (sym kept.begun ∙ sym c.as_slice.ensures.value) ∙ sym c.is_show.ensures ∙ c.if-is_show.false in
    let whole : c.as_slice-2.result.now ≡ come.line ++ 10 ∷ [] = c.as_slice-2.ensures.value ∙ c.in_ok-push.ensures.items ∙ ap (λ line. line ++ 10 ∷ []) kept.begun in
    adds-as {A = Unit {0}} (Ok c.in_ok-run.field-0) _ _ _ _ (ap (answered_text size come.given) whole ∙ sym (line-answered size come is)) (c.in_ok-run.ensures.adds size come.given kept.ran)

pub returns-clause-keeps : goal.returns-clause-keeps
returns-clause-keeps g c = λ size come kept.
    let is : asks come.line ≡ false = ap asks (sym kept.begun ∙ sym c.as_slice.ensures.value) ∙ sym c.is_show.ensures ∙ c.if-is_show.false in
    let whole : c.as_slice-2.result.now ≡ come.line ++ 10 ∷ [] = c.as_slice-2.ensures.value ∙ c.in_ok-push.ensures.items ∙ ap (λ line. line ++ 10 ∷ []) kept.begun in
    rw (end-answered come is) (record {
      ran = ran-as size come.given _ _ c.run.new.session whole (c.in_ok-run.ensures.runs size come.given kept.ran);
      begun = c.clear-2.ensures.items;
    })
