-- What is told and then flushed is the text with the guide, where the writer has not failed.
use Rattle.std.proofs.Common.{◌≡◌, ◌∙◌, true, false, inl, inr, refl, sym}
use Rattle.std.proofs.KnownBytes.{Appends-kept}
use Rattle.std.specs.Prelude.{string_bytes}
use Rattle.cq_lines.specs.Checks.{inner_of, is_failed}
use Rattle.cq_main.proofs.Told.{failed_by_error, not_failed_before}
use Rattle.cq_main.proofs.run.help.Goals as goal
use Rattle.cq_main.proofs.run.help.Goals.{then-is_err-via-then-is_err, then-is_err-via-else-is_err+then-failed}

pub returns-in_default : goal.returns-in_default
returns-in_default g c = inr (refl, c.report.ensures)

pub returns-then-is_err : goal.returns-then-is_err
returns-then-is_err g c =
    let failed : is_failed c.flush.new.self ≡ true = elim c.then-is_err.branch [
      | then-is_err-via-then-is_err w ↦ failed_by_error (is_failed c.print.new.self) _ _ _ c.flush.ensures.failed c.is_err.ensures.value w.if-is_err.true
      | then-is_err-via-else-is_err+then-failed w ↦ sym w.failed.ensures ∙ w.if-failed.true
    ] in
    inl (inr (failed, c.report-then-is_err.ensures))

pub returns : goal.returns
returns g c =
    let kept : is_failed c.flush.new.self ≡ false = sym c.failed.ensures ∙ c.if-failed.false in
    let told : is_failed c.print.new.self ≡ false = not_failed_before (is_failed c.print.new.self) _ _ c.flush.ensures.failed kept in
    inl (inl (kept, refl, refl, (string_bytes c.in-Ok.text, Appends-kept (g.W.Write.contents (inner_of c.args.output.now)) (g.W.Write.contents (inner_of c.print.new.self)) (g.W.Write.contents (inner_of c.flush.new.self)) _ (c.print.ensures.bytes told) c.flush.ensures.bytes)))
