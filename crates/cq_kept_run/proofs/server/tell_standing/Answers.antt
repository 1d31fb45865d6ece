-- The frame, or a front of it.
use Rattle.std.proofs.Common.{◌≡◌, ◌∙◌, ◌++◌, List, ℕ, [], refl, sym, ap, subst, append-nil}
use Rattle.std.proofs.KnownBytes.{Appends-kept, Appends-nil}
use Rattle.cq_base.specs.Relations.{IsPrefix}
use Rattle.cq_frames.specs.declared.response.Response.TheVariants as responses
use Rattle.cq_process_frames.specs.Frames.{frame}
use Rattle.cq_kept_run.proofs.Stopping.{front_written, on_err}
use Rattle.cq_kept_run.proofs.server.tell_standing.Goals as goal

pub returns-in_default-clause-part : goal.returns-in_default-clause-part
returns-in_default-clause-part g c = ([], Appends-nil _, (frame (responses.Done c.args.standing.now), refl))

pub returns-in_err-write_text-clause-part : goal.returns-in_err-write_text-clause-part
returns-in_err-write_text-clause-part g c =
    let whole = frame (responses.Done c.args.standing.now) in
    let is : c.deref.result.now ≡ whole = c.deref.ensures.value ∙ c.tell_done.ensures.items ∙ ap (λ (l : List ℕ). l ++ whole) c.in-Ok.ensures.items in
    let took = c.in_err-write_text.ensures.takes in
    on_err c.from_residual.result (took.0, took.1, subst (λ (l : List ℕ). IsPrefix took.0 l) is (front_written c.in_err-write_text.field-0.0 c.deref.result.now took.0 took.2))

pub returns-in_err-finish_writing-clause-part : goal.returns-in_err-finish_writing-clause-part
returns-in_err-finish_writing-clause-part g c =
    let whole = frame (responses.Done c.args.standing.now) in
    let is : c.deref.result.now ≡ whole = c.deref.ensures.value ∙ c.tell_done.ensures.items ∙ ap (λ (l : List ℕ). l ++ whole) c.in-Ok.ensures.items in
    let took = c.in_ok-write_text.ensures.takes in
    on_err c.from_residual-in_err-finish_writing.result
    (took.0, Appends-kept _ _ _ took.0 took.1 c.finish_writing.ensures.kept, ([], sym is ∙ sym took.2 ∙ sym (append-nil took.0)))
