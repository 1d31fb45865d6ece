-- The text of the refusal, or a front of it.
use Rattle.std.proofs.Common.{◌∙◌}
use Rattle.cq_kept_session.proofs.Stopped.{on_err, refuses_all, refuses_front, refuses_nothing}
use Rattle.cq_kept_session.proofs.kept.KeptSession.refuse.Goals as goal

pub returns-in_err-text-clause-stops : goal.returns-in_err-text-clause-stops
returns-in_err-text-clause-stops g c = on_err c.from_residual.result (refuses_nothing _)

pub returns-in_err-write_text-clause-stops : goal.returns-in_err-write_text-clause-stops
returns-in_err-write_text-clause-stops g c = on_err c.from_residual-in_err-write_text.result (refuses_front _ _ _ _ _ (c.deref.ensures.value ∙ c.in_ok-text.ensures) c.in_err-write_text.ensures.takes)

pub returns-clause-stops : goal.returns-clause-stops
returns-clause-stops g c =
    let took = c.in_ok-write_text.ensures.takes in
    on_err c.finish_writing.result (refuses_all _ _ _ _ _ _ (c.deref.ensures.value ∙ c.in_ok-text.ensures) took.2 took.1 c.finish_writing.ensures.kept)
