-- What was answered, or that there was no memory for the process.
use Rattle.std.proofs.Common.{[], inl, inr, refl, subst, sym}
use Rattle.std.specs.Prelude.{IfOk}
use Rattle.std.proofs.KnownBytes.{Appends-nil, Consumes-nil}
use Rattle.cq_server_process.specs.Answers.{IsNewProcess}
use Rattle.cq_server_process.specs.Processes.{process_of}
use Rattle.cq_processes.proofs.keep.keep_server.Goals as goal

pub returns-in-Ok-clause-keeps : goal.returns-in-Ok-clause-keeps
returns-in-Ok-clause-keeps g c = λ s new.
    let h = c.answer_frames.ensures.answers in (
      h.0,
      h.1,
      h.2,
      h.3,
      inl (record {
        first = c.new-process.result;
        last = c.answer_frames.new.handler;
        new = subst (λ p. IsNewProcess s (process_of p)) (sym c.new-process.ensures.process) (subst (λ o. IfOk o (λ p. IsNewProcess s (process_of p))) c.in-Ok.is new);
        copy = c.new-process.ensures.copy;
        answered = h.4;
      }),
      h.5,
    )

pub returns-in-Err-clause-keeps : goal.returns-in-Err-clause-keeps
returns-in-Err-clause-keeps g c = λ s new. ([], [], Consumes-nil _, Appends-nil _, inr (refl, (refl, refl)), tt)
