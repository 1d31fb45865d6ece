-- What was answered, or that there was no memory for the process.
use Rattle.std.proofs.Common.{[], inl, inr, refl}
use Rattle.std.proofs.KnownBytes.{Appends-nil, Consumes-nil}
use Rattle.cq_processes.proofs.keep.keep_master.Goals as goal

pub returns-in-Ok-clause-keeps : goal.returns-in-Ok-clause-keeps
returns-in-Ok-clause-keeps g c =
    let h = c.answer_frames.ensures.answers in
    (h.0, h.1, h.2, h.3, inl (record { first = c.in-Ok.process; last = c.answer_frames.new.handler; new = c.in-Ok.ensures; answered = h.4 }), h.5)

pub returns-in-Err-clause-keeps : goal.returns-in-Err-clause-keeps
returns-in-Err-clause-keeps g c = ([], [], Consumes-nil _, Appends-nil _, inr (refl, (refl, refl)), tt)
