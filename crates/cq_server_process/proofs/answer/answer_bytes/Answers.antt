-- The fault is told.
use Rattle.std.proofs.Common.{◌++◌, ◌∙◌, ap, refl, inl}
use Rattle.cq_server_process.specs.Answers.{ended_with, process, unread_as}
use Rattle.cq_server_process.specs.Turns.{frames}
use Rattle.cq_server_process.proofs.answer.answer_bytes.Goals as goal

pub returns-in-Err-clause-tells : goal.returns-in-Err-clause-tells
returns-in-Err-clause-tells c = (
  frames (unread_as c.in-Err.fault),
  (
    ap (λ xs. c.args.out.now.items ++ xs) c.tell_fault.ensures.tells,
    (unread_as c.in-Err.fault, (refl, inl (c.in-Err.fault, (c.in-Err.ensures.exact, record { stays = refl; ended = c.end.ensures ∙ ap (ended_with c.args.streams.now.ended) c.stream_of.ensures; is = refl })))),
  ),
)
