-- A frame where a piece was written, and else what was there before the front.
use Rattle.std.proofs.Common.{◌∙◌, ◌++◌, ap, sym}
use Rattle.cq_process_frames.specs.Frames.{front}
use Rattle.cq_process_frames.proofs.Overwriting.{cut-back}
use Rattle.cq_process_frames.proofs.put.tell.Goals as goal

pub returns-in-None-clause-told : goal.returns-in-None-clause-told
returns-in-None-clause-told c = λ old piece to is at ends.
    c.truncate.ensures.items ∙ cut-back old (front to) piece c.args.out.now.items c.args.start is at ∙ ap (λ xs. old ++ xs) (sym (c.in-None.ensures.none to piece))
