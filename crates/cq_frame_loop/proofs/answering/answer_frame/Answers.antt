-- A frame was answered, and what was told of it may fail to be written; or it can't be answered.
use Rattle.std.proofs.Common.{◌++◌, ◌∙◌}
use Rattle.cq_frame_loop.proofs.Passing.{cut_back, off_fails, take_fails}
use Rattle.cq_frame_loop.proofs.answering.answer_frame.Goals as goal

pub returns-in-Ok-clause-fails : goal.returns-in-Ok-clause-fails
returns-in-Ok-clause-fails g c =
    let told = c.in-Ok.ensures.told in
    take_fails g.H.FrameHandler.answers g.H.FrameHandler.breaks c.take_end.result c.args.handler.now c.answer.new.self _ told.0 c.args.out.now.items (c.answer.new.out.items ++ c.answer.new.end.items) _ _ _ told.1 told.2 c.take_end.ensures.takes

pub returns-in-Err-clause-fails : goal.returns-in-Err-clause-fails
returns-in-Err-clause-fails g c =
    let off = c.break_off.ensures.writes in
    let is = cut_back c.args.out.now.items c.answer.new.out.items c.len-len.result (c.len-len.ensures ∙ c.args.out.now.ok.0) c.in-Err.ensures.kept in
    (off.0, off.1, off_fails g.H.FrameHandler.answers g.H.FrameHandler.breaks c.break_off.result c.args.handler.now c.answer.new.self _ c.args.out.now.items _ off.0 is c.in-Err.ensures.broke off.2)
