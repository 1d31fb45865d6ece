-- All was answered, and what was told may fail to be written.
use Rattle.std.proofs.Common.{[], ◌++◌}
use Rattle.std.proofs.KnownBytes.{Appends-trans}
use Rattle.cq_frame_loop.proofs.Advancing.{fails_at_writing}
use Rattle.cq_frame_loop.proofs.answering.answer_all.Goals as goal

pub returns-in-Err-write_told-clause-fails : goal.returns-in-Err-write_told-clause-fails
returns-in-Err-write_told-clause-fails g c =
    let told = c.in-Ok.ensures.answers in
    let took = c.in-Err-write_told.ensures.takes in (
      told.0 ++ took.0,
      Appends-trans _ _ _ told.0 took.0 told.1 took.1,
      fails_at_writing g.H.FrameHandler.answers g.H.FrameHandler.breaks c.in-Err-write_told.fault c.args.handler.now c.answer_each.new.handler c.answer_each.new.handler c.args.count c.in-Ok.left.1 c.args.bytes.now told.0 c.answer_each.new.out.items _ took.0 [] told.2.advances took.2,
    )
