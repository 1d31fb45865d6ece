-- All was answered, and what was told may fail to be flushed.
use Rattle.std.proofs.KnownBytes.{Appends-kept}
use Rattle.cq_frame_loop.proofs.Settled.{stops_told, write_stop}
use Rattle.cq_frame_loop.proofs.settled_loop.answer_all.Goals as goal

pub returns-in-Err-pass_on-clause-stops : goal.returns-in-Err-pass_on-clause-stops
returns-in-Err-pass_on-clause-stops g c =
    let told = c.in-Ok.ensures.answers in (
      told.0,
      Appends-kept _ _ _ told.0 told.1 c.pass_on.ensures.kept,
      stops_told g.H.SettlingHandler.answers g.H.SettlingHandler.stops g.H.SettlingHandler.is_settled g.met.H.SettlingHandler.stops_none c.args.handler.now c.answer_each.new.handler c.args.count c.in-Ok.left.1 c.args.bytes.now told.0 _ c.in-Ok.ensures.settled told.2.advances,
      write_stop c.in-Err-pass_on.fault _ _ c.in-Err-pass_on.ensures.kind c.in-Err-pass_on.ensures.leaves,
    )
