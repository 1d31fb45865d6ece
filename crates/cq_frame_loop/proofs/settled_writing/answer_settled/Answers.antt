-- A frame was answered, and a fault may have come as the answer was settled or written.
use Rattle.std.proofs.Common.{[], ◌++◌}
use Rattle.std.proofs.KnownBytes.{Appends-nil}
use Rattle.cq_frame_loop.proofs.Settled.{answered_then, stops_first, stops_then}
use Rattle.cq_frame_loop.proofs.Waiting.{waits_more}
use Rattle.cq_frame_loop.proofs.settled_writing.answer_settled.Goals as goal

pub returns-in-Ok-clause-answers : goal.returns-in-Ok-clause-answers
returns-in-Ok-clause-answers g c =
    let told = c.in-Ok.ensures.told in
    answered_then g.H.SettlingHandler.answers g.H.SettlingHandler.rests g.met.H.SettlingHandler.answers_on c.take_settled.result c.args.handler.now c.answer.new.self c.take_settled.new.handler _ told.0 c.args.out.now.items (c.answer.new.out.items ++ c.answer.new.end.items) c.take_settled.new.out.items _ _ (g.H.SettlingHandler.is_settled c.take_settled.new.handler) told.1 told.2 c.take_settled.ensures.rested c.take_settled.ensures.writes

pub returns-in-Ok-clause-stops : goal.returns-in-Ok-clause-stops
returns-in-Ok-clause-stops g c =
    let told = c.in-Ok.ensures.told in
    stops_then g.H.SettlingHandler.answers g.H.SettlingHandler.rests g.H.SettlingHandler.stops g.H.SettlingHandler.is_settled g.met.H.SettlingHandler.answers_on c.take_settled.result c.args.handler.now c.answer.new.self c.take_settled.new.handler _ told.0 c.args.out.now.items (c.answer.new.out.items ++ c.answer.new.end.items) _ _ _ told.1 told.2 c.take_settled.ensures.stops

pub returns-in-Err-clause-stops : goal.returns-in-Err-clause-stops
returns-in-Err-clause-stops g c =
    ([], Appends-nil _, stops_first g.H.SettlingHandler.answers g.H.SettlingHandler.stops g.H.SettlingHandler.is_settled c.args.handler.now c.answer.new.self _ c.args.out.now.items c.in-Err.ensures.stopped, tt)

pub take_settled-requires-clause-waits : goal.take_settled-requires-clause-waits
take_settled-requires-clause-waits g c =
    let told = c.in-Ok.ensures.told in
    waits_more g.H.SettlingHandler.answers c.args.handler.now c.answer.new.self _ c.args.out.now.items told.0 _ told.1 told.2 c.requires.waits
