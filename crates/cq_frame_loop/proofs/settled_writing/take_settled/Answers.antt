-- All was settled and written.
use Rattle.std.proofs.Common.{sym}
use Rattle.cq_frame_loop.proofs.Settled.{all_settled, on_rests, stops_same}
use Rattle.cq_frame_loop.proofs.Waiting.{waits_same}
use Rattle.cq_frame_loop.proofs.settled_writing.take_settled.Goals as goal

pub returns-clause-rested : goal.returns-clause-rested
returns-clause-rested g c = on_rests g.H.SettlingHandler.rests c.args.handler.now c.settle_and_write.new.handler c.settle_and_write.result c.settle_and_write.ensures.rests

pub returns-clause-writes : goal.returns-clause-writes
returns-clause-writes g c = all_settled c.settle_and_write.result _ _ _ _ c.settle_and_write.new.out.items (g.H.SettlingHandler.is_settled c.settle_and_write.new.handler) c.settle_and_write.ensures.writes c.settle_and_write.ensures.nothing c.settle_and_write.ensures.settled c.append_end-is_kept.ensures.same

pub returns-clause-stops : goal.returns-clause-stops
returns-clause-stops g c = stops_same g.H.SettlingHandler.rests g.H.SettlingHandler.stops g.H.SettlingHandler.is_settled c.settle_and_write.result c.args.handler.now c.settle_and_write.new.handler _ _ _ _ _ c.append_end-is_kept.ensures.same c.settle_and_write.ensures.stops

pub settle_and_write-requires-clause-waits : goal.settle_and_write-requires-clause-waits
settle_and_write-requires-clause-waits g c = waits_same g.H.SettlingHandler.answers c.args.handler.now _ _ (sym c.append_end-is_kept.ensures.same) c.requires.waits
