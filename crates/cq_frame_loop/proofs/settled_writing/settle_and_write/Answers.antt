-- A fault came as something was settled, or as it was written.
use Rattle.std.proofs.Common.{[], inl, inr, refl, sym, ◌∙◌, subst, append-nil}
use Rattle.std.specs.Io.KnownBytes.{Appends}
use Rattle.std.proofs.KnownBytes.{Appends-nil}
use Rattle.cq_frame_loop.proofs.Settled.{nothing_of, write_stop}
use Rattle.cq_frame_loop.proofs.Waiting.{waits_rested}
use Rattle.cq_frame_loop.proofs.settled_writing.settle_and_write.Goals as goal

pub returns-in-Ok-write_settled-clause-writes : goal.returns-in-Ok-write_settled-clause-writes
returns-in-Ok-write_settled-clause-writes g c =
    let took = c.in-Ok-write_settled.ensures.takes in
    subst (λ xs. Appends (g.W.SettledSink.taken c.args.writer.now) (g.W.SettledSink.taken c.write_settled.new.writer) xs) (sym (took.2 ∙ append-nil took.0)) took.1

pub returns-in-Err-write_settled-clause-stops : goal.returns-in-Err-write_settled-clause-stops
returns-in-Err-write_settled-clause-stops g c =
    let took = c.in-Err-write_settled.ensures.takes in (
      took.0,
      took.1,
      record { mid = c.settle.new.self; rested = inr c.in-Ok.ensures.rests; settled = inr c.in-Ok.ensures.settled; stopped = g.met.H.SettlingHandler.stops_none c.settle.new.self; prefix = took.2.1 },
      write_stop c.in-Err-write_settled.fault _ _ took.2.0 c.in-Err-write_settled.ensures.leaves,
    )

pub returns-in-Err-clause-stops : goal.returns-in-Err-clause-stops
returns-in-Err-clause-stops g c =
    ([], Appends-nil _, record { mid = c.args.handler.now; rested = inl refl; settled = inl refl; stopped = c.in-Err.ensures.stopped; prefix = nothing_of _ }, tt)

pub write_settled-requires-clause-waits : goal.write_settled-requires-clause-waits
write_settled-requires-clause-waits g c = waits_rested g.H.SettlingHandler.answers g.H.SettlingHandler.rests g.met.H.SettlingHandler.answers_on c.args.handler.now c.settle.new.self _ c.in-Ok.ensures.rests c.requires.waits
