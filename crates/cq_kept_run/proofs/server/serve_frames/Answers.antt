-- It told where it stands, and then what came of the frames.
use Rattle.std.proofs.Common.{inl, inr, subst}
use Rattle.std.proofs.KnownBytes.{Appends-trans}
use Rattle.cq_frame_loop.specs.Settling.{SettlesInput}
use Rattle.cq_kept_server.specs.Keeping.{Answers, Stops, stops_none}
use Rattle.cq_kept_server.specs.Servers.{IsSettled, state_of}
use Rattle.cq_kept_run.proofs.Stopping.{front_of_fault, on_err}
use Rattle.cq_kept_run.proofs.server.serve_frames.Goals as goal

pub returns-in-Ok-clause-serves : goal.returns-in-Ok-clause-serves
returns-in-Ok-clause-serves g c =
    let h = c.answer_settled_frames.ensures.answers in
    let all = subst (λ r. SettlesInput Answers Stops IsSettled r c.args.server.now c.answer_settled_frames.new.handler h.0 (g.R.Read.remaining c.answer_settled_frames.new.reader) h.1) c.in-Ok.is h.4 in
    record {
      standing = c.standing.result;
      stands = c.standing.ensures;
      input = h.0;
      output = h.1;
      read = (h.2, all.0);
      tells = Appends-trans (g.W.Write.contents c.args.output.now) (g.W.Write.contents c.tell_standing.new.output) (g.W.Write.contents c.answer_settled_frames.new.writer) _ _ c.in_ok-tell_standing.ensures.told h.3;
      answers = all.1.0;
      settled = all.1.1;
    }

pub returns-in_err-tell_standing-clause-stops : goal.returns-in_err-tell_standing-clause-stops
returns-in_err-tell_standing-clause-stops g c =
    let part = c.in_err-tell_standing.ensures.part in
    on_err c.from_residual.result (inl (record { standing = c.standing.result; stands = c.standing.ensures; told = part.0; tells = part.1; part = part.2 }))

pub returns-in-Err-clause-stops : goal.returns-in-Err-clause-stops
returns-in-Err-clause-stops g c =
    let h = c.answer_settled_frames.ensures.answers in
    let was = subst (λ r. SettlesInput Answers Stops IsSettled r c.args.server.now c.answer_settled_frames.new.handler h.0 (g.R.Read.remaining c.answer_settled_frames.new.reader) h.1) c.in-Err.is h.4 in
    inr (record {
      standing = c.standing.result;
      stands = c.standing.ensures;
      input = h.0;
      output = h.1;
      read = h.2;
      tells = Appends-trans (g.W.Write.contents c.args.output.now) (g.W.Write.contents c.tell_standing.new.output) (g.W.Write.contents c.answer_settled_frames.new.writer) _ _ c.in_ok-tell_standing.ensures.told h.3;
      front = front_of_fault (λ p ready. stops_none g.met.D.Device.only_now (state_of p) ready) c.in-Err.fault c.args.server.now c.answer_settled_frames.new.handler h.0 h.1 _ c.requires.settled was;
    })
