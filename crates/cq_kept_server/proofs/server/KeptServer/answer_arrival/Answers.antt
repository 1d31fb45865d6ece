-- It comes too late, or there is no room.
use Rattle.std.proofs.Common.{Some, inl, inr, refl, sym, ap, ◌∙◌}
use Rattle.cq_kept_server.specs.Servers.{device_of, state_of}
use Rattle.cq_kept_server.proofs.Answered.{refused_goes}
use Rattle.cq_server_process.specs.Answers.{ended_with}
use Rattle.cq_kept_server.proofs.server.KeptServer.answer_arrival.Goals as goal

pub returns-then-has_ended-clause-tells : goal.returns-then-has_ended-clause-tells
returns-then-has_ended-clause-tells g c =
    let p = state_of c.args.self.now in (
      _,
      (
        refl,
        refused_goes p p c.args.bytes.now _ _ (λ f. g.met.D.Device.only_now (device_of p) f) c.requires.ready refl refl refl
            (inl (record { stream = c.args.stream; clock = c.args.clock; request = c.args.request.now; arrival = c.requires.arrival; late = sym c.has_ended.ensures ∙ c.if-has_ended.true; ended = refl; is = refl })) c.refuse.ensures.told,
      ),
    )

pub returns-then-not-has_room-clause-tells : goal.returns-then-not-has_room-clause-tells
returns-then-not-has_room-clause-tells g c =
    let p = state_of c.args.self.now in (
      _,
      (
        refl,
        refused_goes p _ c.args.bytes.now _ _ (λ f. g.met.D.Device.only_now (device_of p) f) c.requires.ready c.note_no_room.ensures.journal c.note_no_room.ensures.text c.note_no_room.ensures.process
            (inr (inl (record { stream = c.args.stream; clock = c.args.clock; request = c.args.request.now; arrival = c.requires.arrival; in_time = sym c.has_ended.ensures ∙ c.if-has_ended.false; ended = c.end.ensures ∙ ap (λ s. ended_with s.ended (Some c.args.stream)) c.note_no_room.ensures.streams; is = refl }))) c.refuse-then-not-has_room.ensures.told,
      ),
    )
