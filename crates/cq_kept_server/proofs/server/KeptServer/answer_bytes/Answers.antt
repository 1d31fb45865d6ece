-- There was no memory to read them.
use Rattle.std.proofs.Common.{inl, inr, refl, ap, ◌∙◌}
use Rattle.cq_kept_server.specs.Servers.{device_of, state_of}
use Rattle.cq_kept_server.proofs.Answered.{refused_goes}
use Rattle.cq_server_process.specs.Answers.{ended_with}
use Rattle.cq_kept_server.proofs.server.KeptServer.answer_bytes.Goals as goal

pub returns-in-Err-NoMemory-clause-tells : goal.returns-in-Err-NoMemory-clause-tells
returns-in-Err-NoMemory-clause-tells g c =
    let p = state_of c.args.self.now in (
      _,
      (
        refl,
        refused_goes p _ c.args.bytes.now _ _ (λ f. g.met.D.Device.only_now (device_of p) f) c.requires.ready refl refl refl
            (inr (inr (inl (record { ended = c.end.ensures ∙ ap (λ s. ended_with c.args.self.now.streams.ended s) c.stream_of.ensures; is = refl })))) c.refuse.ensures.told,
      ),
    )
