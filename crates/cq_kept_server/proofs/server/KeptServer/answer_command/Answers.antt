-- It means nothing to the only server of a chain.
use Rattle.std.proofs.Common.{inr, refl, sym, ◌∙◌}
use Rattle.cq_kept_server.specs.Servers.{device_of, state_of}
use Rattle.cq_kept_server.proofs.Answered.{refused_goes}
use Rattle.cq_kept_server.proofs.server.KeptServer.answer_command.Goals as goal

pub returns-then-not-is_here-clause-tells : goal.returns-then-not-is_here-clause-tells
returns-then-not-is_here-clause-tells g c =
    let p = state_of c.args.self.now in (
      _,
      (
        refl,
        refused_goes p p c.args.bytes.now _ _ (λ f. g.met.D.Device.only_now (device_of p) f) c.requires.ready refl refl refl
            (inr (inr (inr (record { command = c.args.command.now; read = c.requires.read; elsewhere = sym c.is_here.ensures ∙ c.if-not-is_here.true; ended = refl; is = refl })))) c.refuse.ensures.told,
      ),
    )
