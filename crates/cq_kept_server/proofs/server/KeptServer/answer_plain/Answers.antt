-- The process answers, and no entry comes.
use Rattle.std.proofs.Common.{ap}
use Rattle.std.specs.Prelude.{option_map}
use Rattle.std.proofs.lemmas.Result.{on_err_weaker, on_ok_weaker}
use Rattle.cq_kept_entries.specs.Kept.{entries_journal}
use Rattle.cq_kept_server.specs.Servers.{device_of, state_of}
use Rattle.cq_kept_server.proofs.Answered.{plain_goes}
use Rattle.cq_kept_server.proofs.Moments.{stops_here}
use Rattle.cq_kept_server.proofs.server.KeptServer.answer_plain.Goals as goal

pub returns-clause-tells : goal.returns-clause-tells
returns-clause-tells g c =
    let p = state_of c.args.self.now in
    on_ok_weaker c.pass_on.result
    (λ told. (told.0, (told.1.0, plain_goes p (state_of c.pass_on.new.self) (option_map (λ bytes. bytes.now) c.args.frame) told.0 (λ f. g.met.D.Device.only_now (device_of p) f) c.requires.ready c.pass_on.ensures.kept (ap (λ s. s.ended) c.pass_on.ensures.streams) c.requires.plain told.1.1)))
    c.pass_on.ensures.tells

pub returns-clause-stops : goal.returns-clause-stops
returns-clause-stops g c =
    let p = state_of c.args.self.now in
    on_err_weaker c.pass_on.result (λ _ ready. stops_here p (state_of c.pass_on.new.self) (λ f. g.met.D.Device.only_now (device_of p) f) (ap (λ it. entries_journal it) c.pass_on.ensures.kept) ready) c.pass_on.ensures.err
