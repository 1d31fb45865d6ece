use Rattle.std.proofs.Common.{ap, ap₂, ◌≡◌, ◌∙◌}
use Rattle.std.proofs.lemmas.Result.{IfOk-weaker}
use Rattle.clap.specs.Words.{App, with_subcommand}
use Rattle.cq_args.proofs.commands.process_program.Goals as goal

pub returns : goal.returns
returns c =
    let with_server = c.in_ok-subcommand.ensures.shape c.in_ok-server.ensures.local
    ∙ ap₂ with_subcommand c.in_ok-program.ensures (ap (λ (a : App). a.top) c.in_ok-server.ensures.app) in
    IfOk-weaker c.subcommand-2.result _ _ (λ command adds. adds.shape c.in_ok-master.ensures.local
    ∙ ap₂ with_subcommand with_server (ap (λ (a : App). a.top) c.in_ok-master.ensures.app)) c.subcommand-2.ensures
