use Rattle.std.proofs.Common.{rules, ap, ap₂, ◌≡◌, ◌∙◌}
use Rattle.std.proofs.lemmas.Result.{IfOk-weaker}
use Rattle.clap.specs.Words.{App, app_of, with_subcommand}
use Rattle.cq_args.specs.CommandLine.{bare_app}
use Rattle.cq_args.proofs.commands.serving_program.Goals as goal

pub returns : goal.returns
returns c =
    let bare_is : app_of c.about.result ≡ bare_app = search rules in
    let with_replay = c.in_ok-subcommand.ensures.shape c.in_ok-replay.ensures.local
    ∙ ap₂ with_subcommand bare_is (ap (λ (a : App). a.top) c.in_ok-replay.ensures.app) in
    let with_session = c.in_ok-subcommand-2.ensures.shape c.in_ok-session.ensures.local
    ∙ ap₂ with_subcommand with_replay (ap (λ (a : App). a.top) c.in_ok-session.ensures.app) in
    IfOk-weaker c.subcommand-3.result _ _ (λ command adds. adds.shape c.in_ok-live.ensures.local
    ∙ ap₂ with_subcommand with_session (ap (λ (a : App). a.top) c.in_ok-live.ensures.app)) c.subcommand-3.ensures
