use Rattle.std.proofs.Common.{ap, ap₂, ◌≡◌, ◌∙◌}
use Rattle.std.proofs.lemmas.Result.{IfOk-weaker}
use Rattle.clap.specs.Words.{App, with_subcommand}
use Rattle.cq_args.proofs.commands.journal_program.Goals as goal

pub returns : goal.returns
returns c =
    let with_verify = c.in_ok-subcommand.ensures.shape c.in_ok-verify.ensures.local
    ∙ ap₂ with_subcommand c.in_ok-program.ensures (ap (λ (a : App). a.top) c.in_ok-verify.ensures.app) in
    let with_copy = c.in_ok-subcommand-2.ensures.shape c.in_ok-copy.ensures.local
    ∙ ap₂ with_subcommand with_verify (ap (λ (a : App). a.top) c.in_ok-copy.ensures.app) in
    IfOk-weaker c.subcommand-3.result _ _ (λ command adds. adds.shape c.in_ok-dump.ensures.local
    ∙ ap₂ with_subcommand with_copy (ap (λ (a : App). a.top) c.in_ok-dump.ensures.app)) c.subcommand-3.ensures
