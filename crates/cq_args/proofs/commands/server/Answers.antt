use Rattle.std.proofs.Common.{ap₂, ◌∙◌}
use Rattle.std.proofs.lemmas.Result.{IfOk-weaker}
use Rattle.clap.specs.Words.{with_rule}
use Rattle.cq_args.proofs.commands.server.Goals as goal

pub returns-clause-app : goal.returns-clause-app
returns-clause-app c =
    IfOk-weaker c.arg.result _ _ (λ command adds. adds.shape c.wire_option.ensures.local
    ∙ ap₂ with_rule c.in_ok-command.ensures.app c.wire_option.ensures.rule) c.arg.ensures
