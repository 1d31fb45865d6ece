-- The message comes behind all others, and then it gets its timeout.
use Rattle.std.proofs.Common.{◌∙◌, ◌<◌, ◌++◌, [], ◌∷◌, ap, sym, subst, map}
use Rattle.cq_messages.specs.Changes.{hidden_until}
use Rattle.cq_messages.proofs.Afters.{hidden-last}
use Rattle.cq_messages.proofs.messages.Messages.restore.Goals as goal

pub push-requires-clause-order : goal.push-requires-clause-order
push-requires-clause-order c = λ m a. subst (λ x. m.sequence < x.sequence) (sym c.message.view_is) (c.requires.order m a)

pub returns-then-until-gt0-clause-ok : goal.returns-then-until-gt0-clause-ok
returns-then-until-gt0-clause-ok c =
    c.hide.ensures ∙ ap (map (hidden_until c.message.inside.sequence c.message.inside.until)) c.in_ok-push.ensures.ok
    ∙ hidden-last c.args.self.now _ c.message.inside.until (λ m a. subst (λ x. m.sequence < x.sequence) (sym c.message.view_is) (c.requires.order m a))
    ∙ ap (λ m. c.args.self.now ++ m ∷ []) c.message.view_is
