-- The messages of the slots are in order.
use Rattle.std.proofs.Common.{◌∙◌, ap, subst, arith}
use Rattle.std.specs.List.{find}
use Rattle.cq_messages.specs.Ordered.{IsRising, is_after}
use Rattle.cq_messages.specs.Slots.{live}
use Rattle.cq_messages.proofs.Rising.{live-rising}
use Rattle.cq_messages.proofs.Afters.{after-some, after-none, all-later}
use Rattle.cq_messages.proofs.messages.Messages.after.Goals as goal

pub returns-clause-rising : goal.returns-clause-rising
returns-clause-rising c = subst (IsRising 0) c.self.view_is (live-rising 0 c.self.inside.slots.items c.self.invariant.0.ascending)

pub returns-clause-all : goal.returns-clause-all
returns-clause-all c = all-later 0 0 c.args.self.now (returns-clause-rising c) (omega arith)

pub returns-clause-some : goal.returns-clause-some
returns-clause-some c =
    after-some c.args.sequence c.args.self.now c.first_after.result (returns-clause-rising c)
    (c.first_after.ensures ∙ ap (λ ss. find (is_after c.args.sequence) (live ss)) c.deref.ensures.value ∙ ap (find (is_after c.args.sequence)) c.self.view_is)

pub returns-clause-none : goal.returns-clause-none
returns-clause-none c =
    after-none c.args.sequence c.args.self.now c.first_after.result
    (c.first_after.ensures ∙ ap (λ ss. find (is_after c.args.sequence) (live ss)) c.deref.ensures.value ∙ ap (find (is_after c.args.sequence)) c.self.view_is)
