-- No message is behind the number before the new one's just where all are before that one.
use Rattle.std.proofs.Common.{◌<◌, ◌≤◌, arith, subst, sym}
use Rattle.std.specs.List.{All}
use Rattle.cq_base.specs.queue.Incarnations.{Incarnation}
use Rattle.cq_base.specs.queue.Messages.{Message}
use Rattle.cq_queue.proofs.Parts.{all-before, among-before, next-message, none-behind}
use Rattle.cq_queue.proofs.queue.Queue.restore_message.Goals as goal

pub returns-then-is_some-clause-only : goal.returns-then-is_some-clause-only
returns-then-is_some-clause-only c = λ _ next.
    let n = c.message.inside.sequence in
    none-behind n c.self.inside.messages c.after.result c.if-is_some.ensures c.after.ensures.some
    (subst (λ (q : Incarnation). All (λ x. x.sequence < n) q.messages) (sym c.self.view_is)
    (subst (λ (y : Message). All (λ x. x.sequence < y.sequence) c.args.self.now.messages) (sym c.message.view_is) next.later))

pub restore-requires : goal.restore-requires
restore-requires c =
    let n = c.message.inside.sequence in
    let all = all-before n c.self.inside.messages c.message.invariant.0 (c.after.ensures.none (sym c.if-is_some.ensures)) in
    record { order = λ m a. subst (λ (y : Message). m.sequence < y.sequence) c.message.view_is (among-before n c.self.inside.messages all m a) }

pub returns-clause-next : goal.returns-clause-next
returns-clause-next c = λ _.
    let n = c.message.inside.sequence in
    let all = all-before n c.self.inside.messages c.message.invariant.0 (c.after.ensures.none (sym c.if-is_some.ensures)) in
    let sent : n ≤ c.self.inside.sent = omega (arith, c.if-message-self.false) in
    let handed : c.message.inside.handings ≤ c.self.inside.used = omega (arith, c.if-message-self-2.false) in
    next-message _ _ _ _ c.self.view_is c.message.view_is all sent handed
