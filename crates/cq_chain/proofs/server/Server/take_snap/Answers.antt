-- By whether the snapshot is taken.
use Rattle.std.proofs.Common.{◌∙◌, subst, sym}
use Rattle.cq_chain.proofs.OrderStands.{restoring-of, takes-restoring, takes-no_snapshot}
use Rattle.cq_chain.proofs.ServerStands.{stands-by, nothing-sent}
use Rattle.cq_store.specs.Stands as stores
use Rattle.cq_chain.proofs.server.Server.take_snap.Goals as goal

pub returns-then-not-is_restoring-clause-ok : goal.returns-then-not-is_restoring-clause-ok
returns-then-not-is_restoring-clause-ok c = λ es is s outbox h.
    let other = sym (restoring-of s c.args.self.now outbox c.args.from c.args.state.now es h is) ∙ sym c.is_restoring.ensures ∙ c.if-not-is_restoring.true in
    stands-by c.args.self.now outbox _ _ (takes-no_snapshot s c.args.from es other) (nothing-sent c.args.self.now s outbox h)

pub returns-clause-ok : goal.returns-clause-ok
returns-clause-ok c = λ es is s outbox h.
    let yes = sym (restoring-of s c.args.self.now outbox c.args.from c.args.state.now es h is) ∙ sym c.is_restoring.ensures ∙ c.if-not-is_restoring.false in
    let copied = c.in_ok-store.ensures.stands es (subst (λ state. stores.StandsFor state es) (sym c.store.ensures) is) in
    stands-by c.restore.new.self outbox _ _ (takes-restoring s c.args.from es yes) (c.restore.ensures es copied s outbox (c.reserve.ensures.keeps s outbox h))
