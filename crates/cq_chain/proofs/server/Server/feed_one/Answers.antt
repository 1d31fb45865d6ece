-- The successor is sent the whole history.
use Rattle.std.proofs.Common.{◌∷◌, [], refl, subst, sym}
use Rattle.cq_base.specs.declared.party.Party.TheVariants as parties
use Rattle.cq_chain.specs.Messages as sent
use Rattle.cq_chain.specs.Stands.{IsSnapshot}
use Rattle.cq_chain.proofs.Mailing.{posts-after}
use Rattle.cq_chain.proofs.OrderStands.{feeding-stands}
use Rattle.cq_chain.proofs.ServerStands.{parts, on_err, with_room}
use Rattle.cq_store.specs.Stands as stores
use Rattle.cq_chain.proofs.server.Server.feed_one.Goals as goal

pub returns-in_err-reserve-clause-err : goal.returns-in_err-reserve-clause-err
returns-in_err-reserve-clause-err c = on_err c.from_residual-in_err-reserve.result (λ s outbox h. with_room c.args.self.now s outbox c.reserve.new.self h c.in_err-reserve.ensures.keeps)

pub returns-clause-ok : goal.returns-clause-ok
returns-clause-ok c = λ s outbox h.
    let state = c.in_ok-state.ensures s.entries (subst (λ store. stores.StandsFor store s.entries) (sym c.store.ensures) (parts c.args.self.now s outbox h).entries.store) in
    let snapshot : IsSnapshot c.in_ok-state.state (sent.Snap s.entries) = record { entries = s.entries; is = refl; stands = state } in
    feeding-stands c.args.self.now s outbox c.push.new.self c.args.succ h
    (posts-after c.args.self.now.outboxes c.reserve.new.self c.push.new.self ((parties.Server c.args.succ, sent.Snap s.entries) ∷ []) c.in_ok-reserve.ensures.keeps (c.push.ensures.posts (sent.Snap s.entries) snapshot))
