-- By whether it is news.
use Rattle.std.proofs.Common.{◌≡◌, ◌∙◌, ap, refl, subst, min, max, length, arith}
use Rattle.std.proofs.lemmas.Bool.{lt-ltb, le-ltb}
use Rattle.cq_chain.specs.Messages as sent
use Rattle.cq_chain.specs.within.Replicas.{Recalls}
use Rattle.cq_chain.proofs.ServerStands.{parts, on_err, with_room, ignored-stands, acknowledged-stands}
use Rattle.cq_chain.proofs.server.Server.take_ack.Goals as goal

pub returns-then-place-self-clause-ok : goal.returns-then-place-self-clause-ok
returns-then-place-self-clause-ok c = λ s outbox h.
    let p = parts c.args.self.now s outbox h in
    let n : c.min-place.result ≡ min c.args.place (length s.entries) = c.min-place.ensures ∙ ap (λ k. min c.args.place k) (c.count.ensures ∙ p.entries.store.count) in
    ignored-stands c.args.self.now (min c.args.place (length s.entries)) s outbox h (le-ltb s.acked (min c.args.place (length s.entries)) (omega (arith, n, p.acked, c.if-place-self.true)))

pub returns-in_err-reserve_server-clause-err : goal.returns-in_err-reserve_server-clause-err
returns-in_err-reserve_server-clause-err c = on_err c.from_residual.result (λ s outbox h. with_room c.args.self.now s outbox c.reserve_server.new.self h c.in_err-reserve_server.ensures.keeps)

pub returns-clause-ok : goal.returns-clause-ok
returns-clause-ok c = λ s outbox h.
    let p = parts c.args.self.now s outbox h in
    let n : c.min-place.result ≡ min c.args.place (length s.entries) = c.min-place.ensures ∙ ap (λ k. min c.args.place k) (c.count.ensures ∙ p.entries.store.count) in
    acknowledged-stands c.args.self.now c.push_server.new.self c.reserve_server.new.self (min c.args.place (length s.entries)) c.min-place.result c.forget.new.self s outbox h c.in_ok-reserve_server.ensures.keeps
    (c.push_server.ensures.posts (sent.Ack c.min-place.result) refl) n (subst (λ k. Recalls c.forget.new.self s.entries (max s.floor k)) n (c.forget.ensures.stands s.entries s.floor p.entries (omega (arith, n)))) (lt-ltb s.acked (min c.args.place (length s.entries)) (omega (arith, n, p.acked, c.if-place-self.false)))
