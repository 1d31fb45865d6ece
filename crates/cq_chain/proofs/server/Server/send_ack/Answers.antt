-- By whether the server acted before.
use Rattle.std.proofs.Common.{◌∙◌, ◌∷◌, ◌++◌, [], sym, refl}
use Rattle.cq_base.specs.declared.party.Party.TheVariants as parties
use Rattle.cq_chain.specs.Messages as sent
use Rattle.cq_chain.specs.Steps.{to_server}
use Rattle.cq_chain.proofs.Mailing.{posts-then, posts-none}
use Rattle.cq_chain.proofs.ServerStands.{parts, with_posts, tells-ready, tells-place}
use Rattle.cq_chain.proofs.server.Server.send_ack.Goals as goal

pub returns-then-not-acted : goal.returns-then-not-acted
returns-then-not-acted c = λ old now outbox h acted same.
    let p = parts c.args.self.now now outbox h in
    let first = to_server c.args.self.now.pred (sent.Ack c.count-place.result) in
    with_posts c.args.self.now now outbox c.push.new.self (first ++ (parties.Master, sent.Ready) ∷ []) _ h
    (posts-then c.args.self.now.outboxes c.push_server.new.self c.push.new.self first ((parties.Master, sent.Ready) ∷ []) (c.push_server.ensures.posts (sent.Ack c.count-place.result) refl) (c.push.ensures.posts sent.Ready refl))
    (tells-ready old now c.args.self.now.pred c.count-place.result (sym (c.is_acting.ensures now outbox h) ∙ c.if-is_acting.true) (sym acted ∙ c.if-not-acted.true) (p.pred ∙ sym same) (c.count-place.ensures ∙ p.entries.store.count))

pub returns-else-not-acted : goal.returns-else-not-acted
returns-else-not-acted c = λ old now outbox h acted same.
    let p = parts c.args.self.now now outbox h in
    let first = to_server c.args.self.now.pred (sent.Ack c.count-place.result) in
    with_posts c.args.self.now now outbox c.push_server.new.self (first ++ []) _ h
    (posts-then c.args.self.now.outboxes c.push_server.new.self c.push_server.new.self first [] (c.push_server.ensures.posts (sent.Ack c.count-place.result) refl) (posts-none c.push_server.new.self))
    (tells-place old now c.args.self.now.pred c.count-place.result (sym (c.is_acting.ensures now outbox h) ∙ c.if-is_acting.true) (sym acted ∙ c.if-not-acted.false) (p.pred ∙ sym same) (c.count-place.ensures ∙ p.entries.store.count))
