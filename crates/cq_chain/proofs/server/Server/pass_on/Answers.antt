-- The entry goes to the successor, and its answer to the clients if the server acts.
use Rattle.std.proofs.Common.{◌∙◌, ◌≡◌, ◌+◌, ◌∷◌, ◌++◌, [], sym, refl, true, false, length, length-append}
use Rattle.cq_base.specs.declared.party.Party.TheVariants as parties
use Rattle.cq_chain.specs.declared.message.Answer.{Answer}
use Rattle.cq_chain.specs.Messages as sent
use Rattle.cq_chain.specs.Servers.{acts}
use Rattle.cq_chain.specs.Steps.{to_server, appended, answer_to}
use Rattle.cq_chain.proofs.Mailing.{posts-then, posts-none}
use Rattle.cq_chain.proofs.ServerStands.{parts, with_posts, passes-answer, passes-none}
use Rattle.cq_chain.proofs.server.Server.pass_on.Goals as goal

pub returns-then-is_acting-clause-stands : goal.returns-then-is_acting-clause-stands
returns-then-is_acting-clause-stands c = λ s outbox e h replied client number copy.
    let p = parts c.args.self.now (appended s e) outbox h in
    let first = to_server c.args.self.now.succ (sent.Fwd c.count-length.result e) in
    let answer : Answer = record { client = c.args.client; number = c.args.number; is_query = false; length = c.count-length.result; reply = c.args.reply } in
    let place : c.count-length.result ≡ length s.entries + 1 = c.count-length.ensures ∙ p.entries.store.count ∙ length-append s.entries (e ∷ []) in
    let mid = with_posts c.args.self.now (appended s e) outbox c.forward.new.outboxes first first h (c.forward.ensures.posts e copy) refl in
    let acting : acts (appended s e) ≡ true = sym (c.is_acting.ensures (appended s e) _ mid) ∙ c.if-is_acting.true in
    let is : answer ≡ answer_to s.entries e = rw (place, replied, client, number) in
    with_posts c.args.self.now (appended s e) outbox c.push.new.self (first ++ (parties.Clients, sent.Answers answer) ∷ []) _ h
    (posts-then c.args.self.now.outboxes c.forward.new.outboxes c.push.new.self first ((parties.Clients, sent.Answers answer) ∷ []) (c.forward.ensures.posts e copy) (c.push.ensures.posts (sent.Answers answer) refl))
    (passes-answer s e c.args.self.now.succ c.count-length.result answer acting p.succ place is)

pub returns-else-is_acting-clause-stands : goal.returns-else-is_acting-clause-stands
returns-else-is_acting-clause-stands c = λ s outbox e h replied client number copy.
    let p = parts c.args.self.now (appended s e) outbox h in
    let first = to_server c.args.self.now.succ (sent.Fwd c.count-length.result e) in
    let place : c.count-length.result ≡ length s.entries + 1 = c.count-length.ensures ∙ p.entries.store.count ∙ length-append s.entries (e ∷ []) in
    let mid = with_posts c.args.self.now (appended s e) outbox c.forward.new.outboxes first first h (c.forward.ensures.posts e copy) refl in
    let acting : acts (appended s e) ≡ false = sym (c.is_acting.ensures (appended s e) _ mid) ∙ c.if-is_acting.false in
    with_posts c.args.self.now (appended s e) outbox c.forward.new.outboxes (first ++ []) _ h
    (posts-then c.args.self.now.outboxes c.forward.new.outboxes c.forward.new.outboxes first [] (c.forward.ensures.posts e copy) (posts-none c.forward.new.outboxes))
    (passes-none s e c.args.self.now.succ c.count-length.result acting p.succ place)
