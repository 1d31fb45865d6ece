-- The answer to a query is put behind what waits for the clients.
use Rattle.std.proofs.Common.{refl, true}
use Rattle.cq_chain.specs.declared.message.Answer.{Answer}
use Rattle.cq_chain.specs.Messages as sent
use Rattle.cq_chain.proofs.ServerStands.{parts, on_err, with_room, asked-stands}
use Rattle.cq_chain.proofs.server.Server.answer.Goals as goal

pub returns-in_err-reserve-clause-err : goal.returns-in_err-reserve-clause-err
returns-in_err-reserve-clause-err c = on_err c.from_residual.result (λ s outbox h. with_room c.args.self.now s outbox c.reserve.new.self h c.in_err-reserve.ensures.keeps)

pub returns-clause-ok : goal.returns-clause-ok
returns-clause-ok c = λ s outbox h.
    let p = parts c.args.self.now s outbox h in
    let query = c.args.query.now in
    let answer : Answer = record { client = query.client; number = query.tag; is_query = true; length = c.count.result; reply = c.query.result } in
    asked-stands c.args.self.now c.push.new.self c.reserve.new.self query s outbox answer h c.in_ok-reserve.ensures.keeps (c.push.ensures.posts (sent.Answers answer) refl)
    (rw (c.count.ensures, p.entries.store.count, c.query.ensures s.entries p.entries.store))
