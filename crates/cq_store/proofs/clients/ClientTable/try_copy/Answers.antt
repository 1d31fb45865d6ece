-- Each entry is inserted into the copy, which then finds what the map does.
use Rattle.std.proofs.Common.{◌≡◌, ◌∙◌, ap, arith, length, nat_eq, refl}
use Rattle.cq_store.specs.Stands.{client_at}
use Rattle.cq_store.proofs.Copies.{copied-more, copied-all, clients-told}
use Rattle.cq_store.proofs.clients.ClientTable.try_copy.Goals as goal

pub loop-i-preserved : goal.loop-i-preserved
loop-i-preserved c = copied-more nat_eq clients-told c.self.inside.kept.entries c.loop-i.kept.entries c.insert.new.self.entries c.loop-i.i c.in-Some.client.now c.in-Some.client.now c.in-Some.reply.now c.in_ok-try_copy-in-Some.field-0
    c.in-Some.ensures.entry c.in-Some.ensures.value refl c.in_ok-try_copy-in-Some.ensures c.in_ok-insert-in-Some.ensures.updates.0 c.loop-i.invariant

pub returns : goal.returns
returns c = λ client.
    let all : c.loop-i.i ≡ length c.self.inside.kept.entries = omega (arith, c.loop-i-test.false, c.loop-i.auto.i-end, c.len-i-end.ensures.len) in
    copied-all nat_eq c.self.inside.kept.entries c.loop-i.kept.entries c.loop-i.i all c.loop-i.invariant client ∙ ap (λ cs. client_at cs.kept client) c.self.view_is
