-- By whether the entry is the next one, and by the length of the history.
use Rattle.std.proofs.Common.{◌∙◌, sym, subst}
use Rattle.cq_chain.specs.Stands.{StandsFor, posted}
use Rattle.cq_chain.proofs.ServerStands.{parts, nothing-sent}
use Rattle.cq_chain.proofs.ServerRefusals.{no_memory, next-of, refused-next, next-not-refused, other-not-refused, takes-next, takes-other}
use Rattle.cq_store.specs.Stands.{count_of}
use Rattle.cq_chain.proofs.server.Server.take_fwd.Goals as goal

pub returns-then-not-is_next-clause-refused : goal.returns-then-not-is_next-clause-refused
returns-then-not-is_next-clause-refused c = λ s outbox h. let p = parts c.args.self.now s outbox h in
    let other = sym (next-of s c.args.self.now.pred c.args.self.now.replica.store c.args.from c.args.place c.args.entry.now p.pred p.entries.store) ∙ sym c.is_next.ensures.value ∙ c.if-not-is_next.true in
    other-not-refused s c.args.from c.args.place c.args.entry.now other

pub returns-then-not-is_next-clause-ok : goal.returns-then-not-is_next-clause-ok
returns-then-not-is_next-clause-ok c = λ s outbox h. let p = parts c.args.self.now s outbox h in
    let other = sym (next-of s c.args.self.now.pred c.args.self.now.replica.store c.args.from c.args.place c.args.entry.now p.pred p.entries.store) ∙ sym c.is_next.ensures.value ∙ c.if-not-is_next.true in
    subst (λ step. StandsFor c.args.self.now step.server (posted outbox step.sent)) (sym (takes-other s c.args.from c.args.place c.args.entry.now other)) (nothing-sent c.args.self.now s outbox h)

pub returns-then-is_at_limit-clause-refused : goal.returns-then-is_at_limit-clause-refused
returns-then-is_at_limit-clause-refused c = λ s outbox h. let p = parts c.args.self.now s outbox h in
    let next = sym (next-of s c.args.self.now.pred c.args.self.now.replica.store c.args.from c.args.place c.args.entry.now p.pred p.entries.store) ∙ sym c.is_next.ensures.value ∙ c.if-not-is_next.false in
    refused-next s (count_of c.args.self.now.replica.store) c.args.from c.args.place c.args.entry.now next p.entries.store.count (sym c.is_at_limit.ensures ∙ c.if-is_at_limit.true)

pub returns-in_err-take_next-clause-refused : goal.returns-in_err-take_next-clause-refused
returns-in_err-take_next-clause-refused c = λ s outbox h. let p = parts c.args.self.now s outbox h in
    let next = sym (next-of s c.args.self.now.pred c.args.self.now.replica.store c.args.from c.args.place c.args.entry.now p.pred p.entries.store) ∙ sym c.is_next.ensures.value ∙ c.if-not-is_next.false in
    no_memory c.from_residual.result _ c.from_residual.ensures.1 (next-not-refused s (count_of c.args.self.now.replica.store) c.args.from c.args.place c.args.entry.now next p.entries.store.count (sym c.is_at_limit.ensures ∙ c.if-is_at_limit.false))

pub returns-clause-refused : goal.returns-clause-refused
returns-clause-refused c = λ s outbox h. let p = parts c.args.self.now s outbox h in
    let next = sym (next-of s c.args.self.now.pred c.args.self.now.replica.store c.args.from c.args.place c.args.entry.now p.pred p.entries.store) ∙ sym c.is_next.ensures.value ∙ c.if-not-is_next.false in
    next-not-refused s (count_of c.args.self.now.replica.store) c.args.from c.args.place c.args.entry.now next p.entries.store.count (sym c.is_at_limit.ensures ∙ c.if-is_at_limit.false)

pub returns-clause-ok : goal.returns-clause-ok
returns-clause-ok c = λ s outbox h. let p = parts c.args.self.now s outbox h in
    let next = sym (next-of s c.args.self.now.pred c.args.self.now.replica.store c.args.from c.args.place c.args.entry.now p.pred p.entries.store) ∙ sym c.is_next.ensures.value ∙ c.if-not-is_next.false in
    subst (λ step. StandsFor c.take_next.new.self step.server (posted outbox step.sent)) (sym (takes-next s c.args.from c.args.place c.args.entry.now next)) (c.in_ok-take_next.ensures.ok s outbox h)
