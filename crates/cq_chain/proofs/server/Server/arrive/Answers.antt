-- By the head and by the length of the history.
use Rattle.std.proofs.Common.{◌∙◌, sym}
use Rattle.cq_chain.proofs.ServerStands.{parts}
use Rattle.cq_chain.proofs.ServerRefusals.{no_memory, refused-elsewhere, refused-full, not-refused}
use Rattle.cq_store.specs.Stands.{count_of}
use Rattle.cq_chain.proofs.server.Server.arrive.Goals as goal

pub returns-then-not-self-clause-refused : goal.returns-then-not-self-clause-refused
returns-then-not-self-clause-refused c = λ s outbox h. refused-elsewhere s (sym (parts c.args.self.now s outbox h).head ∙ c.if-not-self.true)

pub returns-then-is_at_limit-clause-refused : goal.returns-then-is_at_limit-clause-refused
returns-then-is_at_limit-clause-refused c = λ s outbox h. let p = parts c.args.self.now s outbox h in
    refused-full s (count_of c.args.self.now.replica.store) (sym p.head ∙ c.if-not-self.false) p.entries.store.count (sym c.is_at_limit.ensures ∙ c.if-is_at_limit.true)

pub returns-in_err-append_request-clause-refused : goal.returns-in_err-append_request-clause-refused
returns-in_err-append_request-clause-refused c = λ s outbox h. let p = parts c.args.self.now s outbox h in
    no_memory c.from_residual.result _ c.from_residual.ensures.1 (not-refused s (count_of c.args.self.now.replica.store) (sym p.head ∙ c.if-not-self.false) p.entries.store.count (sym c.is_at_limit.ensures ∙ c.if-is_at_limit.false))

pub returns-clause-refused : goal.returns-clause-refused
returns-clause-refused c = λ s outbox h. let p = parts c.args.self.now s outbox h in
    not-refused s (count_of c.args.self.now.replica.store) (sym p.head ∙ c.if-not-self.false) p.entries.store.count (sym c.is_at_limit.ensures ∙ c.if-is_at_limit.false)
