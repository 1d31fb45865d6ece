-- A fresh entry acts, and any other is answered again.
use Rattle.std.proofs.Common.{◌∙◌, sym, subst}
use Rattle.cq_base.specs.queue.History.{history}
use Rattle.cq_store.specs.Stands.{StoreKept, StandsFor, client_at}
use Rattle.cq_store.proofs.StoreStands.{again-fresh, again-idle, idle-stands, replied}
use Rattle.cq_store.proofs.store.Store.apply.Goals as goal

pub returns-in-Some-clause-ok : goal.returns-in-Some-clause-ok
returns-in-Some-clause-ok c = λ entries h.
    let e = c.args.entry.now in
    let kept : StoreKept = record { count = c.self.inside.count; last = c.self.inside.last; clients = c.self.inside.clients.kept; queues = c.self.inside.queues } in
    let inside : StandsFor kept entries = subst (λ k. StandsFor k entries) (sym c.self.view_is) h in
    let said = again-idle (client_at c.self.inside.clients.kept e.request.client) (history entries) e c.in-Some.reply (inside.clients e.request.client) (sym c.in_ok-reply.ensures ∙ c.in-Some.is) in
    (replied entries e c.in-Some.reply said.1, idle-stands c.args.self.now c.pass.new.self entries e h c.requires.stamped said.0 c.pass.ensures.count c.pass.ensures.last c.pass.ensures.clients c.pass.ensures.queues)

pub returns-in-None-clause-ok : goal.returns-in-None-clause-ok
returns-in-None-clause-ok c = λ entries h.
    let e = c.args.entry.now in
    let kept : StoreKept = record { count = c.self.inside.count; last = c.self.inside.last; clients = c.self.inside.clients.kept; queues = c.self.inside.queues } in
    let inside : StandsFor kept entries = subst (λ k. StandsFor k entries) (sym c.self.view_is) h in
    c.apply_fresh.ensures.ok entries h (again-fresh (client_at c.self.inside.clients.kept e.request.client) (history entries) e (inside.clients e.request.client) (sym c.in_ok-reply.ensures ∙ c.in-None.is))
