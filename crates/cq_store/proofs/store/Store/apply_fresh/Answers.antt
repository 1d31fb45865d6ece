-- A fresh entry is answered by its name, and its reply kept.
use Rattle.std.proofs.Common.{◌≤◌, ◌∙◌, ap, sym, subst, refl, cond, Some, ◌==◌, ◌+◌}
use Rattle.cq_base.specs.queue.Asks.{queue_of}
use Rattle.cq_store.specs.Stands.{StoreKept, StandsFor, client_at}
use Rattle.cq_store.proofs.StoreStands.{fresh-stands, unchanged, on_err, within-all}
use Rattle.cq_store.proofs.store.Store.apply_fresh.Goals as goal

pub returns-in_err-answered-clause-err : goal.returns-in_err-answered-clause-err
returns-in_err-answered-clause-err c = λ entries h.
    let kept : StoreKept = record { count = c.self.inside.count; last = c.self.inside.last; clients = c.self.inside.clients.kept; queues = c.self.inside.queues } in
    let inside : StandsFor kept entries = subst (λ k. StandsFor k entries) (sym c.self.view_is) h in
    on_err _ c.from_residual-in_err-answered.result (unchanged c.self.inside.count c.self.inside.last c.self.inside.clients.kept c.reserve.new.self.kept c.self.inside.queues c.apply.new.self (queue_of c.args.entry.now.request.ask) entries c.reserve.ensures.same c.in_err-answered.ensures.err c.in_err-answered.ensures.others inside)

pub invariant_of-self-2 : goal.invariant_of-self-2
invariant_of-self-2 c = within-all c.self.inside.count c.self.inside.last c.args.entry.now.moment c.self.inside.queues c.apply.new.self (queue_of c.args.entry.now.request.ask) (subst (λ s. s.last ≤ c.args.entry.now.moment) (sym c.self.view_is) c.requires.stamped) c.self.invariant c.in_ok-answered.ensures.within c.in_ok-answered.ensures.others

pub returns-clause-ok : goal.returns-clause-ok
returns-clause-ok c = λ entries h fresh.
    let e = c.args.entry.now in
    let kept : StoreKept = record { count = c.self.inside.count; last = c.self.inside.last; clients = c.self.inside.clients.kept; queues = c.self.inside.queues } in
    let new : StoreKept = record { count = c.self.inside.count + 1; last = e.moment; clients = c.keep.new.self.kept; queues = c.apply.new.self } in
    let inside : StandsFor kept entries = subst (λ k. StandsFor k entries) (sym c.self.view_is) h in
    fresh-stands kept new entries e c.in_ok-answered.answered.reply inside (subst (λ s. s.last ≤ e.moment) (sym c.self.view_is) c.requires.stamped) fresh (record {
      count = refl;
      last = refl;
      clients = λ client. c.keep.ensures client
          ∙ ap (λ r. cond (e.request.client == client) (Some (record { number = e.request.number; reply = r })) (client_at c.reserve.new.self.kept client)) c.in_ok-answered.ensures.kept
          ∙ ap (λ cs. cond (e.request.client == client) (Some (record { number = e.request.number; reply = c.in_ok-answered.answered.reply })) (client_at cs client)) c.reserve.ensures.same;
      own = c.in_ok-answered.ensures.ok;
      others = c.in_ok-answered.ensures.others;
    })
