-- A known name is written in its place.
use Rattle.std.proofs.Common.{◌-◌, ◌≡◌, ◌+◌, ◌∙◌, ap, sym, subst, Some}
use Rattle.std.specs.Option.{is_some}
use Rattle.std.specs.Str.{bytes_eq}
use Rattle.cq_base.specs.declared.limits.TheConstants.{HISTORY_LIMIT}
use Rattle.cq_base.specs.queue.Asks.{queue_of}
use Rattle.cq_store.specs.within.Asked.{IsAnswer}
use Rattle.cq_store.specs.Parts.{IsWithin}
use Rattle.cq_store.specs.Stands.{name_at, or_unknown}
use Rattle.cq_store.proofs.Lookups.{found, written, bounded, if_ok}
use Rattle.cq_store.proofs.queues.Queues.apply.Goals as goal

pub apply-requires : goal.apply-requires
apply-requires c = record { room = subst (λ o. IsWithin (HISTORY_LIMIT - 1) c.args.moment (or_unknown o)) (found c.self.inside.kept.entries c.args.self.now c.queue.result.now (queue_of c.args.ask.now) c.in-Some.name.now c.self.view_is c.queue.ensures c.in-Some.ensures.value) c.requires }

pub returns-in-Some-clause-ok : goal.returns-in-Some-clause-ok
returns-in-Some-clause-ok c =
    let w = c.get_mut.follows.holds c.apply.new.self in
    let u = w.3 (sym (ap is_some c.in-Some.ensures.value)) in
    let before = found c.self.inside.kept.entries c.args.self.now c.queue.result.now (queue_of c.args.ask.now) c.in-Some.name.now c.self.view_is c.queue.ensures c.in-Some.ensures.value in
    let after : name_at (c.get_mut.follows.lender c.apply.new.self).entries (queue_of c.args.ask.now) ≡ Some c.apply.new.self = ap (λ q. name_at (c.get_mut.follows.lender c.apply.new.self).entries q) (sym c.queue.ensures) ∙ u.1 in
    if_ok (λ answered. IsAnswer c.in-Some.name.now c.apply.new.self c.args.moment c.args.ask.now answered.reply)
    (λ answered. IsAnswer (or_unknown (name_at c.args.self.now (queue_of c.args.ask.now))) (or_unknown (name_at (c.get_mut.follows.lender c.apply.new.self).entries (queue_of c.args.ask.now))) c.args.moment c.args.ask.now answered.reply)
    c.apply.result
    (λ answered h. written (name_at c.args.self.now (queue_of c.args.ask.now)) (name_at (c.get_mut.follows.lender c.apply.new.self).entries (queue_of c.args.ask.now)) c.in-Some.name.now c.apply.new.self c.args.moment c.args.ask.now answered.reply before after h)
    c.apply.ensures.ok

pub returns-in-Some-clause-others : goal.returns-in-Some-clause-others
returns-in-Some-clause-others c = λ queue other.
    let w = c.get_mut.follows.holds c.apply.new.self in
    let u = w.3 (sym (ap is_some c.in-Some.ensures.value)) in
    u.2 queue (ap (λ q. bytes_eq q queue) c.queue.ensures ∙ other) ∙ ap (λ es. name_at es queue) c.self.view_is

pub returns-in-Some-clause-within : goal.returns-in-Some-clause-within
returns-in-Some-clause-within c = λ count within.
    let w = c.get_mut.follows.holds c.apply.new.self in
    let u = w.3 (sym (ap is_some c.in-Some.ensures.value)) in
    let before = found c.self.inside.kept.entries c.args.self.now c.queue.result.now (queue_of c.args.ask.now) c.in-Some.name.now c.self.view_is c.queue.ensures c.in-Some.ensures.value in
    let after : name_at (c.get_mut.follows.lender c.apply.new.self).entries (queue_of c.args.ask.now) ≡ Some c.apply.new.self = ap (λ q. name_at (c.get_mut.follows.lender c.apply.new.self).entries q) (sym c.queue.ensures) ∙ u.1 in
    bounded (name_at c.args.self.now (queue_of c.args.ask.now)) (name_at (c.get_mut.follows.lender c.apply.new.self).entries (queue_of c.args.ask.now)) c.in-Some.name.now c.apply.new.self count (count + 1) c.args.moment before after (c.apply.ensures.within count) within
