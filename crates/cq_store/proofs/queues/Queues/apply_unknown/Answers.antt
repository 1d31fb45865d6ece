-- A creation makes the name known.
use Rattle.std.proofs.Common.{◌≡◌, ◌+◌, ◌∙◌, ap, sym, subst, Some, arith, refl}
use Rattle.std.specs.Str.{bytes_eq}
use Rattle.cq_base.specs.queue.Asks.{queue_of}
use Rattle.cq_store.specs.Stands.{name_at, or_unknown}
use Rattle.cq_store.specs.Parts.{IsWithin}
use Rattle.cq_store.proofs.AsksStand.{first_kept, unknown_refused, not_create, within-later}
use Rattle.cq_store.proofs.queues.Queues.apply_unknown.Goals as goal

pub returns-in_ok-insert-in-Create-clause-ok : goal.returns-in_ok-insert-in-Create-clause-ok
returns-in_ok-insert-in-Create-clause-ok c =
    let same = c.in_ok-try_copy-in-Create.ensures ∙ sym (ap queue_of c.in-Create.is) in
    first_kept (name_at c.args.self.now (queue_of c.args.ask.now)) (name_at c.insert.new.self.entries (queue_of c.args.ask.now)) c.unknown-name.result c.apply.new.self c.args.moment c.args.ask.now c.in_ok-answered-in-Create.answered.reply
    c.requires c.unknown-name.ensures (subst (λ q. name_at c.insert.new.self.entries q ≡ Some c.apply.new.self) same c.in_ok-insert-in-Create.ensures.updates.1) c.in_ok-answered-in-Create.ensures.ok

pub returns-in_ok-insert-in-Create-clause-others : goal.returns-in_ok-insert-in-Create-clause-others
returns-in_ok-insert-in-Create-clause-others c = λ queue other.
    let same = c.in_ok-try_copy-in-Create.ensures ∙ sym (ap queue_of c.in-Create.is) in
    c.in_ok-insert-in-Create.ensures.updates.2 queue (ap (λ q. bytes_eq q queue) same ∙ other) ∙ ap (λ es. name_at es queue) c.self.view_is

pub returns-in_default : goal.returns-in_default
returns-in_default c = record {
  ok = unknown_refused (name_at c.args.self.now (queue_of c.args.ask.now)) c.args.moment c.args.ask.now c.refused.result.reply c.requires c.refused.ensures.reply (not_create c.args.ask.now c.in_default.not-Create);
  kept = c.refused.ensures.kept ∙ sym c.refused.ensures.reply;
  others = λ queue other. refl;
  within = λ count within. within-later count c.args.moment c.args.moment (or_unknown (name_at c.args.self.now (queue_of c.args.ask.now))) (omega arith) within;
  err = tt;
}

pub returns-in_ok-insert-in-Create-clause-within : goal.returns-in_ok-insert-in-Create-clause-within
returns-in_ok-insert-in-Create-clause-within c = λ count within.
    let same = c.in_ok-try_copy-in-Create.ensures ∙ sym (ap queue_of c.in-Create.is) in
    let known = subst (λ q. name_at c.insert.new.self.entries q ≡ Some c.apply.new.self) same c.in_ok-insert-in-Create.ensures.updates.1 in
    let unknown = ap or_unknown c.requires ∙ sym c.unknown-name.ensures in
    let before = subst (IsWithin count c.args.moment) unknown within in
    subst (λ name. IsWithin (count + 1) c.args.moment (or_unknown name)) (sym known) (c.in_ok-answered-in-Create.ensures.within count before)
