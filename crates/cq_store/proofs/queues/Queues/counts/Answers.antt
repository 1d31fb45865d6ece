-- The counts are those of the name.
use Rattle.std.proofs.Common.{◌∙◌, ap, sym, subst, refl}
use Rattle.cq_base.specs.declared.reply.Reply.TheVariants.{Refused}
use Rattle.cq_base.specs.declared.reply.Refusal.TheVariants.{QueueDoesNotExist}
use Rattle.cq_store.specs.within.Asked.{IsCount}
use Rattle.cq_store.specs.within.Rooms.{CameBy}
use Rattle.cq_store.specs.Stands.{name_at, or_unknown, unknown}
use Rattle.cq_store.proofs.AsksStand.{uncounted}
use Rattle.cq_store.proofs.Lookups.{found}
use Rattle.cq_store.proofs.queues.Queues.counts.Goals as goal

pub counts-requires : goal.counts-requires
counts-requires c = subst (λ o. CameBy c.args.moment (or_unknown o).living) (found c.self.inside.kept.entries c.args.self.now c.args.queue.now c.args.queue.now c.in-Some.name.now c.self.view_is refl c.in-Some.ensures.value) c.requires

pub returns-in-Some : goal.returns-in-Some
returns-in-Some c = subst (λ o. IsCount (or_unknown o) c.args.moment c.counts.result) (sym (found c.self.inside.kept.entries c.args.self.now c.args.queue.now c.args.queue.now c.in-Some.name.now c.self.view_is refl c.in-Some.ensures.value)) c.counts.ensures

pub returns-in-None : goal.returns-in-None
returns-in-None c = subst (λ o. IsCount (or_unknown o) c.args.moment (Refused QueueDoesNotExist)) (c.in-None.ensures.value ∙ ap (λ es. name_at es c.args.queue.now) c.self.view_is) (uncounted unknown c.args.moment refl)
