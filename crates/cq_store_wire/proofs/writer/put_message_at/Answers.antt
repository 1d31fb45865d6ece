use Rattle.std.proofs.Common.{ap, sym, refl}
use Rattle.cq_base.specs.queue.Messages.{Message}
use Rattle.cq_store_wire.specs.Order.{parts_from}
use Rattle.cq_store_wire.proofs.Places.{message-next-at, messages-done, messages-none, same-next}
use Rattle.cq_store_wire.proofs.writer.put_message_at.Goals as goal

pub returns-in_ok-put_message-in-Some-after-clause-ok : goal.returns-in_ok-put_message-in-Some-after-clause-ok
returns-in_ok-put_message-in-Some-after-clause-ok c =
    λ known. message-next-at c.args.store.now known c.args.name c.args.after c.message.inside.sequence c.in-Some.queue.now c.in-Some-after.message.now c.messages.result.now c.args.out.now.value c.put_message.new.out.value (ap (λ (m : Message). m.sequence) (sym c.message.view_is)) c.messages.ensures.messages (sym c.in-Some.ensures) c.in-Some-after.ensures.some c.message_fits.ensures c.in_ok-put_message-in-Some-after.ensures.ok

pub returns-in-None-after-clause-ok : goal.returns-in-None-after-clause-ok
returns-in-None-after-clause-ok c =
    λ known. same-next c.put_accepted_at.result _ _ (parts_from c.args.store.now known) _ _ (messages-done c.args.store.now known c.args.name c.args.after c.in-Some.queue.now c.messages.result.now c.messages.ensures.messages (sym c.in-Some.ensures) (c.in-None-after.ensures.none refl)) (c.put_accepted_at.ensures.ok known)

pub returns-in-None-clause-ok : goal.returns-in-None-clause-ok
returns-in-None-clause-ok c =
    λ known. same-next c.put_accepted_at-in-None.result _ _ (parts_from c.args.store.now known) _ _ (messages-none c.args.store.now known c.args.name c.args.after (sym c.in-None.ensures)) (c.put_accepted_at-in-None.ensures.ok known)
