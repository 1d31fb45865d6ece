use Rattle.std.proofs.Common.{◌∙◌, [], ◌∷◌, ◌++◌, map, take, refl, subst, sym, ap, Some}
use Rattle.std.proofs.lemmas.List.{map_more, take_all, length-map}
use Rattle.std.proofs.lemmas.Result.{on_ok_weaker}
use Rattle.serde.specs.Event.{Logs, seq_begins}
use Rattle.cq_answers.specs.Answers.{delivery_data}
use Rattle.cq_answers.specs.within.Parts.{SendsEach}
use Rattle.cq_answers.proofs.Sending.{each-more, items-sent, items-counted}
use Rattle.cq_answers.proofs.reply.write_deliveries.Goals as goal

pub loop-delivery-init : goal.loop-delivery-init
loop-delivery-init g c = refl

pub loop-delivery-preserved : goal.loop-delivery-preserved
loop-delivery-preserved g c =
    let ds = c.args.deliveries.now in
    let i = c.loop-delivery.delivery-index in
    let begun = g.S.Serializer.written c.begin_seq.new.self in
    let now = g.S.Serializer.written c.write_delivery.new.out in
    let more = ap (λ x. map delivery_data (take i ds) ++ delivery_data x ∷ []) c.delivery-item.is ∙ sym (map_more delivery_data ds i c.delivery-item.result c.loop-delivery-test.true) in
    subst (λ xs. SendsEach xs begun now) more
    (each-more (map delivery_data (take i ds)) (delivery_data c.delivery-item.result) begun (g.S.Serializer.written c.loop-delivery.out) now c.loop-delivery.invariant c.in_ok-write_delivery.ensures)

pub returns : goal.returns
returns g c =
    let ds = c.args.deliveries.now in
    let begun = g.S.Serializer.written c.begin_seq.new.self in
    let all = subst (λ xs. SendsEach (map delivery_data xs) begun (g.S.Serializer.written c.loop-delivery.out)) (take_all c.loop-delivery.delivery-index ds c.loop-delivery-test.false) c.loop-delivery.invariant in
    let counted = items-counted (map delivery_data ds) ∙ length-map ds delivery_data in
    on_ok_weaker c.end_seq.result (λ ends. (
      begun,
      subst (λ n. Logs (g.S.Serializer.written c.args.out.now) begun (seq_begins (Some n))) (sym counted) (c.in_ok-begin_seq.ensures),
      items-sent (map delivery_data ds) begun (g.S.Serializer.written c.loop-delivery.out) (g.S.Serializer.written c.end_seq.new.self) all ends,
    )) c.end_seq.ensures
