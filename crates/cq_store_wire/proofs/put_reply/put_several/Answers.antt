use Rattle.std.proofs.Common.{◌≡◌, ◌+◌, ◌++◌, ◌∷◌, [], List, ℕ, take, refl, sym, ap, ◌∙◌}
use Rattle.std.proofs.lemmas.List.{append-nil, take_more}
use Rattle.cq_base.specs.declared.reply.Delivery.{Delivery}
use Rattle.cq_store_wire.specs.Bodies.{all_recorded, and_bodies, and_body}
use Rattle.cq_store_wire.proofs.Mentions.{prefix-same, prefix-then}
use Rattle.cq_store_wire.proofs.Resolving.{bodies-and, written-more}
use Rattle.cq_store_wire.proofs.put_reply.put_several.Goals as goal

pub loop-value-init : goal.loop-value-init
unfolding all_recorded
loop-value-init c = record { ok = sym (append-nil c.args.out.now.value); known = refl; more = prefix-same c.args.bodies.now; before = refl }

pub loop-value-preserved : goal.loop-value-preserved
loop-value-preserved c =
    let done : List Delivery = take c.loop-value.value-index c.args.values.now in
    let next : take (c.loop-value.value-index + 1) c.args.values.now ≡ done ++ c.value-item.result ∷ [] =
    take_more c.args.values.now c.loop-value.value-index c.value-item.result c.loop-value-test.true ∙ ap (λ (d : Delivery). done ++ d ∷ []) (sym c.value-item.is) in
    record {
      ok = written-more c.args.bodies.now done (take (c.loop-value.value-index + 1) c.args.values.now) c.value-item.result c.args.out.now.value c.loop-value.out.value c.put_delivery.new.out.value c.loop-value.bodies next c.loop-value.invariant.ok c.loop-value.invariant.known c.in_ok-put_delivery.ensures.ok;
      known = c.in_ok-put_delivery.ensures.known ∙ ap (λ (ks : List (List ℕ)). and_body ks c.value-item.result.body) c.loop-value.invariant.known
          ∙ sym (bodies-and c.args.bodies.now done c.value-item.result) ∙ ap (λ (ds : List Delivery). and_bodies c.args.bodies.now ds) (sym next);
      more = prefix-then c.args.bodies.now c.loop-value.bodies c.put_delivery.new.bodies c.loop-value.invariant.more c.put_delivery.ensures.more;
      before = c.put_delivery.ensures.before ∙ c.loop-value.invariant.before;
    }
