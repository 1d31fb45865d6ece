-- One more was sent, and then the end.
use Rattle.std.proofs.Common.{◌∙◌, [], ◌∷◌, ◌++◌, map, take, refl, subst, sym, ap, Some}
use Rattle.std.proofs.lemmas.List.{map_more, take_all, length-map}
use Rattle.std.proofs.lemmas.Result.{on_ok_weaker}
use Rattle.serde.specs.Event.{Logs, seq_begins, unsigned}
use Rattle.cq_show_line.specs.Lines.{id_data}
use Rattle.cq_show_line.specs.within.Parts.{SendsEach}
use Rattle.cq_show_line.proofs.Sending.{each-more, items-sent, items-counted}
use Rattle.cq_show_line.proofs.server.write_chain.Goals as goal

pub loop-id-init : goal.loop-id-init
loop-id-init g c = refl

pub loop-id-preserved : goal.loop-id-preserved
loop-id-preserved g c =
    let ds = c.args.chain.now in
    let i = c.loop-id.id-index in
    let begun = g.S.Serializer.written c.begin_seq.new.self in
    let now = g.S.Serializer.written c.u64.new.self in
    let more = ap (λ x. map id_data (take i ds) ++ id_data x ∷ []) c.id-item.is ∙ sym (map_more id_data ds i c.id-item.result c.loop-id-test.true) in
    subst (λ xs. SendsEach xs begun now) more
    (each-more (map id_data (take i ds)) (id_data c.id-item.result) begun (g.S.Serializer.written c.loop-id.out) now c.loop-id.invariant (subst (λ n. Logs (g.S.Serializer.written c.loop-id.out) now (unsigned n)) (c.from.ensures ∙ c.get.ensures.value) c.in_ok-u64.ensures))

pub returns : goal.returns
returns g c =
    let ds = c.args.chain.now in
    let begun = g.S.Serializer.written c.begin_seq.new.self in
    let all = subst (λ xs. SendsEach (map id_data xs) begun (g.S.Serializer.written c.loop-id.out)) (take_all c.loop-id.id-index ds c.loop-id-test.false) c.loop-id.invariant in
    let counted = items-counted (map id_data ds) ∙ length-map ds id_data in
    on_ok_weaker c.end_seq.result (λ ends. (
      begun,
      subst (λ n. Logs (g.S.Serializer.written c.args.out.now) begun (seq_begins (Some n))) (sym counted) (c.in_ok-begin_seq.ensures),
      items-sent (map id_data ds) begun (g.S.Serializer.written c.loop-id.out) (g.S.Serializer.written c.end_seq.new.self) all ends,
    )) c.end_seq.ensures
