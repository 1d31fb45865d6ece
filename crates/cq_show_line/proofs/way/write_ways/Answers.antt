-- One more was sent, and then the end.
use Rattle.std.proofs.Common.{◌∙◌, [], ◌∷◌, ◌++◌, map, take, refl, subst, sym, ap, Some}
use Rattle.std.proofs.lemmas.List.{map_more, take_all, length-map}
use Rattle.std.proofs.lemmas.Result.{on_ok_weaker}
use Rattle.serde.specs.Event.{Logs, seq_begins}
use Rattle.cq_show_line.specs.Lines.{way_data}
use Rattle.cq_show_line.specs.within.Parts.{SendsEach}
use Rattle.cq_show_line.proofs.Sending.{each-more, items-sent, items-counted}
use Rattle.cq_show_line.proofs.way.write_ways.Goals as goal

pub loop-way-init : goal.loop-way-init
loop-way-init g c = refl

pub loop-way-preserved : goal.loop-way-preserved
loop-way-preserved g c =
    let ds = c.args.ways.now in
    let i = c.loop-way.way-index in
    let begun = g.S.Serializer.written c.begin_seq.new.self in
    let now = g.S.Serializer.written c.write_way.new.out in
    let more = ap (λ x. map way_data (take i ds) ++ way_data x ∷ []) c.way-item.is ∙ sym (map_more way_data ds i c.way-item.result c.loop-way-test.true) in
    subst (λ xs. SendsEach xs begun now) more
    (each-more (map way_data (take i ds)) (way_data c.way-item.result) begun (g.S.Serializer.written c.loop-way.out) now c.loop-way.invariant c.in_ok-write_way.ensures)

pub returns : goal.returns
returns g c =
    let ds = c.args.ways.now in
    let begun = g.S.Serializer.written c.begin_seq.new.self in
    let all = subst (λ xs. SendsEach (map way_data xs) begun (g.S.Serializer.written c.loop-way.out)) (take_all c.loop-way.way-index ds c.loop-way-test.false) c.loop-way.invariant in
    let counted = items-counted (map way_data ds) ∙ length-map ds way_data in
    on_ok_weaker c.end_seq.result (λ ends. (
      begun,
      subst (λ n. Logs (g.S.Serializer.written c.args.out.now) begun (seq_begins (Some n))) (sym counted) (c.in_ok-begin_seq.ensures),
      items-sent (map way_data ds) begun (g.S.Serializer.written c.loop-way.out) (g.S.Serializer.written c.end_seq.new.self) all ends,
    )) c.end_seq.ensures
