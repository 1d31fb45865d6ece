-- One more was sent, and then the end.
use Rattle.std.proofs.Common.{◌∙◌, [], ◌∷◌, ◌++◌, map, take, refl, subst, sym, ap, Some}
use Rattle.std.proofs.lemmas.List.{map_more, take_all, length-map}
use Rattle.std.proofs.lemmas.Result.{on_ok_weaker}
use Rattle.serde.specs.Event.{Logs, seq_begins}
use Rattle.cq_show_line.specs.Lines.{server_data}
use Rattle.cq_show_line.specs.within.Parts.{SendsEach}
use Rattle.cq_show_line.proofs.Sending.{each-more, items-sent, items-counted}
use Rattle.cq_show_line.proofs.server.write_servers.Goals as goal

pub loop-server-init : goal.loop-server-init
loop-server-init g c = refl

pub loop-server-preserved : goal.loop-server-preserved
loop-server-preserved g c =
    let ds = c.args.servers.now in
    let i = c.loop-server.server-index in
    let begun = g.S.Serializer.written c.begin_seq.new.self in
    let now = g.S.Serializer.written c.write_server.new.out in
    let more = ap (λ x. map server_data (take i ds) ++ server_data x ∷ []) c.server-item.is ∙ sym (map_more server_data ds i c.server-item.result c.loop-server-test.true) in
    subst (λ xs. SendsEach xs begun now) more
    (each-more (map server_data (take i ds)) (server_data c.server-item.result) begun (g.S.Serializer.written c.loop-server.out) now c.loop-server.invariant c.in_ok-write_server.ensures)

pub returns : goal.returns
returns g c =
    let ds = c.args.servers.now in
    let begun = g.S.Serializer.written c.begin_seq.new.self in
    let all = subst (λ xs. SendsEach (map server_data xs) begun (g.S.Serializer.written c.loop-server.out)) (take_all c.loop-server.server-index ds c.loop-server-test.false) c.loop-server.invariant in
    let counted = items-counted (map server_data ds) ∙ length-map ds server_data in
    on_ok_weaker c.end_seq.result (λ ends. (
      begun,
      subst (λ n. Logs (g.S.Serializer.written c.args.out.now) begun (seq_begins (Some n))) (sym counted) (c.in_ok-begin_seq.ensures),
      items-sent (map server_data ds) begun (g.S.Serializer.written c.loop-server.out) (g.S.Serializer.written c.end_seq.new.self) all ends,
    )) c.end_seq.ensures
