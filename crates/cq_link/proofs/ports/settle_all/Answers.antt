use Rattle.std.proofs.Common.{◌∙◌, ap, sym, subst, map}
use Rattle.std.specs.Vec.Iter.{into_iter_items}
use Rattle.cq_link.specs.within.Tables.{AreJoined, AreHeaded, FirstsHaveDelivered, HaveAllDelivered}
use Rattle.cq_link.proofs.PortTables.{joined_ports, delivered_ports}
use Rattle.cq_link.proofs.Settling.{joined_first, joined_rest, delivered_first, nothing_to_deliver, nothing_left, columns_after, moved}
use Rattle.cq_link.proofs.ports.settle_all.Goals as goal

pub loop-row-init : goal.loop-row-init
loop-row-init g c =
    let rows = ap (map (λ row. row.items)) c.into_iter-row-iterator.ensures.into_iter_gives.0 ∙ c.in_ok-rows.ensures.rows in
    record {
      joined = moved AreJoined _ _ _ _ (sym rows) (sym c.in_ok-rows.ensures.columns) (joined_ports c.args.ports.items c.requires);
      rest = λ all. moved HaveAllDelivered _ _ _ _ rows c.in_ok-rows.ensures.columns all;
    }

pub settle_row-requires : goal.settle_row-requires
settle_row-requires g c =
    let at = c.loop-row in
    let rows = ap (map (λ row. row.items)) c.in-Some.ensures.steps.0 in
    let now = ap (map into_iter_items) c.deref_mut.ensures.value in
    subst (AreHeaded c.in-Some.row.items) (sym now) (joined_first c.in-Some.row.items _ _ (subst (λ rs. AreJoined rs (map into_iter_items at.columns.items)) rows at.invariant.joined))

pub loop-row-preserved : goal.loop-row-preserved
loop-row-preserved g c =
    let at = c.loop-row in
    let rows = ap (map (λ row. row.items)) c.in-Some.ensures.steps.0 in
    let now = ap (map into_iter_items) c.deref_mut.ensures.value in
    let after = columns_after at.columns.len at.columns.items c.deref_mut.result.now c.settle_row.new.columns c.deref_mut.ensures.value c.settle_row.auto.columns at.columns.ok.0 c.settle_row.ensures.columns in
    record {
      joined = subst (AreJoined _) (sym after) (joined_rest c.in-Some.row.items _ _ (subst (λ rs. AreJoined rs (map into_iter_items at.columns.items)) rows at.invariant.joined));
      rest = λ all. at.invariant.rest (subst (λ rs. HaveAllDelivered rs (map into_iter_items at.columns.items)) (sym rows)
          (delivered_first c.in-Some.row.items _ _ (subst (FirstsHaveDelivered c.in-Some.row.items) now c.settle_row.ensures.settled) (subst (HaveAllDelivered _) after all)));
    }

pub returns : goal.returns
returns g c =
    let at = c.loop-row in
    let none = ap (map (λ row. row.items)) (nothing_left at.row-iterator c.in-None.ensures.steps.0) in
    delivered_ports c.args.ports.items (at.invariant.rest (subst (λ rs. HaveAllDelivered rs (map into_iter_items at.columns.items)) (sym none) (nothing_to_deliver (map into_iter_items at.columns.items))))
