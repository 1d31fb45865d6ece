use Rattle.std.proofs.Common.{◌∙◌, ap, sym, refl, arith, map, length, drop, [], ◌∷◌, ◌++◌, Vec, Global}
use Rattle.std.proofs.lemmas.List.{length_push}
use Rattle.std.proofs.lemmas.Option.{slice_get_within}
use Rattle.cq_link.proofs.Cells.{gone_more, gone_all, past_end}
use Rattle.cq_link.proofs.Settling.{next_of}
use Rattle.cq_link.specs.declared.link.Putter.{Putter}
use Rattle.cq_link.specs.declared.link.Taker.{Taker}
use Rattle.cq_link.proofs.ports.join.Goals as goal

pub loop-outs-init : goal.loop-outs-init
loop-outs-init g c = record {
  rows = c.into_iter-outs-iterator.ensures.into_iter_gives.0;
  columns = c.into_iter-columns.ensures.rest;
  outs = ap (map (λ p. p.outs.items)) c.new-ports.ensures.items;
  ins = ap (map (λ p. p.ins.items)) c.new-ports.ensures.items;
}

pub loop-outs-preserved : goal.loop-outs-preserved
loop-outs-preserved g c =
    let at = c.loop-outs in
    let row = next_of at.outs-iterator c.next.new.self c.next.result c.args.rows.items (length at.yielded) at.invariant.rows c.next.ensures.steps in
    let column = next_of at.columns c.next-in-loop-outs.new.self c.next-in-loop-outs.result c.args.columns.items (length at.yielded) at.invariant.columns c.next-in-loop-outs.ensures.cases in
    let within = slice_get_within c.args.rows.items (length at.yielded) c.in-Some.outs (row.0 ∙ c.in-Some.is) in
    let over = past_end c.args.columns.items (length at.yielded) (column.0 ∙ c.in_default.is) in
    absurd (omega (arith, c.requires))

pub returns-clause-outs : goal.returns-clause-outs
returns-clause-outs g c =
    let at = c.loop-outs in
    let row = next_of at.outs-iterator c.next.new.self c.next.result c.args.rows.items (length at.yielded) at.invariant.rows c.next.ensures.steps in
    let over = past_end c.args.rows.items (length at.yielded) (row.0 ∙ c.in-None.is) in
    gone_all (λ (r : Vec (Putter _) Global). r.items) _ c.args.rows.items (length at.yielded) at.invariant.outs over

pub returns-clause-ins : goal.returns-clause-ins
returns-clause-ins g c =
    let at = c.loop-outs in
    let row = next_of at.outs-iterator c.next.new.self c.next.result c.args.rows.items (length at.yielded) at.invariant.rows c.next.ensures.steps in
    let over = past_end c.args.rows.items (length at.yielded) (row.0 ∙ c.in-None.is) in
    gone_all (λ (r : Vec (Taker _) Global). r.items) _ c.args.columns.items (length at.yielded) at.invariant.ins (omega (arith, c.requires))

pub loop-outs-preserved-in-Some-next : goal.loop-outs-preserved-in-Some-next
loop-outs-preserved-in-Some-next g c =
    let at = c.loop-outs in
    let n = length at.yielded in
    let row = next_of at.outs-iterator c.next.new.self c.next.result c.args.rows.items n at.invariant.rows c.next.ensures.steps in
    let column = next_of at.columns c.next-in-loop-outs.new.self c.next-in-loop-outs.result c.args.columns.items n at.invariant.columns c.next-in-loop-outs.ensures.cases in
    let next = length_push at.yielded c.in-Some.outs in
    let put = c.push_reserved.ensures.items ∙ ap (λ xs. xs ++ record { outs = c.in-Some.outs; ins = c.in-Some-next.ins } ∷ []) c.reserve.ensures.items in
    record {
      rows = row.1 ∙ ap (λ k. drop k c.args.rows.items) (sym next);
      columns = column.1 ∙ ap (λ k. drop k c.args.columns.items) (sym next);
      outs = gone_more (λ p. p.outs.items) (λ r. r.items) at.ports.items _ _ c.args.rows.items n _ _ at.invariant.outs put next (row.0 ∙ c.in-Some.is) refl;
      ins = gone_more (λ p. p.ins.items) (λ r. r.items) at.ports.items _ _ c.args.columns.items n _ _ at.invariant.ins put next (column.0 ∙ c.in-Some-next.is) refl;
    }
