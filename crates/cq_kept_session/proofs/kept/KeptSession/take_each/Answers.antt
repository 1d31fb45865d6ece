-- One line more was taken or refused.
use Rattle.std.proofs.lemmas.List.{length-append}
use Rattle.std.proofs.Common.{◌≡◌, ◌≤◌, ℕ, List, [], ◌++◌, length, take, drop, refl, sym, ◌∙◌, ap, subst, arith, append_assoc, append-nil, take-append-drop}
use Rattle.cq_records.specs.declared.frame.TheConstants.{TEXT_LIMIT}
use Rattle.cq_kept_session.specs.Served.{Serves}
use Rattle.cq_kept_session.specs.Texts.{as_kept}
use Rattle.cq_kept_session.proofs.Pieces.{if_ok, no_bytes, serves_both, serves_none, kept_both}
use Rattle.cq_kept_session.proofs.Stopped.{if_err, kept_parts, kept_two, on_err, stops_behind, stops_is, stops_more}
use Rattle.cq_kept_session.proofs.kept.KeptSession.take_each.Goals as goal

both_parts : (first later rest : List ℕ) (n : ℕ) → first ≡ take n rest → later ≡ drop n rest → first ++ later ≡ rest
both_parts first later rest n is are = (λ i. (is i) ++ (are i)) ∙ take-append-drop n rest

shorter : (first later rest : List ℕ) → first ++ later ≡ rest → length rest ≤ TEXT_LIMIT → length later ≤ TEXT_LIMIT
shorter first later rest is short = omega (arith, ap length is, length-append first later, short)

pub loop-line-init : goal.loop-line-init
loop-line-init g c = (c.requires.kept, c.requires.short, refl, ([], refl, serves_none c.args.self.now (g.W.KeptSink.taken c.args.writer.now)))

pub loop-line-preserved : goal.loop-line-preserved
loop-line-preserved g c =
    let i = c.loop-line.invariant in
    let t = c.in_ok-take_or_refuse.ensures in
    let whole = c.split_at.result.0.now in
    let later = c.split_at.result.1.now in
    let rest = c.loop-line.rest.now in
    let parts : whole ++ later ≡ rest = both_parts whole later rest _ c.split_at.ensures.front c.split_at.ensures.back in (
      t.kept,
      shorter whole later rest parts i.1,
      c.take_or_refuse.ensures.size ∙ i.2,
      let here = t.serves in
          let w = i.3 in (
            w.0 ++ whole,
            append_assoc w.0 whole later ∙ ap (λ (more : List ℕ). w.0 ++ more) parts ∙ w.1,
            subst (λ (bytes : List ℕ). Serves c.args.self.now c.take_or_refuse.new.self (g.W.KeptSink.taken c.args.writer.now) (g.W.KeptSink.taken c.take_or_refuse.new.writer) bytes) (sym (kept_both w.0 whole))
                (serves_both _ _ _ _ _ _ (as_kept w.0) (as_kept whole) w.2 here),
          ),
    )

pub returns-then-is_empty-clause-serves : goal.returns-then-is_empty-clause-serves
returns-then-is_empty-clause-serves g c =
    let w = c.loop-line.invariant.3 in
    let none : c.loop-line.rest.now ≡ [] = no_bytes c.loop-line.rest.now (sym c.is_empty.ensures ∙ c.if-is_empty.true) in
    let all : w.0 ≡ c.args.lines.now = sym (append-nil w.0) ∙ ap (λ (more : List ℕ). w.0 ++ more) (sym none) ∙ w.1 in
    subst (λ (bytes : List ℕ). Serves c.args.self.now c.loop-line.self (g.W.KeptSink.taken c.args.writer.now) (g.W.KeptSink.taken c.loop-line.writer) (as_kept bytes)) all w.2

pub returns-clause-serves : goal.returns-clause-serves
returns-clause-serves g c = if_ok c.take_or_refuse-2.result c.take_or_refuse-2.ensures.serves (λ here.
    let w = c.loop-line.invariant.3 in
    let rest = c.loop-line.rest.now in
    subst (λ (bytes : List ℕ). Serves c.args.self.now c.take_or_refuse-2.new.self (g.W.KeptSink.taken c.args.writer.now) (g.W.KeptSink.taken c.take_or_refuse-2.new.writer) bytes)
    (sym (kept_both w.0 rest) ∙ ap as_kept w.1)
    (serves_both _ _ _ _ _ _ (as_kept w.0) (as_kept rest) w.2 here))

pub returns-in_err-take_or_refuse-clause-stops : goal.returns-in_err-take_or_refuse-clause-stops
returns-in_err-take_or_refuse-clause-stops g c =
    let w = c.loop-line.invariant.3 in
    let whole = c.split_at.result.0.now in
    let later = c.split_at.result.1.now in
    let rest = c.loop-line.rest.now in
    let parts : whole ++ later ≡ rest = both_parts whole later rest _ c.split_at.ensures.front c.split_at.ensures.back in
    on_err c.from_residual.result (stops_more _ _ _ _ (as_kept w.0 ++ as_kept whole) (as_kept later) (as_kept c.args.lines.now) (kept_parts w.0 whole later c.args.lines.now (ap (λ (more : List ℕ). w.0 ++ more) parts ∙ w.1))
    (stops_behind _ _ _ _ _ _ (as_kept w.0) (as_kept whole) w.2 c.in_err-take_or_refuse.ensures.stops))

pub returns-clause-stops : goal.returns-clause-stops
returns-clause-stops g c = if_err c.take_or_refuse-2.result c.take_or_refuse-2.ensures.stops (λ here.
    let w = c.loop-line.invariant.3 in
    let rest = c.loop-line.rest.now in
    stops_is _ _ _ _ (as_kept w.0 ++ as_kept rest) (as_kept c.args.lines.now) (kept_two w.0 rest c.args.lines.now w.1) (stops_behind _ _ _ _ _ _ (as_kept w.0) (as_kept rest) w.2 here))
