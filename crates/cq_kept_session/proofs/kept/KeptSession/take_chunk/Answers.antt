-- What ends with a line feed is taken, and then what is behind it if it is too long.
use Rattle.std.proofs.Common.{◌≡◌, ℕ, List, ◌++◌, sym, ◌∙◌, ap, subst, append_assoc}
use Rattle.cq_kept_session.specs.Served.{Serves}
use Rattle.cq_kept_session.specs.Texts.{as_kept}
use Rattle.cq_kept_session.proofs.Pieces.{if_ok, serves_both, kept_both}
use Rattle.cq_kept_session.proofs.Stopped.{if_err, kept_two, on_err, stops_behind, stops_is, stops_more}
use Rattle.cq_kept_session.proofs.kept.KeptSession.take_chunk.Goals as goal

-- two parts, one behind the other
parts_are : (first second old new last ended rest chunk : List ℕ) → first ++ new ≡ old ++ ended → second ++ last ≡ new ++ rest → ended ++ rest ≡ chunk → (first ++ second) ++ last ≡ old ++ chunk
parts_are first second old new last ended rest chunk one two is =
    append_assoc first second last ∙ ap (λ (l : List ℕ). first ++ l) two ∙ sym (append_assoc first new rest) ∙ ap (λ (l : List ℕ). l ++ rest) one
    ∙ append_assoc old ended rest ∙ ap (λ (l : List ℕ). old ++ l) is

pub returns-clause-serves : goal.returns-clause-serves
returns-clause-serves g c = if_ok c.take_more-2.result c.take_more-2.ensures.serves (λ here.
    let w = c.in_ok-take_more.ensures.serves in (
      w.0 ++ here.0,
      parts_are w.0 here.0 c.args.partial.now.items c.take_more.new.partial.items c.take_more-2.new.partial.items c.cut_behind_lines.result.0.now c.cut_behind_lines.result.1.now c.args.chunk.now w.1 here.1 c.cut_behind_lines.ensures,
      subst (λ (bytes : List ℕ). Serves c.args.self.now c.take_more-2.new.self (g.W.KeptSink.taken c.args.writer.now) (g.W.KeptSink.taken c.take_more-2.new.writer) bytes) (sym (kept_both w.0 here.0))
          (serves_both _ _ _ _ _ _ (as_kept w.0) (as_kept here.0) w.2 here.2),
    ))

pub returns-in_err-take_more-clause-stops : goal.returns-in_err-take_more-clause-stops
returns-in_err-take_more-clause-stops g c =
    let partial = c.args.partial.now.items in
    let ended = c.cut_behind_lines.result.0.now in
    let rest = c.cut_behind_lines.result.1.now in
    on_err c.from_residual.result (stops_more _ _ _ _ (as_kept (partial ++ ended)) (as_kept rest) (as_kept (partial ++ c.args.chunk.now))
    (kept_two (partial ++ ended) rest (partial ++ c.args.chunk.now) (append_assoc partial ended rest ∙ ap (λ (l : List ℕ). partial ++ l) c.cut_behind_lines.ensures)) c.in_err-take_more.ensures.stops)

pub returns-clause-stops : goal.returns-clause-stops
returns-clause-stops g c = if_err c.take_more-2.result c.take_more-2.ensures.stops (λ here.
    let w = c.in_ok-take_more.ensures.serves in
    let partial = c.args.partial.now.items in
    let left = c.take_more.new.partial.items in
    let ended = c.cut_behind_lines.result.0.now in
    let rest = c.cut_behind_lines.result.1.now in
    let parts : w.0 ++ (left ++ rest) ≡ partial ++ c.args.chunk.now =
    sym (append_assoc w.0 left rest) ∙ ap (λ (l : List ℕ). l ++ rest) w.1 ∙ append_assoc partial ended rest ∙ ap (λ (l : List ℕ). partial ++ l) c.cut_behind_lines.ensures in
    stops_is _ _ _ _ (as_kept w.0 ++ as_kept (left ++ rest)) (as_kept (partial ++ c.args.chunk.now)) (kept_two w.0 (left ++ rest) (partial ++ c.args.chunk.now) parts)
    (stops_behind _ _ _ _ _ _ (as_kept w.0) (as_kept (left ++ rest)) w.2 here))
