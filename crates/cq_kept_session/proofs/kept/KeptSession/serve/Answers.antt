-- One chunk more was taken, and at the end the partial line.
use Rattle.std.proofs.Common.{◌≡◌, inl, inr, ℕ, List, [], ◌∷◌, ◌++◌, length, take, refl, sym, ◌∙◌, ap, subst, arith, append_assoc, append-nil}
use Rattle.std.proofs.KnownBytes.{Consumes-kept, Consumes-nil, Consumes-trans}
use Rattle.cq_lines.proofs.Endings.{Consumes-nothing}
use Rattle.cq_kept_session.specs.Served.{Serves}
use Rattle.cq_kept_session.specs.Texts.{as_kept}
use Rattle.cq_kept_session.proofs.Pieces.{serves_both, serves_none, kept_both}
use Rattle.cq_kept_session.proofs.Stopped.{kept_two, on_err, stops_behind, stops_is, stops_untold}
use Rattle.cq_kept_session.proofs.kept.KeptSession.serve.Goals as goal

-- what was done, and then what is left with a chunk behind it
next_are : (first second last partial chunk input : List ℕ) → first ++ partial ≡ input → second ++ last ≡ partial ++ chunk → (first ++ second) ++ last ≡ input ++ chunk
next_are first second last partial chunk input one two =
    append_assoc first second last ∙ ap (λ (l : List ℕ). first ++ l) two ∙ sym (append_assoc first partial chunk) ∙ ap (λ (l : List ℕ). l ++ chunk) one

pub loop-init : goal.loop-init
loop-init g c =
    let none = c.new-partial.ensures.items in
    (c.requires, omega (arith, ap length none), refl, ([], Consumes-nil _, ([], none, serves_none c.args.self.now (g.W.KeptSink.taken c.args.writer.now))))

pub loop-preserved : goal.loop-preserved
loop-preserved g c =
    let i = c.loop.invariant in
    let t = c.in_ok-take_chunk-in-Ok.ensures in
    let r = c.in_ok-rewrite_if_due-in-Ok.ensures in
    let chunk = take c.in-Ok.count c.read.new.buf in (
      r.kept,
      t.partial,
      c.rewrite_if_due.ensures.size ∙ c.take_chunk.ensures.size ∙ i.2,
      (
        i.3.0 ++ chunk,
        Consumes-trans _ _ _ i.3.0 chunk i.3.1 c.in-Ok.ensures.bytes.0,
        let here = t.serves in
            let w = i.3.2 in
            let both = serves_both _ _ _ _ _ _ (as_kept here.0) [] here.2 (r.serves (g.W.KeptSink.taken c.take_chunk.new.writer)) in (
              w.0 ++ here.0,
              next_are w.0 here.0 c.take_chunk.new.partial.items c.loop.partial.items chunk i.3.0 w.1 here.1,
              subst (λ (bytes : List ℕ). Serves c.args.self.now c.rewrite_if_due.new.self (g.W.KeptSink.taken c.args.writer.now) (g.W.KeptSink.taken c.take_chunk.new.writer) bytes)
                  (ap (λ (l : List ℕ). as_kept w.0 ++ l) (append-nil (as_kept here.0)) ∙ sym (kept_both w.0 here.0))
                  (serves_both _ _ _ _ _ _ (as_kept w.0) (as_kept here.0 ++ []) w.2 both),
            ),
      ),
    )

pub returns-in-Ok-eq0-clause-serves : goal.returns-in-Ok-eq0-clause-serves
returns-in-Ok-eq0-clause-serves g c =
    let i = c.loop.invariant in
    let e = c.in_ok-take_end-in-Ok-eq0.ensures.serves in
    let input = Consumes-nothing _ _ _ i.3.0 c.read.new.buf _ c.in-Ok-eq0.field-0-test i.3.1 c.in-Ok-eq0.ensures.bytes.0 in
    let end = c.in-Ok-eq0.ensures.bytes.1 c.in-Ok-eq0.field-0-test (omega arith) in
    let partial = c.loop.partial.items in (
      i.3.0,
      e.0,
      input,
      end,
      e.1,
      let here = e.2 in
          let w = i.3.2 in
          let all : w.0 ++ (partial ++ e.0) ≡ i.3.0 ++ e.0 = sym (append_assoc w.0 partial e.0) ∙ ap (λ (l : List ℕ). l ++ e.0) w.1 in
          subst (λ (bytes : List ℕ). Serves c.args.self.now c.take_end.new.self (g.W.KeptSink.taken c.args.writer.now) (g.W.KeptSink.taken c.take_end.new.writer) bytes)
          (sym (kept_both w.0 (partial ++ e.0)) ∙ ap as_kept all)
          (serves_both _ _ _ _ _ _ (as_kept w.0) (as_kept (partial ++ e.0)) w.2 here),
    )

-- what was taken, and the partial line
untaken : (done partial input : List ℕ) → done ++ partial ≡ input → as_kept (input ++ []) ≡ as_kept done ++ as_kept partial
untaken done partial input is = ap as_kept (append-nil input ∙ sym is) ∙ kept_both done partial

pub returns-then-failed-clause-stops : goal.returns-then-failed-clause-stops
returns-then-failed-clause-stops g c =
    let i = c.loop.invariant in
    let w = i.3.2 in
    let input = Consumes-nothing _ _ _ i.3.0 c.read.new.buf _ c.in-Ok-eq0.field-0-test i.3.1 c.in-Ok-eq0.ensures.bytes.0 in
    (i.3.0, [], input, inl refl, stops_untold c.args.self.now c.loop.self c.loop.self _ _ (as_kept w.0) (as_kept c.loop.partial.items) (as_kept (i.3.0 ++ [])) i.0 (untaken w.0 c.loop.partial.items i.3.0 w.1) w.2 (λ honest. honest))

pub returns-in-Err-clause-stops : goal.returns-in-Err-clause-stops
returns-in-Err-clause-stops g c =
    let i = c.loop.invariant in
    let w = i.3.2 in
    (i.3.0, [], Consumes-kept _ _ _ i.3.0 i.3.1 c.in-Err.ensures.bytes, inl refl, stops_untold c.args.self.now c.loop.self c.loop.self _ _ (as_kept w.0) (as_kept c.loop.partial.items) (as_kept (i.3.0 ++ [])) i.0 (untaken w.0 c.loop.partial.items i.3.0 w.1) w.2 (λ honest. honest))

pub returns-clause-stops : goal.returns-clause-stops
returns-clause-stops g c =
    let i = c.loop.invariant in
    let w = i.3.2 in
    (i.3.0, [], i.3.1, inl refl, stops_untold c.args.self.now c.loop.self c.loop.self _ _ (as_kept w.0) (as_kept c.loop.partial.items) (as_kept (i.3.0 ++ [])) i.0 (untaken w.0 c.loop.partial.items i.3.0 w.1) w.2 (λ honest. honest))

pub returns-in_err-take_end-in-Ok-eq0-clause-stops : goal.returns-in_err-take_end-in-Ok-eq0-clause-stops
returns-in_err-take_end-in-Ok-eq0-clause-stops g c =
    let i = c.loop.invariant in
    let w = i.3.2 in
    let partial = c.loop.partial.items in
    let input = Consumes-nothing _ _ _ i.3.0 c.read.new.buf _ c.in-Ok-eq0.field-0-test i.3.1 c.in-Ok-eq0.ensures.bytes.0 in
    on_err c.from_residual.result (
      i.3.0,
      10 ∷ [],
      input,
      inr refl,
      stops_is _ _ _ _ (as_kept w.0 ++ as_kept (partial ++ 10 ∷ [])) (as_kept (i.3.0 ++ 10 ∷ [])) (kept_two w.0 (partial ++ 10 ∷ []) (i.3.0 ++ 10 ∷ []) (sym (append_assoc w.0 partial (10 ∷ [])) ∙ ap (λ (l : List ℕ). l ++ 10 ∷ []) w.1))
          (stops_behind _ _ _ _ _ _ (as_kept w.0) (as_kept (partial ++ 10 ∷ [])) w.2 c.in_err-take_end-in-Ok-eq0.ensures.stops),
    )

pub returns-in_err-take_chunk-in-Ok-clause-stops : goal.returns-in_err-take_chunk-in-Ok-clause-stops
returns-in_err-take_chunk-in-Ok-clause-stops g c =
    let i = c.loop.invariant in
    let w = i.3.2 in
    let chunk = take c.in-Ok.count c.read.new.buf in
    let partial = c.loop.partial.items in
    on_err c.from_residual-in_err-take_chunk-in-Ok.result (
      i.3.0 ++ chunk,
      [],
      Consumes-trans _ _ _ i.3.0 chunk i.3.1 c.in-Ok.ensures.bytes.0,
      inl refl,
      stops_is _ _ _ _ (as_kept w.0 ++ as_kept (partial ++ chunk)) (as_kept ((i.3.0 ++ chunk) ++ []))
          (kept_two w.0 (partial ++ chunk) ((i.3.0 ++ chunk) ++ []) (sym (append_assoc w.0 partial chunk) ∙ ap (λ (l : List ℕ). l ++ chunk) w.1 ∙ sym (append-nil (i.3.0 ++ chunk))))
          (stops_behind _ _ _ _ _ _ (as_kept w.0) (as_kept (partial ++ chunk)) w.2 c.in_err-take_chunk-in-Ok.ensures.stops),
    )

pub returns-in_err-rewrite_if_due-in-Ok-clause-stops : goal.returns-in_err-rewrite_if_due-in-Ok-clause-stops
returns-in_err-rewrite_if_due-in-Ok-clause-stops g c =
    let i = c.loop.invariant in
    let w = i.3.2 in
    let chunk = take c.in-Ok.count c.read.new.buf in
    let here = c.in_ok-take_chunk-in-Ok.ensures.serves in
    let left = c.take_chunk.new.partial.items in
    on_err c.from_residual-in_err-rewrite_if_due-in-Ok.result (
      i.3.0 ++ chunk,
      [],
      Consumes-trans _ _ _ i.3.0 chunk i.3.1 c.in-Ok.ensures.bytes.0,
      inl refl,
      stops_untold c.args.self.now c.take_chunk.new.self c.rewrite_if_due.new.self _ _ (as_kept w.0 ++ as_kept here.0) (as_kept left) (as_kept ((i.3.0 ++ chunk) ++ [])) c.in_ok-take_chunk-in-Ok.ensures.kept
          (untaken (w.0 ++ here.0) left (i.3.0 ++ chunk) (next_are w.0 here.0 left c.loop.partial.items chunk i.3.0 w.1 here.1) ∙ ap (λ (l : List ℕ). l ++ as_kept left) (kept_both w.0 here.0))
          (serves_both _ _ _ _ _ _ (as_kept w.0) (as_kept here.0) w.2 here.2) c.rewrite_if_due.ensures.honest,
    )
