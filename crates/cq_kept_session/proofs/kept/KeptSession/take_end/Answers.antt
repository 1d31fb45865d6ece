-- There is no partial line.
use Rattle.std.proofs.Common.{◌≡◌, ℕ, List, [], ◌∷◌, ◌++◌, inl, refl, sym, ◌∙◌, ap, subst, append-nil}
use Rattle.cq_kept_session.specs.Served.{Serves}
use Rattle.cq_kept_session.specs.Texts.{as_kept}
use Rattle.cq_kept_session.proofs.Pieces.{no_bytes, serves_none}
use Rattle.cq_kept_session.proofs.Stopped.{if_err, on_err, stops_is, stops_none}
use Rattle.cq_kept_session.proofs.kept.KeptSession.take_end.Goals as goal

pub returns-then-self-clause-serves : goal.returns-then-self-clause-serves
returns-then-self-clause-serves g c =
    let k = c.args.self.now in
    let a = g.W.KeptSink.taken c.args.writer.now in
    let partial = c.args.partial.now.items in
    let none : partial ≡ [] = sym c.as_slice.ensures.value ∙ no_bytes c.as_slice.result.now (sym c.is_empty.ensures ∙ c.if-is_empty.true) in
    ([], inl refl, subst (λ (bytes : List ℕ). Serves k k a a (as_kept bytes)) (sym (append-nil partial ∙ none)) (serves_none k a))

pub returns-in_err-push-clause-stops : goal.returns-in_err-push-clause-stops
returns-in_err-push-clause-stops g c = on_err c.from_residual.result (stops_none c.args.self.now (g.W.KeptSink.taken c.args.writer.now) (as_kept (c.args.partial.now.items ++ 10 ∷ [])) c.requires.kept)

pub returns-clause-stops : goal.returns-clause-stops
returns-clause-stops g c = if_err c.take_lines.result c.take_lines.ensures.stops (λ here.
    stops_is _ _ _ _ (as_kept c.deref.result.now) (as_kept (c.args.partial.now.items ++ 10 ∷ [])) (ap as_kept (c.deref.ensures.value ∙ c.in_ok-push.ensures.items)) here)
