-- Nothing was added, or all stays where it is.
use Rattle.std.proofs.Common.{ℕ, List, [], ◌++◌, sym, ◌∙◌, ap, append-nil}
use Rattle.cq_kept_session.proofs.Pieces.{no_bytes, serves_none}
use Rattle.cq_kept_session.specs.Texts.{as_kept}
use Rattle.cq_kept_session.proofs.Stopped.{on_err, stops_is, stops_none}
use Rattle.cq_kept_session.proofs.kept.KeptSession.take_more.Goals as goal

pub returns-then-is_empty-clause-serves : goal.returns-then-is_empty-clause-serves
returns-then-is_empty-clause-serves g c =
    let partial = c.args.partial.now.items in
    ([], sym (append-nil partial) ∙ ap (λ (more : List ℕ). partial ++ more) (sym (no_bytes c.args.bytes.now (sym c.is_empty.ensures ∙ c.if-is_empty.true))), serves_none c.args.self.now (g.W.KeptSink.taken c.args.writer.now))

pub returns-then-len-limit-clause-serves : goal.returns-then-len-limit-clause-serves
returns-then-len-limit-clause-serves g c = ([], c.in_ok-extend_from_slice.ensures.items, serves_none c.args.self.now (g.W.KeptSink.taken c.args.writer.now))

pub returns-in_err-extend_from_slice-clause-stops : goal.returns-in_err-extend_from_slice-clause-stops
returns-in_err-extend_from_slice-clause-stops g c = on_err c.from_residual.result (stops_none c.args.self.now (g.W.KeptSink.taken c.args.writer.now) (as_kept (c.args.partial.now.items ++ c.args.bytes.now)) c.requires.kept)

pub returns-in_err-take_behind_base-clause-stops : goal.returns-in_err-take_behind_base-clause-stops
returns-in_err-take_behind_base-clause-stops g c =
    on_err c.from_residual-in_err-take_behind_base.result (stops_is _ _ _ _ (as_kept c.deref.result.now) (as_kept (c.args.partial.now.items ++ c.args.bytes.now)) (ap as_kept (c.deref.ensures.value ∙ c.in_ok-extend_from_slice.ensures.items)) c.in_err-take_behind_base.ensures.stops)
