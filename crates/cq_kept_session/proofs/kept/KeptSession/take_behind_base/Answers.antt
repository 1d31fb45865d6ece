-- A base has changed nothing that is told, and the lines are taken behind it.
use Rattle.std.proofs.Common.{[]}
use Rattle.cq_kept_session.specs.Texts.{as_kept}
use Rattle.cq_kept_session.proofs.Pieces.{if_ok, serves_both}
use Rattle.cq_kept_session.proofs.Stopped.{if_err, on_err, stops_behind, stops_unserved}
use Rattle.cq_kept_session.proofs.kept.KeptSession.take_behind_base.Goals as goal

pub returns-clause-serves : goal.returns-clause-serves
returns-clause-serves g c =
    let old = c.args.self.now in
    let mid = c.rewrite_if_due.new.self in
    let a = g.W.KeptSink.taken c.args.writer.now in
    if_ok c.take_lines.result c.take_lines.ensures.serves (λ rest.
    serves_both old mid c.take_lines.new.self a a (g.W.KeptSink.taken c.take_lines.new.writer) [] (as_kept c.args.lines.now) (c.in_ok-rewrite_if_due.ensures.serves a) rest)

pub returns-in_err-rewrite_if_due-clause-stops : goal.returns-in_err-rewrite_if_due-clause-stops
returns-in_err-rewrite_if_due-clause-stops g c =
    on_err c.from_residual.result (stops_unserved c.args.self.now c.rewrite_if_due.new.self (g.W.KeptSink.taken c.args.writer.now) (as_kept c.args.lines.now) c.requires.kept c.rewrite_if_due.ensures.honest)

pub returns-clause-stops : goal.returns-clause-stops
returns-clause-stops g c =
    let old = c.args.self.now in
    let mid = c.rewrite_if_due.new.self in
    let a = g.W.KeptSink.taken c.args.writer.now in
    if_err c.take_lines.result c.take_lines.ensures.stops (λ rest.
    stops_behind old mid c.take_lines.new.self a a (g.W.KeptSink.taken c.take_lines.new.writer) [] (as_kept c.args.lines.now) (c.in_ok-rewrite_if_due.ensures.serves a) rest)
