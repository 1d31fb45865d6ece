-- The lines of the chunk one by one, and then the bytes behind them.
use Rattle.std.proofs.lemmas.Result.{err_from_is_err_and}
use Rattle.cq_lines.proofs.Chunks.{stands_at_start, stands_behind_line, feeds_line_fault, feeds_part}
use Rattle.cq_lines.proofs.reader.LineReader.feed.Goals as goal

pub loop-line-init : goal.loop-line-init
loop-line-init g c = stands_at_start g.P.LineParser.grammar c.args.self.now c.args.chunk.now

pub returns-in_err-end_line : goal.returns-in_err-end_line
returns-in_err-end_line g c =
    let cut = c.in-Some.ensures in
    let fault = err_from_is_err_and c.from_residual.result c.from_residual.ensures.1 in
    rw (fault.1, fault.2)
    (feeds_line_fault g.P.LineParser.grammar c.in_err-end_line.field-0.0 c.args.self.now c.loop-line.self c.end_line.new.self c.args.chunk.now c.loop-line.rest.now c.in-Some.line.now c.in-Some.later.now
    c.loop-line.invariant cut.1 cut.0 c.in_err-end_line.ensures)

pub loop-line-preserved : goal.loop-line-preserved
loop-line-preserved g c =
    let cut = c.in-Some.ensures in
    stands_behind_line g.P.LineParser.grammar c.args.self.now c.loop-line.self c.end_line.new.self c.args.chunk.now c.loop-line.rest.now c.in-Some.line.now c.in-Some.later.now
    c.loop-line.invariant cut.1 cut.0 c.in_ok-end_line.ensures

pub returns : goal.returns
returns g c = feeds_part g.P.LineParser.grammar c.extend_partial.result c.args.self.now c.loop-line.self c.extend_partial.new.self c.args.chunk.now c.loop-line.rest.now c.loop-line.invariant c.in_default.ensures c.extend_partial.ensures
