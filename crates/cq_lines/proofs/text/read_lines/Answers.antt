-- By the chunks that were read before, and how the last read went.
use Rattle.std.proofs.Common.{◌≡◌, ◌++◌, [], take, length-append, length-take, arith}
use Rattle.std.proofs.KnownBytes.{Consumes-nil, Consumes-trans, Consumes-kept}
use Rattle.std.proofs.lemmas.Result.{err_from_is_err_and}
use Rattle.cq_lines.specs.declared.fault.ScriptFault.TheVariants.{ReadFailed}
use Rattle.cq_lines.proofs.Sizes.{strict_size}
use Rattle.cq_lines.proofs.Chunks.{nothing_is_read, chunk_is_read}
use Rattle.cq_lines.proofs.Endings.{Consumes-nothing, text-fault, feeds_no_read_fault, text-end, text-last_fault, text-failed, no_fault_yet}
use Rattle.cq_lines.proofs.text.read_lines.Goals as goal

pub loop-init : goal.loop-init
loop-init g c = rw c.new-lines.ensures ([], Consumes-nil _, nothing_is_read g.P.LineParser.grammar c.args.limits, omega arith)

pub returns-then-failed-clause-reads : goal.returns-then-failed-clause-reads
returns-then-failed-clause-reads g c =
    let read = c.loop.invariant in
    let input = Consumes-nothing _ _ _ read.0 c.read.new.buf _ c.in-Ok-eq0.field-0-test read.1 c.in-Ok-eq0.ensures.bytes.0 in
    (read.0, input, no_fault_yet g.P.LineParser.grammar c.args.limits c.loop.lines read.0 read.2)

pub returns-in_err-finish-in-Ok-eq0-clause-reads :
    goal.returns-in_err-finish-in-Ok-eq0-clause-reads
returns-in_err-finish-in-Ok-eq0-clause-reads g c =
    let read = c.loop.invariant in
    let input = Consumes-nothing _ _ _ read.0 c.read.new.buf _ c.in-Ok-eq0.field-0-test read.1 c.in-Ok-eq0.ensures.bytes.0 in
    let end = c.in-Ok-eq0.ensures.bytes.1 c.in-Ok-eq0.field-0-test (omega arith) in
    let fault = err_from_is_err_and c.from_residual.result c.from_residual.ensures.1 in
    rw (fault.1, fault.2)
    (read.0, input, text-last_fault g.P.LineParser.grammar c.args.limits c.in_err-finish-in-Ok-eq0.field-0.0 c.loop.lines c.finish.new.self read.0 _ end read.2 c.in_err-finish-in-Ok-eq0.ensures)

pub returns-in-Ok-eq0-clause-reads : goal.returns-in-Ok-eq0-clause-reads
returns-in-Ok-eq0-clause-reads g c =
    let read = c.loop.invariant in
    let input = Consumes-nothing _ _ _ read.0 c.read.new.buf _ c.in-Ok-eq0.field-0-test read.1 c.in-Ok-eq0.ensures.bytes.0 in
    let end = c.in-Ok-eq0.ensures.bytes.1 c.in-Ok-eq0.field-0-test (omega arith) in
    (read.0, input, text-end g.P.LineParser.grammar c.args.limits c.into_values.result c.loop.lines c.finish.new.self read.0 _ end read.2 c.in_ok-finish-in-Ok-eq0.ensures c.into_values.ensures)

pub returns-in_err-feed-in-Ok-clause-reads : goal.returns-in_err-feed-in-Ok-clause-reads
returns-in_err-feed-in-Ok-clause-reads g c =
    let read = c.loop.invariant in
    let chunk = take c.in-Ok.count c.read.new.buf in
    let fault = err_from_is_err_and c.from_residual-in_err-feed-in-Ok.result c.from_residual-in_err-feed-in-Ok.ensures.1 in
    rw (fault.1, fault.2) (
      read.0 ++ chunk,
      Consumes-trans _ _ _ read.0 chunk read.1 c.in-Ok.ensures.bytes.0,
      text-fault g.P.LineParser.grammar c.args.limits c.in_err-feed-in-Ok.field-0.0 c.loop.lines c.feed.new.self read.0 chunk _ read.2 c.in_err-feed-in-Ok.ensures,
    )

pub returns-in_err-feed-in-Ok-clause-read_failed :
    goal.returns-in_err-feed-in-Ok-clause-read_failed
returns-in_err-feed-in-Ok-clause-read_failed g c = λ is.
    let fault = err_from_is_err_and c.from_residual-in_err-feed-in-Ok.result c.from_residual-in_err-feed-in-Ok.ensures.1 in
    let one = fault.1 in
    let two = fault.2 in
    let same : c.in_err-feed-in-Ok.field-0.0 ≡ ReadFailed = cc in
    absurd (feeds_no_read_fault g.P.LineParser.grammar c.args.limits c.in_err-feed-in-Ok.field-0.0 c.loop.lines c.feed.new.self (take c.in-Ok.count c.read.new.buf) c.in_err-feed-in-Ok.ensures same)

pub returns-in-Err-clause-reads : goal.returns-in-Err-clause-reads
returns-in-Err-clause-reads g c =
    let read = c.loop.invariant in
    let yet = no_fault_yet g.P.LineParser.grammar c.args.limits c.loop.lines read.0 read.2 in
    (read.0, Consumes-kept _ _ _ read.0 read.1 c.in-Err.ensures.bytes, text-failed g.P.LineParser.grammar c.args.limits _ c.read_fault.result read.0 _ c.read_fault.ensures yet)

pub loop-preserved : goal.loop-preserved
loop-preserved g c =
    let read = c.loop.invariant in
    let chunk = take c.in-Ok.count c.read.new.buf in (
      read.0 ++ chunk,
      Consumes-trans _ _ _ read.0 chunk read.1 c.in-Ok.ensures.bytes.0,
      chunk_is_read g.P.LineParser.grammar c.args.limits c.loop.lines c.feed.new.self read.0 chunk read.2 c.in_ok-feed-in-Ok.ensures,
      omega (arith, read.3, c.in-Ok.count-test, c.in-Ok.ensures.bound, length-append read.0 chunk, length-take c.in-Ok.count c.read.new.buf),
    )

pub returns-clause-reads : goal.returns-clause-reads
returns-clause-reads g c =
    let read = c.loop.invariant in
    let yet = no_fault_yet g.P.LineParser.grammar c.args.limits c.loop.lines read.0 read.2 in
    let few = strict_size g.P.LineParser.grammar c.args.limits c.requires.strict read.0 yet in
    absurd (omega (arith, few, c.requires.countable, read.3, c.loop-test.false))
