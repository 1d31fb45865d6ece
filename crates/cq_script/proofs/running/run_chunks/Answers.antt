-- By the chunks that were run before, and how the last read went.
use Rattle.std.proofs.Common.{◌≡◌, [], ◌++◌, take, length-append, length-take, true, refl, arith}
use Rattle.std.proofs.lemmas.Result.{err_from_is_err_and}
use Rattle.std.proofs.KnownBytes.{Consumes-nil, Consumes-trans, Consumes-kept, Appends-nil, Appends-trans}
use Rattle.cq_lines.specs.declared.fault.ScriptFault.TheVariants.{ReadFailed, WriteFailed}
use Rattle.cq_lines.proofs.Endings.{Consumes-nothing}
use Rattle.cq_script.proofs.Played.{ends_at_read, ends_behind, ends_uncounted, failed_read, no_failed_write, nothing_behind, played_behind, runs_behind}
use Rattle.cq_script.proofs.running.run_chunks.Goals as goal

pub loop-init : goal.loop-init
loop-init g c = λ limits size before written played. ([], [], Consumes-nil _, Appends-nil _, nothing_behind g.P.LineParser.grammar limits size before written _ _ played, omega arith)

pub loop-preserved : goal.loop-preserved
loop-preserved g c = λ limits size before written played.
    let read = c.loop.invariant limits size before written played in
    let chunk = take c.in-Ok.count c.read.new.buf in
    let more = c.in_ok-run_chunk-in-Ok.ensures.plays limits size (before ++ read.0) (written ++ read.1) read.4 in (
      read.0 ++ chunk,
      read.1 ++ more.0,
      Consumes-trans _ _ _ read.0 chunk read.2 c.in-Ok.ensures.bytes.0,
      Appends-trans _ _ _ read.1 more.0 read.3 more.1,
      played_behind g.P.LineParser.grammar limits size before read.0 chunk written read.1 more.0 _ _ more.2,
      omega (arith, read.5, c.in-Ok.count-test, c.in-Ok.ensures.bound, length-append read.0 chunk, length-take c.in-Ok.count c.read.new.buf),
    )

pub returns-in_err-run_chunk-in-Ok-clause-runs : goal.returns-in_err-run_chunk-in-Ok-clause-runs
returns-in_err-run_chunk-in-Ok-clause-runs g c = λ limits size before written played.
    let read = c.loop.invariant limits size before written played in
    let chunk = take c.in-Ok.count c.read.new.buf in
    let ends = c.in_err-run_chunk-in-Ok.ensures.plays limits size (before ++ read.0) (written ++ read.1) read.4 in
    let fault = err_from_is_err_and c.from_residual.result c.from_residual.ensures.1 in
    let all = ends_behind g.P.LineParser.grammar limits size _ before read.0 chunk written read.1 ends.0 (g.R.Read.remaining c.read.new.self) ends.2 in
    rw (fault.1, fault.2) (
      read.0 ++ chunk,
      read.1 ++ ends.0,
      Consumes-trans _ _ _ read.0 chunk read.2 c.in-Ok.ensures.bytes.0,
      Appends-trans _ _ _ read.1 ends.0 read.3 ends.1,
      all.0,
      all.1,
      λ failed. all.2,
    )

pub returns-in-Err-clause-runs : goal.returns-in-Err-clause-runs
returns-in-Err-clause-runs g c = λ limits size before written played.
    let read = c.loop.invariant limits size before written played in
    let ends = ends_at_read g.P.LineParser.grammar limits size _ c.read_fault.result (before ++ read.0) (written ++ read.1) (g.R.Read.remaining c.read.new.self) c.loop.lines c.loop.sim c.read_fault.ensures read.4 in
    (read.0, read.1, Consumes-kept _ _ _ read.0 read.2 c.in-Err.ensures.bytes, read.3, ends.0, ends.1, λ failed. ends.2)

pub returns-in-Err-clause-read_failed : goal.returns-in-Err-clause-read_failed
returns-in-Err-clause-read_failed g c = λ is.
    let same : c.read_fault.result ≡ ReadFailed = cc in
    failed_read _ c.read_fault.result c.read_fault.ensures same

pub returns-in-Err-clause-write_failed : goal.returns-in-Err-clause-write_failed
returns-in-Err-clause-write_failed g c = λ is.
    let same : c.read_fault.result ≡ WriteFailed = cc in
    absurd (no_failed_write _ c.read_fault.result c.read_fault.ensures same)

pub returns-then-failed-clause-runs : goal.returns-then-failed-clause-runs
returns-then-failed-clause-runs g c = λ limits size before written played.
    let read = c.loop.invariant limits size before written played in
    let input = Consumes-nothing _ _ _ read.0 c.read.new.buf _ c.in-Ok-eq0.field-0-test read.2 c.in-Ok-eq0.ensures.bytes.0 in
    let ends = ends_at_read g.P.LineParser.grammar limits size true ReadFailed (before ++ read.0) (written ++ read.1) (g.R.Read.remaining c.read.new.self) c.loop.lines c.loop.sim refl read.4 in
    (read.0, read.1, input, read.3, ends.0, ends.1, λ failed. ends.2)

pub returns-in-Ok-eq0-clause-runs : goal.returns-in-Ok-eq0-clause-runs
returns-in-Ok-eq0-clause-runs g c = λ limits size before written played.
    let read = c.loop.invariant limits size before written played in
    let input = Consumes-nothing _ _ _ read.0 c.read.new.buf _ c.in-Ok-eq0.field-0-test read.2 c.in-Ok-eq0.ensures.bytes.0 in
    let end = c.in-Ok-eq0.ensures.bytes.1 c.in-Ok-eq0.field-0-test (omega arith) in
    let rest = c.run_end.ensures.runs limits size (before ++ read.0) (written ++ read.1) _ end read.4 in
    let all = runs_behind g.P.LineParser.grammar limits size c.run_end.result (before ++ read.0) written read.1 rest.0 (g.R.Read.remaining c.read.new.self) rest.2 rest.3 in
    (read.0, read.1 ++ rest.0, input, Appends-trans _ _ _ read.1 rest.0 read.3 rest.1, all.0, all.1, λ failed. cc)

pub returns-clause-runs : goal.returns-clause-runs
returns-clause-runs g c = λ limits size before written played.
    let read = c.loop.invariant limits size before written played in
    let ends = ends_uncounted g.P.LineParser.grammar limits size (before ++ read.0) (written ++ read.1) (g.R.Read.remaining c.loop.reader) c.loop.lines c.loop.sim (omega (arith, read.5, c.loop-test.false, length-append before read.0)) read.4 in
    (read.0, read.1, read.2, read.3, ends.0, ends.1, λ failed. ends.2)
