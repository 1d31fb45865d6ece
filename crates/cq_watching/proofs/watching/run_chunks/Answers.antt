-- By the chunks that were run before, and how the last read went.
use Rattle.std.proofs.Common.{◌++◌, [], Err, sym, take, arith}
use Rattle.std.proofs.lemmas.Result.{err_from_is_err_and}
use Rattle.std.proofs.KnownBytes.{Consumes-nil, Consumes-trans, Consumes-kept, Appends-nil}
use Rattle.cq_lines.proofs.Endings.{Consumes-nothing}
use Rattle.cq_watching.specs.Coming.{after_bytes, by_bytes, nothing_yet}
use Rattle.cq_watching.specs.Watching.{line_text, watched_behind}
use Rattle.cq_watching.proofs.Adding.{end-adds, keeps-as, more-lines, on_ok_map, unended, unended-adds}
use Rattle.cq_watching.proofs.Coming.{after-append}
use Rattle.cq_watching.proofs.watching.run_chunks.Goals as goal

pub loop-init : goal.loop-init
unfolding after_bytes by_bytes
loop-init g c = λ size kept. ([], Consumes-nil _, Appends-nil _, kept)

pub returns-then-failed : goal.returns-then-failed
returns-then-failed g c = λ size kept.
    let read = c.loop.invariant size kept in
    let input = Consumes-nothing _ _ _ read.0 c.read.new.buf _ c.in-Ok-eq0.field-0-test read.1 c.in-Ok-eq0.ensures.bytes.0 in
    (read.0, watched_behind size nothing_yet read.0, input, read.2, (unended (line_text size) nothing_yet read.0, tt))

pub returns-in-Ok-eq0 : goal.returns-in-Ok-eq0
returns-in-Ok-eq0 g c = λ size kept.
    let read = c.loop.invariant size kept in
    let input = Consumes-nothing _ _ _ read.0 c.read.new.buf _ c.in-Ok-eq0.field-0-test read.1 c.in-Ok-eq0.ensures.bytes.0 in
    let end = c.in-Ok-eq0.ensures.bytes.1 c.in-Ok-eq0.field-0-test (omega arith) in
    let adds = end-adds c.end_line.result (line_text size) nothing_yet read.0 _ _ _ read.2 (c.end_line.ensures.adds size (after_bytes nothing_yet read.0) read.3) in
    (read.0, adds.0, input, adds.1, (adds.2, on_ok_map c.end_line.result (λ all. (end, all)) adds.3))

pub returns-in_err-run_chunk-in-Ok : goal.returns-in_err-run_chunk-in-Ok
returns-in_err-run_chunk-in-Ok g c = λ size kept.
    let read = c.loop.invariant size kept in
    let chunk = take c.in-Ok.count c.read.new.buf in
    let fault = err_from_is_err_and c.from_residual.result c.from_residual.ensures.1 in
    let adds = unended-adds c.in_err-run_chunk-in-Ok.field-0.0 (line_text size) nothing_yet read.0 chunk _ _ _ read.2 (c.in_err-run_chunk-in-Ok.ensures.adds size (after_bytes nothing_yet read.0) read.3) in
    rw fault.1 (read.0 ++ chunk, adds.0, Consumes-trans _ _ _ read.0 chunk read.1 c.in-Ok.ensures.bytes.0, adds.1, (adds.2, tt))

pub returns-in-Err : goal.returns-in-Err
returns-in-Err g c = λ size kept.
    let read = c.loop.invariant size kept in
    (read.0, watched_behind size nothing_yet read.0, Consumes-kept _ _ _ read.0 read.1 c.in-Err.ensures.bytes, read.2, (unended (line_text size) nothing_yet read.0, tt))

pub loop-preserved : goal.loop-preserved
loop-preserved g c = λ size kept.
    let read = c.loop.invariant size kept in
    let chunk = take c.in-Ok.count c.read.new.buf in
    let adds = c.in_ok-run_chunk-in-Ok.ensures.adds size (after_bytes nothing_yet read.0) read.3 in (
      read.0 ++ chunk,
      Consumes-trans _ _ _ read.0 chunk read.1 c.in-Ok.ensures.bytes.0,
      more-lines (line_text size) nothing_yet read.0 chunk adds.0 _ _ _ read.2 adds.1 adds.3,
      keeps-as size _ _ _ (sym (after-append nothing_yet read.0 chunk)) (c.in_ok-run_chunk-in-Ok.ensures.keeps size (after_bytes nothing_yet read.0) read.3),
    )

pub returns : goal.returns
returns g c = λ size kept.
    let read = c.loop.invariant size kept in
    (read.0, watched_behind size nothing_yet read.0, read.1, read.2, (unended (line_text size) nothing_yet read.0, tt))
