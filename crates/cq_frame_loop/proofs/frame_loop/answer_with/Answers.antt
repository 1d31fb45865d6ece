-- By what was read before, and how the last read went.
use Rattle.std.proofs.Common.{◌≡◌, false, ◌<◌, ◌+◌, [], ◌++◌, take, drop, subst, inl, inr, refl, length, length-append, length-take, length-drop, arith}
use Rattle.std.proofs.lemmas.Result.{err_from_is_err_and}
use Rattle.std.proofs.KnownBytes.{Consumes-nil, Consumes-trans, Consumes-kept, Appends-nil, Appends-trans, Appends-kept}
use Rattle.cq_frame_loop.specs.Cutting.{frames_behind}
use Rattle.cq_frame_loop.specs.within.Advances.{Advances, FailsIn}
use Rattle.cq_frame_loop.proofs.Cuts.{grown, unfinished_nothing}
use Rattle.cq_frame_loop.proofs.Advancing.{at_start, with_more, goes_on, fails_behind}
use Rattle.cq_frame_loop.proofs.Endings.{Consumes-nothing, all_answered, ends, ends_leaves, ends_unread, fails, fails_leaves, fails_unread, read_fails, read_leaves, read_unread}
use Rattle.cq_frame_loop.proofs.frame_loop.answer_with.Goals as goal

pub loop-init : goal.loop-init
loop-init g c =
    ([], [], Consumes-nil _, Appends-nil _, at_start g.H.FrameHandler.answers c.args.handler.now, unfinished_nothing 0, omega arith, c.requires.nothing, c.requires.empty, c.requires.room, omega arith, inl refl)

pub loop-preserved : goal.loop-preserved
loop-preserved g c =
    let read = c.loop.invariant in
    let chunk = take c.in-Ok.count (drop c.loop.len c.read_behind.new.buffer) in
    let unread = take c.loop.len c.loop.buffer in
    let more = c.in_ok-left-in-Ok.ensures.answers in
    let is = grown c.loop.len c.in-Ok.count c.loop.buffer c.read_behind.new.buffer c.read_behind.ensures.front in
    let left = c.in_ok-left-in-Ok.left in
    let behind = subst (λ xs. Advances g.H.FrameHandler.answers c.loop.handler c.loop.passed xs more.0 c.answer_buffer.new.handler left.1 (take left.0 c.answer_buffer.new.buffer)) is more.2 in (
      read.0 ++ chunk,
      read.1 ++ more.0,
      Consumes-trans _ _ _ read.0 chunk read.2 c.in-Ok.ensures.bytes.0,
      Appends-trans _ _ _ read.1 more.0 read.3 more.1,
      goes_on g.H.FrameHandler.answers c.args.handler.now c.loop.handler c.answer_buffer.new.handler 0 c.loop.passed left.1 (read.0 ++ chunk) read.1 (unread ++ chunk) more.0 (take left.0 c.answer_buffer.new.buffer)
          (with_more g.H.FrameHandler.answers c.args.handler.now c.loop.handler 0 c.loop.passed read.0 read.1 unread chunk read.4) behind,
      more.3,
      c.in_ok-left-in-Ok.ensures.short,
      c.in_ok-left-in-Ok.ensures.nothing,
      c.in_ok-left-in-Ok.ensures.empty,
      c.in_ok-left-in-Ok.ensures.room,
      omega (arith, read.10, c.in-Ok.count-test, c.in-Ok.ensures.bound, length-append read.0 chunk, length-take c.in-Ok.count (drop c.loop.len c.read_behind.new.buffer)),
      inr c.in_ok-left-in-Ok.ensures.flushed,
    )

pub returns-in_err-left-in-Ok-clause-answers : goal.returns-in_err-left-in-Ok-clause-answers
returns-in_err-left-in-Ok-clause-answers g c =
    let read = c.loop.invariant in
    let chunk = take c.in-Ok.count (drop c.loop.len c.read_behind.new.buffer) in
    let unread = take c.loop.len c.loop.buffer in
    let failed = c.in_err-left-in-Ok.ensures.fails in
    let is = grown c.loop.len c.in-Ok.count c.loop.buffer c.read_behind.new.buffer c.read_behind.ensures.front in
    let one = c.in_err-left-in-Ok.field-0.0 in
    let behind = subst (λ xs. FailsIn g.H.FrameHandler.answers g.H.FrameHandler.breaks one c.loop.handler (frames_behind c.loop.passed xs) failed.0 c.answer_buffer.new.handler) is failed.2 in
    let fault = err_from_is_err_and c.from_residual.result c.from_residual.ensures.1 in
    rw (fault.1, fault.2) (
      read.0 ++ chunk,
      read.1 ++ failed.0,
      Consumes-trans _ _ _ read.0 chunk read.2 c.in-Ok.ensures.bytes.0,
      Appends-trans _ _ _ read.1 failed.0 read.3 failed.1,
      fails g.H.FrameHandler.answers g.H.FrameHandler.breaks one c.args.handler.now c.answer_buffer.new.handler (read.0 ++ chunk) (read.1 ++ failed.0) _
          (fails_behind g.H.FrameHandler.answers g.H.FrameHandler.breaks one c.args.handler.now c.loop.handler c.answer_buffer.new.handler 0 c.loop.passed (read.0 ++ chunk) read.1 (unread ++ chunk) failed.0
          (with_more g.H.FrameHandler.answers c.args.handler.now c.loop.handler 0 c.loop.passed read.0 read.1 unread chunk read.4) behind),
      fails_leaves g.H.FrameHandler.answers g.H.FrameHandler.breaks one c.loop.handler c.answer_buffer.new.handler (frames_behind c.loop.passed (take (c.loop.len + c.in-Ok.count) c.read_behind.new.buffer)) (read.0 ++ chunk) failed.0 _ _ failed.2 c.in_err-left-in-Ok.ensures.leaves,
    )

pub returns-then-failed-clause-answers : goal.returns-then-failed-clause-answers
returns-then-failed-clause-answers g c =
    let read = c.loop.invariant in
    let input = Consumes-nothing _ _ _ read.0 (drop c.loop.len c.read_behind.new.buffer) _ c.in-Ok-eq0.field-0-test read.2 c.in-Ok-eq0.ensures.bytes.0 in (
      read.0,
      read.1,
      input,
      read.3,
      all_answered g.H.FrameHandler.answers c.args.handler.now c.loop.handler c.loop.passed read.0 read.1 (take c.loop.len c.loop.buffer) read.4 read.5,
      read.11,
    )

pub returns-in_err-left-in-Ok-clause-reader : goal.returns-in_err-left-in-Ok-clause-reader
returns-in_err-left-in-Ok-clause-reader g c =
    let failed = c.in_err-left-in-Ok.ensures.fails in
    let fault = err_from_is_err_and c.from_residual.result c.from_residual.ensures.1 in
    rw (fault.1, fault.2) (fails_unread g.H.FrameHandler.answers g.H.FrameHandler.breaks c.in_err-left-in-Ok.field-0.0 c.loop.handler c.answer_buffer.new.handler (frames_behind c.loop.passed (take (c.loop.len + c.in-Ok.count) c.read_behind.new.buffer)) failed.0 _ failed.2)

pub returns-in-Ok-eq0-clause-answers : goal.returns-in-Ok-eq0-clause-answers
returns-in-Ok-eq0-clause-answers g c =
    let read = c.loop.invariant in
    let room : 0 < length (drop c.loop.len c.read_behind.new.buffer) =
    omega (arith, read.6, c.requires.size, c.read_behind.auto.buffer, c.loop.auto.buffer, length-drop c.loop.len c.read_behind.new.buffer) in
    let input = Consumes-nothing _ _ _ read.0 (drop c.loop.len c.read_behind.new.buffer) _ c.in-Ok-eq0.field-0-test read.2 c.in-Ok-eq0.ensures.bytes.0 in
    let end = c.in-Ok-eq0.ensures.bytes.1 c.in-Ok-eq0.field-0-test room in
    let all = all_answered g.H.FrameHandler.answers c.args.handler.now c.loop.handler c.loop.passed read.0 read.1 (take c.loop.len c.loop.buffer) read.4 read.5 in (
      read.0,
      read.1,
      input,
      Appends-kept _ _ _ read.1 read.3 c.flush_all.ensures.kept,
      ends g.H.FrameHandler.answers g.H.FrameHandler.breaks c.flush_all.result c.args.handler.now c.loop.handler read.0 read.1 _ c.flush_all.ensures.kind end all,
      ends_leaves c.flush_all.result read.0 _ _ c.flush_all.ensures.kind c.flush_all.ensures.leaves c.flush_all.ensures.sound c.flush_all.ensures.flushed,
    )

pub returns-in-Ok-eq0-clause-reader : goal.returns-in-Ok-eq0-clause-reader
returns-in-Ok-eq0-clause-reader g c =
    let sound : g.R.Source.has_failed c.read_behind.new.reader ≡ false = cc in
    ends_unread c.flush_all.result _ c.flush_all.ensures.kind sound

pub returns-in-Err-clause-answers : goal.returns-in-Err-clause-answers
returns-in-Err-clause-answers g c =
    let read = c.loop.invariant in
    let all = all_answered g.H.FrameHandler.answers c.args.handler.now c.loop.handler c.loop.passed read.0 read.1 (take c.loop.len c.loop.buffer) read.4 read.5 in (
      read.0,
      read.1,
      Consumes-kept _ _ _ read.0 read.2 c.in-Err.ensures.bytes,
      read.3,
      read_fails g.H.FrameHandler.answers g.H.FrameHandler.breaks c.read_fault.result c.args.handler.now c.loop.handler read.0 read.1 _ _ c.read_fault.ensures all,
      read_leaves c.read_fault.result read.0 _ _ _ c.read_fault.ensures read.11,
    )

pub returns-in-Err-clause-reader : goal.returns-in-Err-clause-reader
returns-in-Err-clause-reader g c = read_unread c.read_fault.result _ c.read_fault.ensures

pub returns-clause-answers : goal.returns-clause-answers
returns-clause-answers g c =
    let read = c.loop.invariant in
    let all = all_answered g.H.FrameHandler.answers c.args.handler.now c.loop.handler c.loop.passed read.0 read.1 (take c.loop.len c.loop.buffer) read.4 read.5 in
    (read.0, read.1, read.2, read.3, (omega (arith, read.10, c.loop-test.false), all), read.11)
