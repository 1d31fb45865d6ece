-- By what was read before, and how the last read went.
use Rattle.std.proofs.Common.{◌<◌, ◌+◌, [], ◌++◌, take, drop, subst, inl, inr, refl, length, length-append, length-take, length-drop, arith}
use Rattle.std.proofs.lemmas.Result.{err_from_is_err_and}
use Rattle.std.proofs.KnownBytes.{Consumes-nil, Consumes-trans, Consumes-kept, Appends-nil, Appends-trans, Appends-kept}
use Rattle.cq_frame_loop.specs.Cutting.{frames_behind}
use Rattle.cq_frame_loop.specs.within.Advances.{Advances}
use Rattle.cq_frame_loop.specs.Settling.{StopsFront}
use Rattle.cq_frame_loop.proofs.Cuts.{grown, unfinished_nothing}
use Rattle.cq_frame_loop.proofs.Advancing.{at_start, with_more, goes_on}
use Rattle.cq_frame_loop.proofs.Endings.{Consumes-nothing, all_answered}
use Rattle.cq_frame_loop.proofs.Settled.{end_leaves_settled, end_stops, read_leaves_settled, read_stops, read_unread_settled, stop_leaves, stop_unread, stopped, stops_in_rest}
use Rattle.cq_frame_loop.proofs.settled_loop.answer_with.Goals as goal

pub loop-init : goal.loop-init
loop-init g c =
    ([], [], Consumes-nil _, Appends-nil _, at_start g.H.SettlingHandler.answers c.args.handler.now, unfinished_nothing 0, omega arith, c.requires.nothing, c.requires.empty, c.requires.room, omega arith, inl refl, c.requires.ready, c.requires.settled)

pub loop-preserved : goal.loop-preserved
loop-preserved g c =
    let read = c.loop.invariant in
    let chunk = take c.in-Ok.count (drop c.loop.len c.read_behind.new.buffer) in
    let unread = take c.loop.len c.loop.buffer in
    let more = c.in_ok-left-in-Ok.ensures.answers in
    let is = grown c.loop.len c.in-Ok.count c.loop.buffer c.read_behind.new.buffer c.read_behind.ensures.front in
    let left = c.in_ok-left-in-Ok.left in
    let behind = subst (λ xs. Advances g.H.SettlingHandler.answers c.loop.handler c.loop.passed xs more.0 c.answer_buffer.new.handler left.1 (take left.0 c.answer_buffer.new.buffer)) is more.2 in (
      read.0 ++ chunk,
      read.1 ++ more.0,
      Consumes-trans _ _ _ read.0 chunk read.2 c.in-Ok.ensures.bytes.0,
      Appends-trans _ _ _ read.1 more.0 read.3 more.1,
      goes_on g.H.SettlingHandler.answers c.args.handler.now c.loop.handler c.answer_buffer.new.handler 0 c.loop.passed left.1 (read.0 ++ chunk) read.1 (unread ++ chunk) more.0 (take left.0 c.answer_buffer.new.buffer)
          (with_more g.H.SettlingHandler.answers c.args.handler.now c.loop.handler 0 c.loop.passed read.0 read.1 unread chunk read.4) behind,
      more.3,
      c.in_ok-left-in-Ok.ensures.short,
      c.in_ok-left-in-Ok.ensures.nothing,
      c.in_ok-left-in-Ok.ensures.empty,
      c.in_ok-left-in-Ok.ensures.room,
      omega (arith, read.10, c.in-Ok.count-test, c.in-Ok.ensures.bound, length-append read.0 chunk, length-take c.in-Ok.count (drop c.loop.len c.read_behind.new.buffer)),
      inr c.in_ok-left-in-Ok.ensures.flushed,
      c.in_ok-left-in-Ok.ensures.ready,
      c.in_ok-left-in-Ok.ensures.settled,
    )

pub returns-in_err-left-in-Ok-clause-answers : goal.returns-in_err-left-in-Ok-clause-answers
returns-in_err-left-in-Ok-clause-answers g c =
    let read = c.loop.invariant in
    let chunk = take c.in-Ok.count (drop c.loop.len c.read_behind.new.buffer) in
    let unread = take c.loop.len c.loop.buffer in
    let failed = c.in_err-left-in-Ok.ensures.stops in
    let is = grown c.loop.len c.in-Ok.count c.loop.buffer c.read_behind.new.buffer c.read_behind.ensures.front in
    let one = c.in_err-left-in-Ok.field-0.0 in
    let behind = subst (λ xs. StopsFront g.H.SettlingHandler.answers g.H.SettlingHandler.stops g.H.SettlingHandler.is_settled c.loop.handler (frames_behind c.loop.passed xs) failed.0 c.answer_buffer.new.handler) is failed.2 in
    let fault = err_from_is_err_and c.from_residual.result c.from_residual.ensures.1 in
    rw (fault.1, fault.2) (
      read.0 ++ chunk,
      read.1 ++ failed.0,
      Consumes-trans _ _ _ read.0 chunk read.2 c.in-Ok.ensures.bytes.0,
      Appends-trans _ _ _ read.1 failed.0 read.3 failed.1,
      stopped g.H.SettlingHandler.answers g.H.SettlingHandler.stops g.H.SettlingHandler.is_settled one c.args.handler.now c.answer_buffer.new.handler (read.0 ++ chunk) (read.1 ++ failed.0) _ _ failed.3
          (stops_in_rest g.H.SettlingHandler.answers g.H.SettlingHandler.stops g.H.SettlingHandler.is_settled c.args.handler.now c.loop.handler c.answer_buffer.new.handler 0 c.loop.passed (read.0 ++ chunk) read.1 (unread ++ chunk) failed.0
          (with_more g.H.SettlingHandler.answers c.args.handler.now c.loop.handler 0 c.loop.passed read.0 read.1 unread chunk read.4) behind),
      stop_leaves one (read.0 ++ chunk) _ _ failed.3,
    )

pub returns-in_err-left-in-Ok-clause-reader : goal.returns-in_err-left-in-Ok-clause-reader
returns-in_err-left-in-Ok-clause-reader g c =
    let failed = c.in_err-left-in-Ok.ensures.stops in
    let fault = err_from_is_err_and c.from_residual.result c.from_residual.ensures.1 in
    rw (fault.1, fault.2) (stop_unread c.in_err-left-in-Ok.field-0.0 _ _ failed.3)

pub returns-then-failed-clause-answers : goal.returns-then-failed-clause-answers
returns-then-failed-clause-answers g c =
    let read = c.loop.invariant in
    let input = Consumes-nothing _ _ _ read.0 (drop c.loop.len c.read_behind.new.buffer) _ c.in-Ok-eq0.field-0-test read.2 c.in-Ok-eq0.ensures.bytes.0 in (
      read.0,
      read.1,
      input,
      read.3,
      (all_answered g.H.SettlingHandler.answers c.args.handler.now c.loop.handler c.loop.passed read.0 read.1 (take c.loop.len c.loop.buffer) read.4 read.5, read.13),
      read.11,
    )

pub returns-in-Err-clause-answers : goal.returns-in-Err-clause-answers
returns-in-Err-clause-answers g c =
    let read = c.loop.invariant in
    let all = all_answered g.H.SettlingHandler.answers c.args.handler.now c.loop.handler c.loop.passed read.0 read.1 (take c.loop.len c.loop.buffer) read.4 read.5 in (
      read.0,
      read.1,
      Consumes-kept _ _ _ read.0 read.2 c.in-Err.ensures.bytes,
      read.3,
      read_stops g.H.SettlingHandler.answers g.H.SettlingHandler.stops g.H.SettlingHandler.is_settled g.met.H.SettlingHandler.stops_none c.read_fault.result c.args.handler.now c.loop.handler read.0 read.1 _ _ c.read_fault.ensures all read.13,
      read_leaves_settled c.read_fault.result read.0 _ _ _ c.read_fault.ensures read.11,
    )

pub returns-in-Err-clause-reader : goal.returns-in-Err-clause-reader
returns-in-Err-clause-reader g c = read_unread_settled c.read_fault.result _ c.read_fault.ensures

pub returns-clause-answers : goal.returns-clause-answers
returns-clause-answers g c =
    let read = c.loop.invariant in
    let all = all_answered g.H.SettlingHandler.answers c.args.handler.now c.loop.handler c.loop.passed read.0 read.1 (take c.loop.len c.loop.buffer) read.4 read.5 in
    (read.0, read.1, read.2, read.3, (omega (arith, read.10, c.loop-test.false), (all, read.13)), read.11)

pub returns-in-Ok-pass_on-clause-answers : goal.returns-in-Ok-pass_on-clause-answers
returns-in-Ok-pass_on-clause-answers g c =
    let read = c.loop.invariant in
    let room : 0 < length (drop c.loop.len c.read_behind.new.buffer) =
    omega (arith, read.6, c.requires.size, c.read_behind.auto.buffer, c.loop.auto.buffer, length-drop c.loop.len c.read_behind.new.buffer) in
    let input = Consumes-nothing _ _ _ read.0 (drop c.loop.len c.read_behind.new.buffer) _ c.in-Ok-eq0.field-0-test read.2 c.in-Ok-eq0.ensures.bytes.0 in
    let end = c.in-Ok-eq0.ensures.bytes.1 c.in-Ok-eq0.field-0-test room in
    let all = all_answered g.H.SettlingHandler.answers c.args.handler.now c.loop.handler c.loop.passed read.0 read.1 (take c.loop.len c.loop.buffer) read.4 read.5 in (
      read.0,
      read.1,
      input,
      Appends-kept _ _ _ read.1 read.3 c.pass_on.ensures.kept,
      (end, (all, read.13)),
      (c.in-Ok-pass_on.ensures.sound, c.in-Ok-pass_on.ensures.flushed),
    )

pub returns-in-Err-pass_on-clause-answers : goal.returns-in-Err-pass_on-clause-answers
returns-in-Err-pass_on-clause-answers g c =
    let read = c.loop.invariant in
    let input = Consumes-nothing _ _ _ read.0 (drop c.loop.len c.read_behind.new.buffer) _ c.in-Ok-eq0.field-0-test read.2 c.in-Ok-eq0.ensures.bytes.0 in
    let all = all_answered g.H.SettlingHandler.answers c.args.handler.now c.loop.handler c.loop.passed read.0 read.1 (take c.loop.len c.loop.buffer) read.4 read.5 in (
      read.0,
      read.1,
      input,
      Appends-kept _ _ _ read.1 read.3 c.pass_on.ensures.kept,
      end_stops g.H.SettlingHandler.answers g.H.SettlingHandler.stops g.H.SettlingHandler.is_settled g.met.H.SettlingHandler.stops_none c.in-Err-pass_on.fault c.args.handler.now c.loop.handler read.0 read.1 _ c.in-Err-pass_on.ensures.kind all read.13,
      end_leaves_settled c.in-Err-pass_on.fault read.0 _ _ c.in-Err-pass_on.ensures.kind c.in-Err-pass_on.ensures.leaves,
    )
