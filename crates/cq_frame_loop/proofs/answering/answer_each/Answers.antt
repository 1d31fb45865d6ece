-- The frames of the bytes one by one, and then the bytes behind them.
use Rattle.std.proofs.Common.{◌≡◌, ◌-◌, [], ◌++◌, ℕ, List, length, take, drop, sym, ap, ◌∙◌, subst, option_map, Bor, arith}
use Rattle.std.proofs.lemmas.Result.{err_from_is_err_and}
use Rattle.std.proofs.lemmas.List.Prefix.{end_rest}
use Rattle.std.proofs.KnownBytes.{Appends-nil, Appends-trans}
use Rattle.cq_frame_loop.specs.Cutting.{frames_behind}
use Rattle.cq_frame_loop.specs.within.Advances.{Advances}
use Rattle.cq_frame_loop.proofs.Cuts.{nothing_passed, parts, parts_on, rest_fits, unfinished_behind}
use Rattle.cq_frame_loop.proofs.Passing.{told_on}
use Rattle.cq_frame_loop.proofs.Advancing.{behind_passed, behind_frame, told_same, goes_on, fails_at_frame}
use Rattle.cq_frame_loop.proofs.answering.answer_each.Goals as goal

pub loop-frame-init : goal.loop-frame-init
loop-frame-init g c =
    let rest = c.pass-passed.result.0.now in
    let more = c.pass-passed.result.1 in
    let is_rest = c.pass-passed.ensures.rest in
    let is_more = c.pass-passed.ensures.more in (
      [],
      Appends-nil _,
      told_same g.H.FrameHandler.answers c.args.handler.now c.args.handler.now c.args.count more c.args.bytes.now [] c.args.out.now.items rest c.requires.nothing
          (behind_passed g.H.FrameHandler.answers c.args.handler.now c.args.count more c.args.bytes.now rest is_rest is_more),
      λ some. nothing_passed c.args.count more c.args.bytes.now rest is_rest is_more some,
      (take c.args.count c.args.bytes.now, parts c.args.count c.args.bytes.now rest is_rest),
      c.requires.empty,
      c.requires.room,
    )

pub returns-in_err-answer_frame-clause-fails : goal.returns-in_err-answer_frame-clause-fails
returns-in_err-answer_frame-clause-fails g c =
    let before = c.loop-frame.invariant in
    let rest = c.loop-frame.rest.now in
    let told = before.0 ++ c.loop-frame.out.items in
    let none : c.loop-frame.passed ≡ 0 = before.3 (omega (arith, c.in-Some.ensures.long.1)) in
    let now = subst (λ n. Advances g.H.FrameHandler.answers c.args.handler.now c.args.count c.args.bytes.now told c.loop-frame.handler n rest) none before.2 in
    let failed = c.in_err-answer_frame.ensures.fails in
    let frame = option_map {T = Bor (List ℕ)} {U = List ℕ} (λ bytes. bytes.now) c.in-Some.frame in
    let fault = err_from_is_err_and c.from_residual.result c.from_residual.ensures.1 in
    rw (fault.1, fault.2) (
      before.0 ++ failed.0,
      Appends-trans _ _ _ before.0 failed.0 before.1 failed.1,
      fails_at_frame g.H.FrameHandler.answers g.H.FrameHandler.breaks c.in_err-answer_frame.field-0.0 c.args.handler.now c.loop-frame.handler c.answer_frame.new.handler c.args.count c.in-Some.size c.args.bytes.now before.0 c.loop-frame.out.items rest failed.0 frame now c.in-Some.ensures.begins failed.2,
    )

pub loop-frame-preserved : goal.loop-frame-preserved
loop-frame-preserved g c =
    let before = c.loop-frame.invariant in
    let rest = c.loop-frame.rest.now in
    let out = c.loop-frame.out.items in
    let later = c.pass-more.result.0.now in
    let more = c.pass-more.result.1 in
    let is_rest = c.pass-more.ensures.rest in
    let is_more = c.pass-more.ensures.more in
    let none : c.loop-frame.passed ≡ 0 = before.3 (omega (arith, c.in-Some.ensures.long.1)) in
    let now = subst (λ n. Advances g.H.FrameHandler.answers c.args.handler.now c.args.count c.args.bytes.now (before.0 ++ out) c.loop-frame.handler n rest) none before.2 in
    let told = c.in_ok-answer_frame.ensures.answers in
    let frame = option_map {T = Bor (List ℕ)} {U = List ℕ} (λ bytes. bytes.now) c.in-Some.frame in
    let one = behind_frame g.H.FrameHandler.answers c.loop-frame.handler c.answer_frame.new.handler frame told.0 rest later c.in-Some.size more c.in-Some.ensures.begins told.2 is_rest is_more in
    let all = goes_on g.H.FrameHandler.answers c.args.handler.now c.loop-frame.handler c.answer_frame.new.handler c.args.count 0 more c.args.bytes.now (before.0 ++ out) rest told.0 later now one in (
      before.0 ++ told.1,
      Appends-trans _ _ _ before.0 told.1 before.1 told.3,
      told_same g.H.FrameHandler.answers c.args.handler.now c.answer_frame.new.handler c.args.count more c.args.bytes.now ((before.0 ++ out) ++ told.0) ((before.0 ++ told.1) ++ c.answer_frame.new.out.items) later
          (told_on before.0 out told.0 told.1 c.answer_frame.new.out.items told.4) all,
      λ some. nothing_passed c.in-Some.size more rest later is_rest is_more some,
      (before.4.0 ++ take c.in-Some.size rest, parts_on c.in-Some.size c.args.bytes.now before.4.0 rest later before.4.1 is_rest),
      c.in_ok-answer_frame.ensures.empty,
      c.in_ok-answer_frame.ensures.room,
    )

pub returns-clause-answers : goal.returns-clause-answers
returns-clause-answers g c =
    let before = c.loop-frame.invariant in
    let bytes = c.args.bytes.now in
    let rest = c.loop-frame.rest.now in
    let told = before.0 ++ c.loop-frame.out.items in
    let is : drop (length bytes - length rest) bytes ≡ rest = end_rest bytes rest before.4.0 before.4.1 in (
      before.0,
      before.1,
      record {
        within = rest_fits bytes before.4.0 rest before.4.1;
        advances = subst (λ xs. Advances g.H.FrameHandler.answers c.args.handler.now c.args.count bytes told c.loop-frame.handler c.loop-frame.passed xs) (sym is) before.2;
        unfinished = ap (frames_behind c.loop-frame.passed) is ∙ unfinished_behind c.loop-frame.passed rest before.3 c.in_default.ensures.unfinished;
        short = c.in_default.ensures.short;
      },
    )
