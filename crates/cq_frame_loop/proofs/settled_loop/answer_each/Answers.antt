-- One frame more is answered, or a fault comes at it; behind the last one all is settled and written.
use Rattle.std.proofs.Common.{◌≡◌, inl, ◌-◌, ℕ, List, [], ◌++◌, length, take, drop, Bor, option_map, sym, ap, ◌∙◌, subst, arith, append-nil}
use Rattle.std.proofs.lemmas.Result.{err_from_is_err_and}
use Rattle.std.proofs.lemmas.List.Prefix.{end_rest}
use Rattle.std.proofs.KnownBytes.{Appends-nil, Appends-trans}
use Rattle.cq_frame_loop.specs.Cutting.{frames_behind}
use Rattle.cq_frame_loop.specs.within.Advances.{Advances}
use Rattle.cq_frame_loop.proofs.Cuts.{nothing_passed, parts, parts_on, rest_fits, unfinished_behind}
use Rattle.cq_frame_loop.proofs.Advancing.{told_same}
use Rattle.cq_frame_loop.proofs.Settled.{last_or_more, passes_none, proceeded, proceeds_first, proceeds_on, settled_end, stops_at}
use Rattle.cq_frame_loop.proofs.Waiting.{waits_proceeding}
use Rattle.cq_frame_loop.proofs.settled_loop.answer_each.Goals as goal

pub loop-frame-init : goal.loop-frame-init
loop-frame-init g c =
    let rest = c.pass-passed.result.0.now in
    let more = c.pass-passed.result.1 in
    let is_rest = c.pass-passed.ensures.rest in
    let is_more = c.pass-passed.ensures.more in (
      [],
      Appends-nil _,
      proceeds_first g.H.SettlingHandler.answers g.H.SettlingHandler.is_settled c.args.handler.now c.args.count more c.args.bytes.now c.args.out.now.items rest c.requires.settled c.requires.nothing is_rest is_more,
      λ some. nothing_passed c.args.count more c.args.bytes.now rest is_rest is_more some,
      (take c.args.count c.args.bytes.now, parts c.args.count c.args.bytes.now rest is_rest),
      c.requires.empty,
      c.requires.room,
      c.requires.ready,
      inl (c.requires.settled, c.requires.nothing),
    )

pub returns-in_err-answer_settled-clause-stops : goal.returns-in_err-answer_settled-clause-stops
returns-in_err-answer_settled-clause-stops g c =
    let before = c.loop-frame.invariant in
    let rest = c.loop-frame.rest.now in
    let none : c.loop-frame.passed ≡ 0 = before.3 (omega (arith, c.in-Some.ensures.long.1)) in
    let now = passes_none g.H.SettlingHandler.answers g.H.SettlingHandler.is_settled c.args.handler.now c.loop-frame.handler c.args.count c.loop-frame.passed 0 c.args.bytes.now before.0 c.loop-frame.out.items rest none before.2 in
    let failed = c.in_err-answer_settled.ensures.stops in
    let frame = option_map {T = Bor (List ℕ)} {U = List ℕ} (λ bytes. bytes.now) c.in-Some.frame in
    let fault = err_from_is_err_and c.from_residual.result c.from_residual.ensures.1 in
    rw (fault.1, fault.2) (
      before.0 ++ failed.0,
      Appends-trans _ _ _ before.0 failed.0 before.1 failed.1,
      stops_at g.H.SettlingHandler.answers g.H.SettlingHandler.stops g.H.SettlingHandler.is_settled c.args.handler.now c.loop-frame.handler c.answer_settled.new.handler c.args.count c.in-Some.size c.args.bytes.now before.0 c.loop-frame.out.items rest failed.0 frame now c.in-Some.ensures.begins failed.2,
      failed.3,
    )

pub loop-frame-preserved : goal.loop-frame-preserved
loop-frame-preserved g c =
    let before = c.loop-frame.invariant in
    let rest = c.loop-frame.rest.now in
    let out = c.loop-frame.out.items in
    let later = c.pass-more.result.0.now in
    let more = c.pass-more.result.1 in
    let is_rest = c.pass-more.ensures.rest in
    let is_more = c.pass-more.ensures.more in
    let none : c.loop-frame.passed ≡ 0 = before.3 (omega (arith, c.in-Some.ensures.long.1)) in
    let now = passes_none g.H.SettlingHandler.answers g.H.SettlingHandler.is_settled c.args.handler.now c.loop-frame.handler c.args.count c.loop-frame.passed 0 c.args.bytes.now before.0 out rest none before.2 in
    let told = c.in_ok-answer_settled.ensures.answers in
    let frame = option_map {T = Bor (List ℕ)} {U = List ℕ} (λ bytes. bytes.now) c.in-Some.frame in
    let all = proceeds_on g.H.SettlingHandler.answers g.H.SettlingHandler.is_settled c.args.handler.now c.loop-frame.handler c.answer_settled.new.handler c.args.count c.in-Some.size more c.args.bytes.now before.0 out c.answer_settled.new.out.items rest later told.0 frame _ _ now c.in-Some.ensures.begins told.1 is_rest is_more told.2 in (
      before.0 ++ all.0,
      Appends-trans _ _ _ before.0 all.0 before.1 all.1,
      all.2,
      λ some. nothing_passed c.in-Some.size more rest later is_rest is_more some,
      (before.4.0 ++ take c.in-Some.size rest, parts_on c.in-Some.size c.args.bytes.now before.4.0 rest later before.4.1 is_rest),
      c.in_ok-answer_settled.ensures.empty,
      c.in_ok-answer_settled.ensures.room,
      c.in_ok-answer_settled.ensures.ready,
      last_or_more (λ bytes. bytes.now) (g.H.SettlingHandler.is_settled c.answer_settled.new.handler × (c.answer_settled.new.out.items ≡ [])) later c.front_of-in-Some.result c.is_none-is_last.result c.is_none-is_last.ensures c.front_of-in-Some.ensures.begins c.in_ok-answer_settled.ensures.settled,
    )

pub returns-clause-answers : goal.returns-clause-answers
returns-clause-answers g c =
    let before = c.loop-frame.invariant in
    let bytes = c.args.bytes.now in
    let rest = c.loop-frame.rest.now in
    let ended = settled_end g.H.SettlingHandler.answers (g.H.SettlingHandler.is_settled c.loop-frame.handler) c.loop-frame.out.items rest before.8 c.in_default.ensures.unfinished in
    let is : drop (length bytes - length rest) bytes ≡ rest = end_rest bytes rest before.4.0 before.4.1 in
    let all = told_same g.H.SettlingHandler.answers c.args.handler.now c.loop-frame.handler c.args.count c.loop-frame.passed bytes (before.0 ++ c.loop-frame.out.items) before.0 rest (sym (ap (λ xs. before.0 ++ xs) ended.1 ∙ append-nil before.0))
    (proceeded g.H.SettlingHandler.answers g.H.SettlingHandler.is_settled c.args.handler.now c.loop-frame.handler c.args.count c.loop-frame.passed bytes before.0 c.loop-frame.out.items rest before.2) in (
      before.0,
      before.1,
      record {
        within = rest_fits bytes before.4.0 rest before.4.1;
        advances = subst (λ xs. Advances g.H.SettlingHandler.answers c.args.handler.now c.args.count bytes before.0 c.loop-frame.handler c.loop-frame.passed xs) (sym is) all;
        unfinished = ap (frames_behind c.loop-frame.passed) is ∙ unfinished_behind c.loop-frame.passed rest before.3 c.in_default.ensures.unfinished;
        short = c.in_default.ensures.short;
      },
    )

pub returns-clause-settled : goal.returns-clause-settled
returns-clause-settled g c = (settled_end g.H.SettlingHandler.answers (g.H.SettlingHandler.is_settled c.loop-frame.handler) c.loop-frame.out.items c.loop-frame.rest.now c.loop-frame.invariant.8 c.in_default.ensures.unfinished).0

pub returns-clause-nothing : goal.returns-clause-nothing
returns-clause-nothing g c = (settled_end g.H.SettlingHandler.answers (g.H.SettlingHandler.is_settled c.loop-frame.handler) c.loop-frame.out.items c.loop-frame.rest.now c.loop-frame.invariant.8 c.in_default.ensures.unfinished).1

pub answer_settled-requires-clause-waits : goal.answer_settled-requires-clause-waits
answer_settled-requires-clause-waits g c =
    let before = c.loop-frame.invariant in
    waits_proceeding g.H.SettlingHandler.answers g.H.SettlingHandler.is_settled c.args.handler.now c.loop-frame.handler c.args.count c.loop-frame.passed c.args.bytes.now before.0 c.loop-frame.out.items c.loop-frame.rest.now before.2
