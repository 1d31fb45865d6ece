-- A part more was read.
use Rattle.std.proofs.Common.{◌≡◌, ℕ, ◌+◌, ◌-◌, List, drop, refl, sym, ap, ◌∙◌, arith, take, take_all, length-drop}
use Rattle.cq_records.specs.Frames.{are_zeros}
use Rattle.cq_kept_run.proofs.Zeros.{other_read, part_behind, zeros_read}
use Rattle.cq_kept_run.proofs.blank.is_blank_from.Goals as goal

pub loop-done-init : goal.loop-done-init
loop-done-init g c =
    let none : c.args.from - c.args.from ≡ 0 = omega arith in
    (refl, λ honest. honest, λ honest. ap (λ n. are_zeros (take n (drop c.args.from (g.D.Device.seen c.args.device.now)))) none, omega arith)

pub loop-done-preserved : goal.loop-done-preserved
loop-done-preserved g c =
    let i = c.loop-done.invariant in
    let e = c.are_zeros_at.ensures in
    let from = c.args.from in
    let done = c.loop-done.done in
    let behind = ap (drop from) i.0 in
    let on : (done - from) + c.min-many.result ≡ (done + c.min-many.result) - from = omega (arith, i.3) in (
      e.seen ∙ i.0,
      λ honest. i.1 (e.honest honest),
      λ honest. ap (λ n. are_zeros (take n (drop from (g.D.Device.seen c.args.device.now)))) (sym on)
          ∙ zeros_read (done - from) _ _ _ _ behind (c.in_ok-is_zero.ensures.zeros honest ∙ ap are_zeros (part_behind from done _ _ i.3)) c.if-not-is_zero.false (i.2 (e.honest honest)),
      omega (arith, i.3),
    )

pub returns-then-not-is_zero-clause-blank : goal.returns-then-not-is_zero-clause-blank
returns-then-not-is_zero-clause-blank g c = λ honest.
    let i = c.loop-done.invariant in
    sym (other_read (c.loop-done.done - c.args.from) _ _ _ _ (ap (drop c.args.from) i.0) (c.in_ok-is_zero.ensures.zeros honest ∙ ap are_zeros (part_behind c.args.from c.loop-done.done _ _ i.3)) c.if-not-is_zero.true)

pub returns-clause-blank : goal.returns-clause-blank
returns-clause-blank g c = λ honest.
    let i = c.loop-done.invariant in
    sym (sym (ap are_zeros (take_all (c.loop-done.done - c.args.from) _ (omega (arith, c.len-len.ensures, c.loop-done-test.false, length-drop c.args.from (g.D.Device.seen c.args.device.now))))) ∙ i.2 honest)
