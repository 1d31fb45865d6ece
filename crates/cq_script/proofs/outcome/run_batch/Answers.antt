-- What comes of each line comes next in the text of them all.
use Rattle.std.proofs.Common.{◌+◌, ◌<◌, ◌≤◌, [], ◌++◌, length, drop, ap, sym, ◌∙◌, refl, subst, append-nil, arith}
use Rattle.std.proofs.lemmas.Result.{err_from_is_err_and}
use Rattle.std.proofs.KnownBytes.{Appends-trans, Appends-kept}
use Rattle.cq_world.specs.Stands.{StandsFor}
use Rattle.cq_world.proofs.OfSim.Calls.{had-ok, had-err}
use Rattle.cq_script.specs.Output.{text_from, after_line}
use Rattle.cq_script.proofs.Prefixes.{all_written, fault_written, fault_now, no_read_part, no_read_end}
use Rattle.cq_script.proofs.Outcomes.{line_next, world_next, text_last, world_last, whole_written, on_any, split_text}
use Rattle.cq_script.proofs.outcome.run_batch.Goals as goal
use Rattle.cq_script.proofs.outcome.run_batch.Goals.{then-len-ge-TEXT_SIZE+in_ok-write_text-2, else-len-ge-TEXT_SIZE}

pub returns-in_err-write_text-clause-takes : goal.returns-in_err-write_text-clause-takes
returns-in_err-write_text-clause-takes g c = λ first at.
    let before = c.loop-line.invariant first at in
    let took = c.in_err-write_text.ensures.takes in
    let text = c.as_slice.ensures.value ∙ had-err c.run_line.result (sym c.if-is_err.ensures.value) c.run_line.ensures.err in
    let fault = err_from_is_err_and c.from_residual.result c.from_residual.ensures.1 in
    rw (fault.1, fault.2) (
      before.1 ++ took.0,
      Appends-trans _ _ _ before.1 took.0 before.3 took.1,
      fault_written c.in_err-write_text.field-0.0 _ before.1 c.as_slice.result.now took.0 _ (split_text _ before.1 _ _ _ text before.4) took.2,
    )

pub returns-then-is_err-clause-takes : goal.returns-then-is_err-clause-takes
returns-then-is_err-clause-takes g c = λ first at.
    let before = c.loop-line.invariant first at in
    let took = c.in_ok-write_text.ensures.takes in
    let text = c.as_slice.ensures.value ∙ had-err c.run_line.result (sym c.if-is_err.ensures.value) c.run_line.ensures.err in
    (before.1 ++ took.0, Appends-trans _ _ _ before.1 took.0 before.3 took.1, fault_now _ before.1 c.as_slice.result.now took.0 _ (split_text _ before.1 _ _ _ text before.4) took.2)

pub returns-in_err-write_text-2-clause-takes : goal.returns-in_err-write_text-2-clause-takes
returns-in_err-write_text-2-clause-takes g c = λ first at.
    let before = c.loop-line.invariant first at in
    let took = c.in_err-write_text-2.ensures.takes in
    let i = c.loop-line.line-index in
    let inside : i < length c.args.lines.now = omega (arith, c.loop-line-test.true, c.loop-line.auto.line-index-end) in
    let done = had-ok c.run_line.result (sym c.if-is_err.ensures.value) (c.run_line.ensures.ok before.0 before.2) in
    let next = line_next _ before.1 c.loop-line.text.items c.run_line.new.text.items before.0 i c.args.lines.now c.line-item.result inside c.line-item.is before.4 done.0 in
    let fault = err_from_is_err_and c.from_residual-in_err-write_text-2.result c.from_residual-in_err-write_text-2.ensures.1 in
    rw (fault.1, fault.2) (
      before.1 ++ took.0,
      Appends-trans _ _ _ before.1 took.0 before.3 took.1,
      fault_written c.in_err-write_text-2.field-0.0 _ before.1 c.as_slice-then-len-ge-TEXT_SIZE.result.now took.0 _
          (split_text _ before.1 _ _ _ c.as_slice-then-len-ge-TEXT_SIZE.ensures.value next) took.2,
    )

pub loop-line-preserved : goal.loop-line-preserved
loop-line-preserved g c = λ first at.
    let before = c.loop-line.invariant first at in
    let i = c.loop-line.line-index in
    let inside : i < length c.args.lines.now = omega (arith, c.loop-line-test.true, c.loop-line.auto.line-index-end) in
    let done = had-ok c.run_line.result (sym c.if-is_err.ensures.value) (c.run_line.ensures.ok before.0 before.2) in
    let next = line_next _ before.1 c.loop-line.text.items c.run_line.new.text.items before.0 i c.args.lines.now c.line-item.result inside c.line-item.is before.4 done.0 in
    let world = world_next _ before.0 i c.args.lines.now c.line-item.result inside c.line-item.is before.5 in
    let rest = text_from (after_line before.0 c.line-item.result.event) (drop (i + 1) c.args.lines.now) in
    elim c.if-len-ge-TEXT_SIZE.branch [
      | then-len-ge-TEXT_SIZE+in_ok-write_text-2 w ↦
          let took = w.in_ok-write_text-2.ensures.takes in
          rw (w.writer-is, w.text-is, w.clear.ensures.items) (
            after_line before.0 c.line-item.result.event,
            before.1 ++ took.0,
            done.1,
            Appends-trans _ _ _ before.1 took.0 before.3 took.1,
            next ∙ ap (λ t. (before.1 ++ t) ++ rest) (sym (took.2 ∙ w.as_slice-then-len-ge-TEXT_SIZE.ensures.value)) ∙ ap (λ t. t ++ rest) (sym (append-nil (before.1 ++ took.0))),
            world,
          )
      | else-len-ge-TEXT_SIZE w ↦
          rw (w.writer-is, w.text-is) (after_line before.0 c.line-item.result.event, before.1, done.1, before.3, next, world)
    ]

pub returns-in_err-write_text-3-clause-takes : goal.returns-in_err-write_text-3-clause-takes
returns-in_err-write_text-3-clause-takes g c = λ first at.
    let before = c.loop-line.invariant first at in
    let took = c.in_err-write_text-3.ensures.takes in
    let past : length c.args.lines.now ≤ c.loop-line.line-index = omega (arith, c.loop-line-test.false) in
    let last = text_last _ before.1 c.loop-line.text.items before.0 c.loop-line.line-index c.args.lines.now past before.4 in
    let fault = err_from_is_err_and c.from_residual-in_err-write_text-3.result c.from_residual-in_err-write_text-3.ensures.1 in
    rw (fault.1, fault.2) (
      before.1 ++ took.0,
      Appends-trans _ _ _ before.1 took.0 before.3 took.1,
      fault_written c.in_err-write_text-3.field-0.0 _ before.1 c.as_slice-2.result.now took.0 [] (last ∙ ap (λ t. before.1 ++ (t ++ [])) (sym c.as_slice-2.ensures.value)) took.2,
    )

pub returns-clause-takes : goal.returns-clause-takes
returns-clause-takes g c = λ first at.
    let before = c.loop-line.invariant first at in
    let took = c.in_ok-write_text-3.ensures.takes in
    let past : length c.args.lines.now ≤ c.loop-line.line-index = omega (arith, c.loop-line-test.false) in
    let last = text_last _ before.1 c.loop-line.text.items before.0 c.loop-line.line-index c.args.lines.now past before.4 in
    let all = whole_written _ before.1 c.loop-line.text.items took.0 last (took.2 ∙ c.as_slice-2.ensures.value) in
    (before.1 ++ took.0, Appends-kept _ _ _ (before.1 ++ took.0) (Appends-trans _ _ _ before.1 took.0 before.3 took.1) c.finish_writing.ensures.kept, all_written c.finish_writing.result _ _ (before.1 ++ took.0) c.finish_writing.ensures.answer all)

pub returns-clause-runs : goal.returns-clause-runs
returns-clause-runs g c = λ first at.
    let before = c.loop-line.invariant first at in
    let past : length c.args.lines.now ≤ c.loop-line.line-index = omega (arith, c.loop-line-test.false) in
    on_any c.finish_writing.result (subst (λ v. StandsFor c.loop-line.sim v) (world_last _ before.0 c.loop-line.line-index c.args.lines.now past before.5) before.2)

pub returns-in_err-write_text-clause-not_read : goal.returns-in_err-write_text-clause-not_read
returns-in_err-write_text-clause-not_read g c =
    let fault = err_from_is_err_and c.from_residual.result c.from_residual.ensures.1 in
    rw (fault.1, fault.2) (no_read_part c.in_err-write_text.field-0.0 _ _ _ refl c.in_err-write_text.ensures.takes.2)

pub returns-in_err-write_text-2-clause-not_read : goal.returns-in_err-write_text-2-clause-not_read
returns-in_err-write_text-2-clause-not_read g c =
    let fault = err_from_is_err_and c.from_residual-in_err-write_text-2.result c.from_residual-in_err-write_text-2.ensures.1 in
    rw (fault.1, fault.2) (no_read_part c.in_err-write_text-2.field-0.0 _ _ _ refl c.in_err-write_text-2.ensures.takes.2)

pub returns-in_err-write_text-3-clause-not_read : goal.returns-in_err-write_text-3-clause-not_read
returns-in_err-write_text-3-clause-not_read g c =
    let fault = err_from_is_err_and c.from_residual-in_err-write_text-3.result c.from_residual-in_err-write_text-3.ensures.1 in
    rw (fault.1, fault.2) (no_read_part c.in_err-write_text-3.field-0.0 _ _ _ refl c.in_err-write_text-3.ensures.takes.2)

pub returns-clause-not_read : goal.returns-clause-not_read
returns-clause-not_read g c = no_read_end c.finish_writing.result _ c.finish_writing.ensures.answer
