-- By what the step gave.
use Rattle.std.proofs.Common.{◌++◌, [], Some, None, ap, sym, refl, append-nil, ◌∙◌}
use Rattle.std.proofs.lemmas.Result.{on_ok_weaker}
use Rattle.cq_answers.specs.Answers.{answer_text, refused_text}
use Rattle.cq_chain.specs.Faults.{code_of, name_of}
use Rattle.cq_events.specs.Events.{refusal_of}
use Rattle.cq_world.proofs.OfSim.RunSteps.{refusal-told}
use Rattle.cq_script.proofs.Outcomes.{told_given, told_refused}
use Rattle.cq_script.proofs.outcome.run_event.Goals as goal

pub returns-in-Ok-Some-clause-ok : goal.returns-in-Ok-Some-clause-ok
returns-in-Ok-Some-clause-ok c = λ w at.
    let done = c.in-Ok-Some.ensures.ok w at in
    let n = c.args.number in
    let answer = c.in-Ok-Some.answer in
    let told = told_given n w c.args.event.now (Some answer) c.step.new.self (answer_text n answer) done.0 (sym c.in-Ok-Some.field-0-is ∙ done.1) done.2 refl in
    on_ok_weaker c.write_answer.result (λ is. (is ∙ ap (λ t. c.args.text.now.items ++ t) told.0, told.1)) c.write_answer.ensures.ok

pub returns-in-Ok-None-clause-ok : goal.returns-in-Ok-None-clause-ok
returns-in-Ok-None-clause-ok c = λ w at.
    let done = c.in-Ok-None.ensures.ok w at in
    let told = told_given c.args.number w c.args.event.now None c.step.new.self [] done.0 (sym c.in-Ok-None.field-0-is ∙ done.1) done.2 refl in
    (sym (append-nil c.args.text.now.items) ∙ ap (λ t. c.args.text.now.items ++ t) told.0, told.1)

pub returns-in_default-clause-ok : goal.returns-in_default-clause-ok
returns-in_default-clause-ok c = λ w at.
    let refused = c.in-Err.ensures.err w at in
    let fault = c.in-Err.fault in
    let same = refusal-told fault (refusal_of w c.args.event.now) c.in_default.not-NoMemory refused.0 in
    let told = told_refused c.args.number w c.args.event.now fault c.step.new.self (refused_text c.args.number (code_of fault) (name_of fault)) same refused.1 refl in
    on_ok_weaker c.write_refused.result
    (λ is. ((rw (c.code.ensures, c.name.ensures) at is) ∙ ap (λ t. c.args.text.now.items ++ t) told.0, told.1)) c.write_refused.ensures.ok
