use Rattle.std.proofs.Common.{[], ◌∷◌, ◌++◌, ◌∙◌, ap}
use Rattle.serde_json.proofs.FreeTexts.{text_of_value}
use Rattle.cq_answers.specs.Answers.{answer_data}
use Rattle.cq_answers.proofs.Floats.{has_float_answer_data}
use Rattle.cq_answers.proofs.line.answer_line.Goals as goal

pub returns : goal.returns
returns c =
    let sent = c.in-Ok.ensures.events in
    c.in_ok-push.ensures.items
    ∙ ap (λ text. text ++ 10 ∷ [])
    (text_of_value (answer_data c.args.line c.args.answer.now) sent.0 c.in-Ok.text.items sent.1 sent.2 (has_float_answer_data c.args.line c.args.answer.now))
