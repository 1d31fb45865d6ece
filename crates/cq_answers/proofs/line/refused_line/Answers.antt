use Rattle.std.proofs.Common.{[], ◌∷◌, ◌++◌, ◌∙◌, ap}
use Rattle.serde_json.proofs.FreeTexts.{text_of_value}
use Rattle.cq_answers.specs.Answers.{refused_data}
use Rattle.cq_answers.proofs.Floats.{has_float_refused_data}
use Rattle.cq_answers.proofs.line.refused_line.Goals as goal

pub returns : goal.returns
returns c =
    let sent = c.in-Ok.ensures.events in
    c.in_ok-push.ensures.items
    ∙ ap (λ text. text ++ 10 ∷ [])
    (text_of_value (refused_data c.args.line c.args.code c.args.name.now) sent.0 c.in-Ok.text.items sent.1 sent.2 (has_float_refused_data c.args.line c.args.code c.args.name.now))
