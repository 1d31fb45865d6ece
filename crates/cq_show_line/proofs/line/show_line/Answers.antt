-- The text of the value that was sent, and a line feed.
use Rattle.std.proofs.Common.{[], ◌∷◌, ◌++◌, ◌∙◌, ap}
use Rattle.serde_json.proofs.FreeTexts.{text_of_value}
use Rattle.cq_show_line.specs.Lines.{shown_data}
use Rattle.cq_show_line.proofs.Floats.{has_float_shown_data}
use Rattle.cq_show_line.proofs.line.show_line.Goals as goal

pub returns : goal.returns
returns c =
    let sent = c.in-Ok.ensures.events in
    let s = c.args.shown.now in
    c.in_ok-push.ensures.items
    ∙ ap (λ text. text ++ 10 ∷ [])
    (text_of_value (shown_data s.chain.items s.joiner s.is_ready s.servers.items s.ways.items) sent.0 c.in-Ok.text.items sent.1 sent.2 (has_float_shown_data s.chain.items s.joiner s.is_ready s.servers.items s.ways.items))
