-- The text of the places and of the one behind them.
use Rattle.std.proofs.Common.{◌∙◌, ap, sym, ◌++◌, ◌∷◌, []}
use Rattle.cq_journal.specs.Numbers.{digits}
use Rattle.cq_journal.specs.Regions.{places_text, kind_of}
use Rattle.cq_journal.proofs.Regions.{places_end}
use Rattle.cq_journal.proofs.places.text_of.Goals as goal

pub returns : goal.returns
returns c =
    c.in_ok-push_number.ensures.ok
    ∙ ap (λ text. text ++ digits c.args.growing) (c.in_ok-push_places.ensures ∙ ap (λ text. text ++ places_text c.args.closed.now) (c.in_ok-push.ensures.items ∙ (λ i. c.new-text.ensures.items i ++ c.kind_of.ensures i ∷ [])))
    ∙ ap (λ text. kind_of c.args.torn ∷ text) (sym (places_end c.args.closed.now c.args.growing))
