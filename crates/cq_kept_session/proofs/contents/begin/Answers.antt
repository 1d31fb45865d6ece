-- Lines begin.
use Rattle.std.proofs.Common.{◌≡◌, ℕ, List, ◌∷◌, sym, ◌∙◌, ap}
use Rattle.cq_kept_session.specs.Bases.{alone, fresh, lined, read}
use Rattle.cq_kept_session.proofs.Readings.{other_byte}
use Rattle.cq_kept_session.proofs.Stages.{first_lines}
use Rattle.cq_kept_session.proofs.contents.begin.Goals as goal

pub returns : goal.returns
returns c =
    let first = c.in-Some.first.now in
    let rest = c.in-Some.rest.now in
    let text_is : c.args.text.now ≡ first ∷ rest = c.in-Some.ensures.cases.0 in
    (tt, ap (λ (l : List ℕ). read fresh l) text_is ∙ first_lines first rest (other_byte first 2 c.if-first-eq-MARK.false) (other_byte first 3 c.if-first-eq-SIZE_MARK.false) ∙ ap (λ (l : List ℕ). lined alone l) (sym text_is))
