-- Lines begin.
use Rattle.std.proofs.Common.{◌≡◌, ◌∙◌, ℕ, List, [], ◌∷◌, sym, ap, subst}
use Rattle.cq_script.specs.Resumed.{HasRun}
use Rattle.cq_kept_session.specs.Bases.{alone, fresh, lined, read}
use Rattle.cq_kept_session.specs.within.Readers.{IsRead}
use Rattle.cq_kept_session.proofs.Readings.{if_ok, is_one, other_byte}
use Rattle.cq_kept_session.proofs.Stages.{first_lines}
use Rattle.cq_kept_session.proofs.kept.KeptSession.begin_text.Goals as goal

pub returns-clause-run : goal.returns-clause-run
returns-clause-run g c = λ ran.
    let first = c.in-Some.first.now in
    let rest = c.in-Some.rest.now in
    let text = c.args.text.now in
    let size = c.args.self.now.size in
    let new = c.run_lines.new.self.session in
    let text_is : text ≡ first ∷ rest = c.in-Some.ensures.cases.0 in
    if_ok c.run_lines.result (c.run_lines.ensures.run size alone [] (is_one size c.get.result c.get.ensures.value c.if-get-ne1.false) (λ before none. subst (λ (l : List ℕ). HasRun size l c.args.self.now.session) (sym none) ran))
    (λ next got. subst (λ s. IsRead size s next new)
    (sym (ap (λ (l : List ℕ). read fresh l) text_is ∙ first_lines first rest (other_byte first 2 c.if-first-eq-MARK.false) (other_byte first 3 c.if-first-eq-SIZE_MARK.false) ∙ ap (λ (l : List ℕ). lined alone l) (sym text_is))) got)
