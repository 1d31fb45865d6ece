-- The digit, and the line feed behind it.
use Rattle.std.proofs.Common.{◌≡◌, ◌∙◌, ℕ, List, [], ◌∷◌, sym, ap}
use Rattle.cq_kept_session.specs.Bases.{lined, marked, read, several}
use Rattle.cq_kept_session.proofs.text.size_in.Goals as goal

pub returns : goal.returns
returns c =
    let digit = c.in_ok-digit.digit.now in
    let lines = c.in_ok-end.lines.now in
    let bytes_are : c.args.bytes.now ≡ digit ∷ 10 ∷ lines =
    c.in_ok-digit.ensures.cases.0 ∙ ap (λ (l : List ℕ). digit ∷ l) (c.in_ok-end.ensures.cases.0 ∙ ap (λ (n : ℕ). n ∷ lines) c.if-end-ne10.false) in
    ap (λ (l : List ℕ). read marked l) bytes_are ∙ ap (λ (n : ℕ). read (lined (several n) []) lines) (sym c.saturating_sub.ensures)
