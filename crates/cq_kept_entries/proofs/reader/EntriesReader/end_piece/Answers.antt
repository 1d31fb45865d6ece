-- What the piece makes.
use Rattle.std.proofs.Common.{List, ℕ, [], sym, ◌∙◌, subst}
use Rattle.std.proofs.lemmas.Result.{err_from_is_err_and}
use Rattle.cq_kept_entries.specs.Pieces.{at, ended}
use Rattle.cq_kept_entries.specs.within.Readers.{IfBad, IsMade, IsRefused}
use Rattle.cq_kept_entries.proofs.reader.EntriesReader.end_piece.Goals as goal

pub returns-clause-made : goal.returns-clause-made
returns-clause-made c = λ a is. record {
  piece = sym c.new.ensures.items;
  made = subst (λ (l : List ℕ). IsMade (ended l a.stage) c.in_ok-progress.progress) (c.deref.ensures.value ∙ sym is.piece) (c.in_ok-progress.ensures.made a.stage is.made);
}

pub returns-in_err-progress-clause-refused : goal.returns-in_err-progress-clause-refused
returns-in_err-progress-clause-refused c = λ a is.
    let p = err_from_is_err_and c.from_residual.result c.from_residual.ensures.1 in
    rw (p.1, p.2) (subst (λ (l : List ℕ). IfBad c.in_err-progress.field-0.0 (IsRefused (at [] (ended l a.stage)))) (c.deref.ensures.value ∙ sym is.piece) (c.in_err-progress.ensures.refused a.stage is.made))
