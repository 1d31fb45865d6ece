-- The piece that is refused.
use Rattle.std.proofs.Common.{◌≡◌, [], ◌∙◌, ap, subst}
use Rattle.cq_kept_entries.specs.Pieces.{Stage, at, ended, fresh, storing}
use Rattle.cq_kept_entries.specs.within.Readers.{IsMade}
use Rattle.cq_kept_entries.proofs.Refused.{on_bad, refused_bad}
use Rattle.cq_kept_entries.proofs.reader.Progress.with_piece.Goals as goal

pub returns-in-Fresh-clause-refused : goal.returns-in-Fresh-clause-refused
returns-in-Fresh-clause-refused c = λ stage made.
    let piece = c.args.piece.now in
    let is : stage ≡ fresh = subst (λ p. IsMade stage p) c.in-Fresh.is made in
    on_bad c.begin.result c.begin.ensures.refused (λ head. refused_bad (at [] (ended piece stage)) (ap (λ (s : Stage). ended piece s) is ∙ head))

pub returns-in-Storing-clause-refused : goal.returns-in-Storing-clause-refused
returns-in-Storing-clause-refused c = λ stage made.
    let piece = c.args.piece.now in
    let is : stage ≡ storing c.in-Storing.reader = subst (λ p. IsMade stage p) c.in-Storing.is made in
    on_bad c.store_piece.result c.store_piece.ensures.refused (λ chunk. refused_bad (at [] (ended piece stage)) (ap (λ (s : Stage). ended piece s) is ∙ chunk))
