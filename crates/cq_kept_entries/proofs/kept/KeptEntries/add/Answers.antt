-- One piece more.
use Rattle.std.proofs.Common.{List, ℕ, ◌++◌, ◌∷◌, [], sym, ◌∙◌, ap, subst, refl}
use Rattle.cq_base.specs.declared.ask.Entry.{Entry}
use Rattle.cq_kept_entries.specs.Pieces.{ArePiecesOf}
use Rattle.cq_kept_entries.proofs.Added.{kept_with}
use Rattle.cq_kept_entries.proofs.Readings.{both_added}
use Rattle.cq_kept_entries.proofs.kept.KeptEntries.add.Goals as goal

pub returns-clause-kept : goal.returns-clause-kept
returns-clause-kept g c = λ kept.
    let e : Entry = record { moment = c.args.moment; request = c.args.request.now } in
    kept_with c.args.self.now _ c.in_ok-piece.piece.items e refl (c.in_ok-extend_from_slice.ensures.items ∙ ap (λ (l : List ℕ). c.args.self.now.text.items ++ l) c.deref.ensures.value) c.in_ok-piece.ensures kept

pub returns-clause-added : goal.returns-clause-added
returns-clause-added g c = λ more has.
    let e : Entry = record { moment = c.args.moment; request = c.args.request.now } in
    subst (λ (l : List ℕ). ArePiecesOf l (more ++ e ∷ [])) (sym (c.in_ok-extend_from_slice.ensures.items ∙ ap (λ (l : List ℕ). c.args.self.now.text.items ++ l) c.deref.ensures.value))
    (both_added c.args.self.now.text.items c.in_ok-piece.piece.items more e has c.in_ok-piece.ensures)
