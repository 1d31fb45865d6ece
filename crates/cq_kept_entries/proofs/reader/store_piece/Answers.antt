-- A chunk that isn't one, or a store that isn't whole.
use Rattle.std.proofs.Common.{◌≡◌, List, ℕ, [], sym, ◌∙◌, ap, subst, length}
use Rattle.std.proofs.lemmas.Bool.{eqb-false, eqb-true}
use Rattle.std.proofs.lemmas.Result.{err_from_is_err_and}
use Rattle.cq_store_wire.specs.Building.{fed}
use Rattle.cq_wire.specs.Reading.{Fails}
use Rattle.cq_kept_entries.proofs.Refused.{chunk_refused, of_no_length, store_refused, stuffed_refused}
use Rattle.cq_kept_entries.proofs.reader.store_piece.Goals as goal

pub returns-in_err-store-clause-refused : goal.returns-in_err-store-clause-refused
returns-in_err-store-clause-refused c =
    let p = err_from_is_err_and c.from_residual.result c.from_residual.ensures.1 in
    let none : c.args.piece.now ≡ [] = of_no_length c.args.piece.now (eqb-true (length c.args.piece.now) 0 (sym c.is_empty.ensures ∙ c.if-is_empty.true)) in
    rw (p.1, p.2) (store_refused c.in_err-store.field-0.0 c.args.piece.now c.args.reader none c.in_err-store.ensures)

pub returns-in_err-chunk-clause-refused : goal.returns-in_err-chunk-clause-refused
returns-in_err-chunk-clause-refused c =
    let p = err_from_is_err_and c.from_residual-in_err-chunk.result c.from_residual-in_err-chunk.ensures.1 in
    let some : c.args.piece.now ≡ [] → ⊥ = λ none. eqb-false (length c.args.piece.now) 0 (sym c.is_empty.ensures ∙ c.if-is_empty.false) (ap length none) in
    rw (p.1, p.2) (stuffed_refused c.in_err-chunk.field-0.0 c.args.piece.now c.args.reader some c.in_err-chunk.ensures)

pub returns-in_err-feed-clause-refused : goal.returns-in_err-feed-clause-refused
returns-in_err-feed-clause-refused c =
    let p = err_from_is_err_and c.from_residual-in_err-feed.result c.from_residual-in_err-feed.ensures.1 in
    let some : c.args.piece.now ≡ [] → ⊥ = λ none. eqb-false (length c.args.piece.now) 0 (sym c.is_empty.ensures ∙ c.if-is_empty.false) (ap length none) in
    let chunk = c.in_ok-chunk.chunk.items in
    rw (p.1, p.2) (chunk_refused c.in_err-feed.field-0.0 c.args.piece.now chunk c.args.reader some c.in_ok-chunk.ensures
    (subst (λ (l : List ℕ). Fails c.in_err-feed.field-0.0 (fed l c.args.reader)) c.deref.ensures.value c.in_err-feed.ensures))
