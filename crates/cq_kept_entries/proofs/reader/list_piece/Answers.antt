-- One entry more.
use Rattle.std.proofs.Common.{List, ℕ, [], sym, ◌∙◌, ap, subst}
use Rattle.cq_wire.specs.Reading.{entry_at, whole_at}
use Rattle.std.proofs.lemmas.Result.{err_from_is_err_and}
use Rattle.cq_wire.specs.Reading.{Fails}
use Rattle.cq_kept_entries.specs.Pieces.{at, ended}
use Rattle.cq_kept_entries.proofs.Listed.{listed_on}
use Rattle.cq_kept_entries.proofs.Readings.{entry_ended}
use Rattle.cq_kept_entries.proofs.Refused.{bytes_refused, if_bad, piece_refused, refused_entry}
use Rattle.cq_kept_entries.proofs.reader.list_piece.Goals as goal

pub returns-clause-made : goal.returns-clause-made
returns-clause-made c = λ stage is.
    listed_on stage c.args.piece.now c.in_ok-bytes.bytes.items c.in_ok-entry.entry c.args.store c.in_ok-with_entry.field-0 c.in_ok-bytes.ensures
    (ap (λ (l : List ℕ). whole_at entry_at l) (sym c.deref.ensures.value) ∙ c.in_ok-entry.ensures.exact) c.in_ok-with_entry.ensures.next is

pub returns-in_err-bytes-clause-refused : goal.returns-in_err-bytes-clause-refused
returns-in_err-bytes-clause-refused c = λ stage is.
    let p = err_from_is_err_and c.from_residual.result c.from_residual.ensures.1 in
    rw (p.1, p.2) (bytes_refused c.in_err-bytes.field-0.0 c.args.piece.now stage c.args.store is c.in_err-bytes.ensures)

pub returns-in_err-entry-clause-refused : goal.returns-in_err-entry-clause-refused
returns-in_err-entry-clause-refused c = λ stage is.
    let p = err_from_is_err_and c.from_residual-in_err-entry.result c.from_residual-in_err-entry.ensures.1 in
    rw (p.1, p.2) (piece_refused c.in_err-entry.field-0.0 c.args.piece.now c.in_ok-bytes.bytes.items stage c.args.store is c.in_ok-bytes.ensures
    (subst (λ (l : List ℕ). Fails c.in_err-entry.field-0.0 (whole_at entry_at l)) c.deref.ensures.value c.in_err-entry.ensures.exact))

pub returns-in_err-with_entry-clause-refused : goal.returns-in_err-with_entry-clause-refused
returns-in_err-with_entry-clause-refused c = λ stage is.
    let p = err_from_is_err_and c.from_residual-in_err-with_entry.result c.from_residual-in_err-with_entry.ensures.1 in
    let piece = c.args.piece.now in
    let entry = c.in_ok-entry.entry in
    let got = ap (λ (l : List ℕ). whole_at entry_at l) (sym c.deref.ensures.value) ∙ c.in_ok-entry.ensures.exact in
    rw (p.1, p.2) (if_bad c.in_err-with_entry.field-0.0 c.in_err-with_entry.ensures.refused
    (refused_entry is.base is.entries entry c.args.store (at [] (ended piece stage)) (ap (λ s. ended piece s) is.is ∙ entry_ended piece c.in_ok-bytes.bytes.items entry is.base is.entries c.in_ok-bytes.ensures got) is.stands))
