-- The piece is of the bytes of the entry.
use Rattle.std.proofs.Common.{◌≡◌, List, ℕ, [], ap, subst, ◌∙◌}
use Rattle.cq_base.specs.declared.ask.Entry.{Entry}
use Rattle.cq_kept_base.specs.Stuffing.{Stuffs}
use Rattle.cq_wire.specs.Reading.{entry_at, whole_at}
use Rattle.cq_kept_entries.proofs.Readings.{entry_piece}
use Rattle.cq_kept_entries.proofs.kept.piece_of.Goals as goal

pub returns : goal.returns
returns c =
    let e : Entry = record { moment = c.args.moment; request = c.args.request.now } in
    let stuffed = subst (λ (l : List ℕ). Stuffs l c.stuff.new.text.items c.deref.result.now) c.in_ok-piece.ensures.items c.in_ok-stuff.ensures in
    entry_piece _ c.stuff.new.text.items c.deref.result.now e stuffed c.in_ok-push.ensures.items (ap (λ (l : List ℕ). whole_at entry_at l) c.deref.ensures.value ∙ c.in_ok-bytes.ensures)
