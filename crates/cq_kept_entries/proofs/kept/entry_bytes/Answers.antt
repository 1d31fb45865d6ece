-- What is written of an entry is read as that entry.
use Rattle.std.proofs.Common.{◌≡◌, List, ℕ, [], ◌++◌, ◌∙◌, ap}
use Rattle.cq_base.specs.declared.ask.Entry.{Entry}
use Rattle.cq_wire.specs.Layout.{entry, whole}
use Rattle.cq_wire.specs.Reading.{entry_at, whole_at}
use Rattle.cq_kept_entries.proofs.kept.entry_bytes.Goals as goal

alone : (bytes before value none all : List ℕ) → before ≡ [] → none ≡ [] → value ≡ none ++ bytes → all ≡ before ++ value → all ≡ bytes
alone bytes before value none all b n v is = is ∙ ap (λ (l : List ℕ). l ++ value) b ∙ v ∙ ap (λ (l : List ℕ). l ++ bytes) n

pub returns : goal.returns
returns c =
    let e : Entry = record { moment = c.args.moment; request = c.args.request.now } in
    let before = c.in_ok-put_entry.ensures.before ∙ c.after-out.ensures.before ∙ c.in_ok-with_capacity.ensures.items in
    let is : c.whole.result.items ≡ whole entry e = alone (whole entry e) _ _ _ _ before c.after-out.ensures.value c.in_ok-put_entry.ensures.ok c.whole.ensures in
    ap (λ (l : List ℕ). whole_at entry_at l) is ∙ c.what_is_written_is_read.ensures.entries e c.entry_fits.ensures
