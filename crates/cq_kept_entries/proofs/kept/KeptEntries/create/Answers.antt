-- The first piece of entries is all that is kept.
use Rattle.std.proofs.Common.{◌≡◌, List, ℕ, [], ◌∷◌, ◌++◌, ◌∙◌, ap, sym, subst}
use Rattle.std.specs.Prelude.{IsTrue}
use Rattle.cq_journal.specs.Journal.{IsJournal, journal_device, journal_half, journal_records, region_len}
use Rattle.cq_kept_entries.specs.Kept.{head, kept_records}
use Rattle.cq_kept_entries.specs.Pieces.{ArePiecesOf}
use Rattle.cq_kept_entries.proofs.Added.{kept_new, stands_new}
use Rattle.cq_kept_entries.proofs.Readings.{none_added}
use Rattle.cq_kept_entries.proofs.kept.KeptEntries.create.Goals as goal

pub returns : goal.returns
returns g c =
    let k = c.begin.result in
    let b = c.begin.ensures in
    let j = c.in_ok-journal.ensures in
    let a = c.in_ok-append_record.ensures in
    let is : kept_records k ≡ head ∷ [] = ap journal_records b.journal ∙ a.records ∙ ap (λ (rs : List (List ℕ)). rs ++ head ∷ []) j.empty in
    record {
      kept = kept_new k (subst IsJournal (sym b.journal) a.journal) is b.text;
      empty = stands_new k is;
      settled = subst (λ (l : List ℕ). ArePiecesOf l []) (sym b.text) none_added;
      lengths = (ap journal_half b.journal ∙ a.lengths.0 ∙ j.half, ap region_len b.journal ∙ a.lengths.1 ∙ j.len);
      honest = λ honest. j.honest (c.append_record.ensures.tries.honest (subst (λ it. IsTrue (g.D.Device.is_honest (journal_device it))) b.journal honest));
      refused = tt;
    }
