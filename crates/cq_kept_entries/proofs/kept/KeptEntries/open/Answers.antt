-- The journal is opened, and its entries read.
use Rattle.std.proofs.Common.{Err, ◌≡◌, ◌⊎◌, inl, inr, ⊎_elim, ℕ, List, Some, sym, ◌∙◌, ap, subst}
use Rattle.std.specs.Prelude.{IsTrue}
use Rattle.cq_disk.specs.Device.{LeavesOnly}
use Rattle.cq_disk.proofs.Moments.{runs_on, weakened}
use Rattle.cq_journal.specs.Journal.{journal_device, journal_half, journal_records, region_len}
use Rattle.cq_journal.specs.Regions.{kept}
use Rattle.cq_records.specs.Frames.{joined}
use Rattle.cq_kept_entries.specs.Kept.{BytesStandFor, StandForSome}
use Rattle.cq_kept_entries.specs.Pieces.{AreOf}
use Rattle.cq_kept_entries.proofs.Restored.{either_stands, same_found}
use Rattle.std.proofs.lemmas.Result.{err_from_is_err_and}
use Rattle.cq_journal.specs.Intact.{IsIntact}
use Rattle.cq_kept_entries.proofs.Reasons.{open_reason, reason_on}
use Rattle.cq_kept_entries.proofs.kept.KeptEntries.open.Goals as goal

pub returns-clause-records : goal.returns-clause-records
returns-clause-records g c = λ honest.
    let d = g.D.Device in
    let j = c.in_ok-journal.journal in
    let begun = c.begin-kept.result.journal in
    let begun_is : begun ≡ j = c.begin-kept.ensures.journal in
    let honest_begun : IsTrue (d.is_honest (journal_device begun)) = c.restore.ensures.honest honest in
    let honest_j : IsTrue (d.is_honest (journal_device j)) = subst (λ it. IsTrue (d.is_honest (journal_device it))) begun_is honest_begun in
    let found : kept c.args.half c.args.len (d.seen c.args.device) ≡ Some (journal_records begun) = c.in_ok-journal.ensures.kept honest_j ∙ ap (λ it. Some (journal_records it)) (sym begun_is) in
    (journal_records begun, found, c.in_ok-store.ensures.records honest)

pub returns-clause-stands : goal.returns-clause-stands
returns-clause-stands g c = λ honest all b.
    let d = g.D.Device in
    let j = c.in_ok-journal.journal in
    let begun = c.begin-kept.result.journal in
    let begun_is : begun ≡ j = c.begin-kept.ensures.journal in
    let honest_begun : IsTrue (d.is_honest (journal_device begun)) = c.restore.ensures.honest honest in
    let honest_j : IsTrue (d.is_honest (journal_device j)) = subst (λ it. IsTrue (d.is_honest (journal_device it))) begun_is honest_begun in
    let found : journal_records begun ≡ b.records = ap journal_records begun_is ∙ same_found b.records (journal_records j) (kept c.args.half c.args.len (d.seen c.args.device)) b.has (c.in_ok-journal.ensures.kept honest_j) in
    c.in_ok-store.ensures.stands honest all (subst (λ rs. AreOf (joined rs) all) (sym found) b.are)

pub returns-clause-any_moment : goal.returns-clause-any_moment
returns-clause-any_moment g c = λ honest all b.
    let d = g.D.Device in
    let device = c.args.device in
    let half = c.args.half in
    let len = c.args.len in
    let j = c.in_ok-journal.journal in
    let begun = c.begin-kept.result.journal in
    let new = c.restore.new.self.journal in
    let o = c.in_ok-journal.ensures in
    let begun_is : begun ≡ j = c.begin-kept.ensures.journal in
    let honest_begun : IsTrue (d.is_honest (journal_device begun)) = c.restore.ensures.honest honest in
    let honest_j : IsTrue (d.is_honest (journal_device j)) = subst (λ it. IsTrue (d.is_honest (journal_device it))) begun_is honest_begun in
    let found : journal_records begun ≡ b.records = ap journal_records begun_is ∙ same_found b.records (journal_records j) (kept half len (d.seen device)) b.has (o.kept honest_j) in
    let P : List ℕ → Type 0 = λ f. d.may_leave device f ⊎ BytesStandFor half len f all in
    let opened : LeavesOnly d.moment d.left_since device (journal_device j) P =
    weakened d.moment d.left_since device (journal_device j) _ P (o.any_moment honest_j) (λ f either. ⊎_elim (λ may. inl may) (λ same. inr (record { records = b.records; has = same ∙ b.has; are = b.are })) either) in
    runs_on d.moment d.left_since device (journal_device begun) (journal_device new) P
    (subst (λ it. LeavesOnly d.moment d.left_since device (journal_device it) P) (sym begun_is) opened)
    (weakened d.moment d.left_since (journal_device begun) (journal_device new) _ P (c.in_ok-store.ensures.any_moment honest)
    (λ f either. inr (either_stands half len (journal_half begun) (region_len begun) b.records (journal_records begun) all f (ap journal_half begun_is ∙ o.lengths.0) (ap region_len begun_is ∙ o.lengths.1) found b.are either)))

pub used-used-requires : goal.used-used-requires
used-used-requires g c = c.in_ok-store.ensures.kept.journal

pub returns-clause-kept : goal.returns-clause-kept
returns-clause-kept g c =
    let k = c.in_ok-store.ensures.kept in
    record { journal = k.journal; listing = k.listing; added = k.added; are = k.are }

pub returns-in_err-journal-clause-refused : goal.returns-in_err-journal-clause-refused
returns-in_err-journal-clause-refused g c =
    let p = err_from_is_err_and c.from_residual.result c.from_residual.ensures.1 in
    let o = c.open.ensures in
    rw (p.1, p.2) (open_reason (λ last. IsTrue (g.D.Device.is_honest last)) (IsIntact c.args.half c.args.len (g.D.Device.seen c.args.device)) (StandForSome c.args.half c.args.len (g.D.Device.seen c.args.device)) c.in_err-journal.field-0.0 c.args.device
    (λ is. o.damaged (c.in_err-journal.was ∙ ap (λ f. Err f) is)) (λ is. o.nothing (c.in_err-journal.was ∙ ap (λ f. Err f) is)))

pub returns-in_err-store-clause-refused : goal.returns-in_err-store-clause-refused
returns-in_err-store-clause-refused g c =
    let p = err_from_is_err_and c.from_residual-in_err-store.result c.from_residual-in_err-store.ensures.1 in
    let d = g.D.Device in
    let device = c.args.device in
    let half = c.args.half in
    let len = c.args.len in
    let j = c.in_ok-journal.journal in
    let o = c.in_ok-journal.ensures in
    let begun = c.begin-kept.result.journal in
    let begun_is : begun ≡ j = c.begin-kept.ensures.journal in
    rw (p.1, p.2) (
      journal_device c.restore.new.self.journal,
      λ honest.
          let honest_j : IsTrue (d.is_honest (journal_device j)) = subst (λ it. IsTrue (d.is_honest (journal_device it))) begun_is (c.restore.ensures.honest honest) in
          reason_on c.in_err-store.field-0.0
          (λ intact. subst (λ it. IsIntact (journal_half it) (region_len it) (d.seen (journal_device it))) (sym begun_is)
          (subst (λ h. IsIntact h (region_len j) (d.seen (journal_device j))) (sym o.lengths.0) (subst (λ l. IsIntact half l (d.seen (journal_device j))) (sym o.lengths.1) (o.stays honest_j intact))))
          (λ some.
          let found : journal_records begun ≡ some.1.0.records = ap journal_records begun_is ∙ same_found some.1.0.records (journal_records j) (kept half len (d.seen device)) some.1.0.has (o.kept honest_j) in
          (some.0, (subst (λ rs. AreOf (joined rs) some.0) (sym found) some.1.0.are, some.1.1)))
          (c.in_err-store.ensures.refused honest),
    )
