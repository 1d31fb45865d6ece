-- The journal is opened, and its last line ended.
use Rattle.std.proofs.Common.{◌≡◌, ◌⊎◌, inl, inr, ⊎_elim, ℕ, List, Some, refl, sym, ◌∙◌, ap, subst}
use Rattle.std.specs.Prelude.{IsTrue}
use Rattle.cq_disk.specs.Device.{LeavesOnly}
use Rattle.cq_disk.proofs.Moments.{runs_on, weakened}
use Rattle.cq_journal.specs.Base.{HasEitherRecords}
use Rattle.cq_journal.specs.Journal.{journal_device, journal_half, journal_records, region_len}
use Rattle.cq_journal.specs.Regions.{kept}
use Rattle.cq_kept_session.specs.Texts.{opened}
use Rattle.cq_kept_session.proofs.Mending.{either_at, same_found}
use Rattle.cq_kept_session.proofs.Rewritten.{kept_same}
use Rattle.cq_kept_session.proofs.kept.KeptSession.open.Goals as goal

pub returns-clause-kept : goal.returns-clause-kept
returns-clause-kept g c = kept_same c.restore.new.self _ refl refl refl refl c.in_ok-restore.ensures.kept

pub returns-clause-any_moment : goal.returns-clause-any_moment
returns-clause-any_moment g c = λ honest rs is.
    let d = g.D.Device in
    let device = c.args.device in
    let half = c.args.half in
    let len = c.args.len in
    let size = c.args.size in
    let j = c.in_ok-journal.journal in
    let begun = c.in_ok-session.session.journal in
    let new = c.restore.new.self.journal in
    let o = c.in_ok-journal.ensures in
    let begun_is : begun ≡ j = c.in_ok-session.ensures.journal in
    let honest_begun : IsTrue (d.is_honest (journal_device begun)) = c.restore.ensures.honest honest in
    let honest_j : IsTrue (d.is_honest (journal_device j)) = subst (λ it. IsTrue (d.is_honest (journal_device it))) begun_is honest_begun in
    let found : journal_records begun ≡ rs = ap journal_records begun_is ∙ same_found rs (journal_records j) (kept half len (d.seen device)) is (o.kept honest_j) in
    let P : List ℕ → Type 0 = λ f. d.may_leave device f ⊎ HasEitherRecords half len rs (opened size rs) f in
    let began : LeavesOnly d.moment d.left_since device (journal_device j) P =
    weakened d.moment d.left_since device (journal_device j) _ P (o.any_moment honest_j) (λ f either. ⊎_elim (λ may. inl may) (λ same. inr (inl (same ∙ is))) either) in
    runs_on d.moment d.left_since device (journal_device begun) (journal_device new) P
    (subst (λ it. LeavesOnly d.moment d.left_since device (journal_device it) P) (sym begun_is) began)
    (weakened d.moment d.left_since (journal_device begun) (journal_device new) _ P (c.in_ok-restore.ensures.any_moment honest)
    (λ f either. inr (either_at size c.in_ok-session.session.size half len (journal_half begun) (region_len begun) rs (journal_records begun) f c.in_ok-session.ensures.size (ap journal_half begun_is ∙ o.lengths.0) (ap region_len begun_is ∙ o.lengths.1) found either)))

pub returns-clause-records : goal.returns-clause-records
returns-clause-records g c = λ honest.
    let d = g.D.Device in
    let j = c.in_ok-journal.journal in
    let begun = c.in_ok-session.session.journal in
    let begun_is : begun ≡ j = c.in_ok-session.ensures.journal in
    let honest_begun : IsTrue (d.is_honest (journal_device begun)) = c.restore.ensures.honest honest in
    let honest_j : IsTrue (d.is_honest (journal_device j)) = subst (λ it. IsTrue (d.is_honest (journal_device it))) begun_is honest_begun in
    let found : kept c.args.half c.args.len (d.seen c.args.device) ≡ Some (journal_records begun) = c.in_ok-journal.ensures.kept honest_j ∙ ap (λ it. Some (journal_records it)) (sym begun_is) in
    (journal_records begun, found, c.in_ok-restore.ensures.records honest ∙ ap (λ (n : ℕ). opened n (journal_records begun)) c.in_ok-session.ensures.size)
