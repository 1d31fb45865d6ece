-- What an opening leaves on the medium.
use Rattle.std.proofs.Common.{◌≡◌, ◌∙◌, inl, ℕ, ◌≤◌, List, [], ◌∷◌, ◌++◌, length, sym, ap}
use Rattle.std.specs.Prelude.{IsTrue, true, false}
use Rattle.cq_disk.specs.Device.{LeavesOnly}
use Rattle.cq_disk.specs.declared.device.Device.{Ghosts}
use Rattle.cq_disk.proofs.Moments.{runs_on, weakened}
use Rattle.cq_journal.specs.Base.{HasEitherRecords}
use Rattle.cq_journal.specs.Changes.{adds}
use Rattle.cq_journal.specs.Histories.{Tries}
use Rattle.cq_journal.specs.Journal.{journal_half, region_len}
use Rattle.cq_journal.specs.Rests.{Rests}
use Rattle.cq_records.specs.Frames.{joined}
use Rattle.cq_kept_session.specs.Bases.{fresh, is_of, read}
use Rattle.cq_kept_session.specs.Kept.{IsKept, kept_bytes, kept_records, session_device}
use Rattle.cq_kept_session.specs.Texts.{is_ended, opened, size_records}
use Rattle.cq_kept_session.specs.declared.kept.KeptSession.{KeptSession}
use Rattle.cq_kept_session.specs.within.Begun.{IsFresh}
use Rattle.cq_kept_session.proofs.Mending.{prefix_opened}
use Rattle.cq_kept_session.proofs.Openings.{are_ended, not_ended, opened_fresh, opened_other}

-- What old has was run, and mid is behind that.
module _ {D : Type 0} {g : Ghosts D} (old mid : KeptSession D g) (rests : Rests old.journal mid.journal) (same_size : mid.size ≡ old.size) where
  -- the records from before, or as they are behind an opening
  abbrev pub Left : List ℕ → Type 0
  Left c = HasEitherRecords (journal_half old.journal) (region_len old.journal) (kept_records old) (opened old.size (kept_records old)) c

  pub left_alone : IsTrue (g.is_honest (session_device mid)) → LeavesOnly g.moment g.left_since (session_device old) (session_device mid) Left
  left_alone honest = weakened g.moment g.left_since (session_device old) (session_device mid) _ Left (rests.moments honest) (λ f is. inl is)

  -- one record more was tried, or none
  pub left_added : (new : KeptSession D g) (more : List (List ℕ)) → length more ≤ 1 → opened old.size (kept_records old) ≡ kept_records old ++ more → Tries (adds more) mid.journal new.journal
      → IsTrue (g.is_honest (session_device new)) → LeavesOnly g.moment g.left_since (session_device old) (session_device new) Left
  left_added new more short all tries honest = runs_on g.moment g.left_since (session_device old) (session_device mid) (session_device new) Left
      (left_alone (tries.honest honest))
      (weakened g.moment g.left_since (session_device mid) (session_device new) _ Left (tries.moments honest) (prefix_opened old.journal mid.journal rests more (opened old.size (kept_records old)) short all))

  -- ---- what an opening adds

  bytes_are : kept_bytes mid ≡ kept_bytes old
  bytes_are = ap joined rests.records

  pub fresh_gets : IsFresh mid → IsTrue (g.is_honest (session_device mid)) → opened old.size (kept_records old) ≡ kept_records old ++ size_records mid.size
  fresh_gets is honest = opened_fresh old.size (kept_records old) (sym bytes_are ∙ is.none honest) ∙ ap (λ (n : ℕ). kept_records old ++ size_records n) (sym same_size)

  fits : IsKept mid → IsTrue (g.is_honest (session_device mid)) → is_of old.size (read fresh (kept_bytes old)) ≡ true
  fits is honest = (λ i. is_of (sym same_size i) (read fresh (sym bytes_are i))) ∙ is.fits honest

  -- where the last line has ended, nothing
  pub ended_gets : IsKept mid → mid.ended ≡ true → IsTrue (g.is_honest (session_device mid)) → opened old.size (kept_records old) ≡ kept_records old
  ended_gets is ended honest = opened_other old.size (kept_records old) (fits is honest) ∙ are_ended (kept_records old) (ap is_ended (sym bytes_are) ∙ sym (is.ended honest) ∙ ended)

  pub cut_gets : IsKept mid → mid.ended ≡ false → IsTrue (g.is_honest (session_device mid)) → opened old.size (kept_records old) ≡ kept_records old ++ (10 ∷ []) ∷ []
  cut_gets is ended honest = opened_other old.size (kept_records old) (fits is honest) ∙ not_ended (kept_records old) (ap is_ended (sym bytes_are) ∙ sym (is.ended honest) ∙ ended)
