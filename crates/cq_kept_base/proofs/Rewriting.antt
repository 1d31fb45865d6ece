-- A base in the place of all records, as it is tried.
use Rattle.std.proofs.Common.{inl, ℕ, List, refl}
use Rattle.std.specs.Prelude.{IsTrue}
use Rattle.cq_disk.specs.Device.{LeavesOnly}
use Rattle.cq_disk.specs.declared.device.Device.{Ghosts}
use Rattle.cq_disk.proofs.Moments.{runs_on, weakened}
use Rattle.cq_journal.specs.Base.{HasEitherRecords}
use Rattle.cq_journal.specs.Changes.{replaces}
use Rattle.cq_journal.specs.Histories.{Tries}
use Rattle.cq_journal.specs.Journal.{journal_device, journal_half, journal_records, region_len}
use Rattle.cq_journal.specs.Rests.{Rests}
use Rattle.cq_journal.specs.declared.journal.Journal.{Journal}
use Rattle.cq_journal.proofs.Copies.{either_back}

module _ {D : Type 0} {g : Ghosts D} where
  abbrev Honest : Journal D g → Type 0
  Honest j = IsTrue (g.is_honest (journal_device j))

  pub rests_tries : (old new : Journal D g) → Rests old new → Tries (replaces (journal_records old)) old new
  rests_tries old new rests = record {
    honest = rests.honest;
    moments = λ honest. weakened g.moment g.left_since (journal_device old) (journal_device new) _ (HasEitherRecords (journal_half old) (region_len old) (journal_records old) (journal_records old)) (rests.moments honest) (λ f is. inl is);
  }

  pub rewrite_tries : (old mid new : Journal D g) (base : List (List ℕ)) → Rests old mid → (Honest new → Honest mid)
      → (Honest new → LeavesOnly g.moment g.left_since (journal_device mid) (journal_device new) (HasEitherRecords (journal_half mid) (region_len mid) (journal_records mid) base)) → Tries (replaces base) old new
  rewrite_tries old mid new base rests back moments = record {
    honest = λ honest. rests.honest (back honest);
    moments = λ honest.
        let P : List ℕ → Type 0 = HasEitherRecords (journal_half old) (region_len old) (journal_records old) base in
        runs_on g.moment g.left_since (journal_device old) (journal_device mid) (journal_device new) P
        (weakened g.moment g.left_since (journal_device old) (journal_device mid) _ P (rests.moments (back honest)) (λ f is. inl is))
        (weakened g.moment g.left_since (journal_device mid) (journal_device new) _ P (moments honest) (either_back old mid rests base base refl));
  }
