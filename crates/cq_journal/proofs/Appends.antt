-- Records that are added in another region.
use Rattle.std.proofs.Common.{◌≡◌, ℕ, List, ◌++◌, take, sym, ◌∙◌, ap}
use Rattle.std.specs.Prelude.{Some, IsTrue}
use Rattle.cq_disk.specs.Device.{LeavesOnly}
use Rattle.cq_disk.specs.declared.device.Device.{Ghosts}
use Rattle.cq_disk.proofs.Moments.{started}
use Rattle.cq_journal.specs.declared.journal.Journal.{Journal}
use Rattle.cq_journal.specs.Journal.{journal_device, journal_half, journal_records, region_len, HasRegions}
use Rattle.cq_journal.specs.Regions.{HasPrefixOf, HasRecords, kept}
use Rattle.cq_journal.proofs.Copies.{at_rest}
use Rattle.cq_journal.proofs.Regions.{append-none}

-- before the first record
pub none_added : (half len : ℕ) (rs batch : List (List ℕ)) (c : List ℕ) → HasRecords half len rs c → HasPrefixOf half len rs batch c
none_added half len rs batch c is = (0, is ∙ ap (λ (xs : List (List ℕ)). Some xs) (sym (append-none rs)))

module _ {D : Type 0} {g : Ghosts D} where
  -- with no call
  pub none_at_rest : (j : Journal D g) (batch : List (List ℕ)) → ((c : List ℕ) → g.left_since (journal_device j) (g.moment (journal_device j)) c → g.may_leave (journal_device j) c) → HasRegions j → IsTrue (g.is_honest (journal_device j))
      → LeavesOnly g.moment g.left_since (journal_device j) (journal_device j) (HasPrefixOf (journal_half j) (region_len j) (journal_records j) batch)
  none_at_rest j batch only q honest =
      started g.moment g.left_since (journal_device j) (HasPrefixOf (journal_half j) (region_len j) (journal_records j) batch)
      (λ c left. none_added (journal_half j) (region_len j) (journal_records j) batch c (at_rest j q honest c (q.root.durable c (only c left))))

  -- a journal with the records of another one
  pub prefix_back : (a b : Journal D g) (batch : List (List ℕ)) → journal_half b ≡ journal_half a → region_len b ≡ region_len a → journal_records b ≡ journal_records a → (c : List ℕ)
      → HasPrefixOf (journal_half b) (region_len b) (journal_records b) batch c → HasPrefixOf (journal_half a) (region_len a) (journal_records a) batch c
  prefix_back a b batch half len records c prefix =
      (prefix.0, (λ i. kept (sym half i) (sym len i) c) ∙ prefix.1 ∙ ap (λ (rs : List (List ℕ)). Some (rs ++ take prefix.0 batch)) records)
