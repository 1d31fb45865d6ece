-- Where there is room to open a journal.
use Rattle.std.proofs.Common.{◌≡◌, ◌∙◌, ◌+◌, ◌*◌, ◌<◌, ◌≤◌, ℕ, List, [], ◌∷◌, ◌++◌, length, sym, ap, subst, arith, length-append}
use Rattle.std.specs.Prelude.{IsTrue}
use Rattle.cq_disk.specs.declared.device.Device.{Ghosts}
use Rattle.cq_disk.specs.declared.device.TornWrites.{TornWrites}
use Rattle.cq_journal.specs.declared.journal.Journal.{Journal}
use Rattle.cq_journal.specs.Free.{HasRoomToOpen}
use Rattle.cq_journal.specs.Intact.{IsIntactAt, HasRoomBehind}
use Rattle.cq_journal.specs.Journal.{HasRegions, HasRoomAgain, journal_device, journal_half, journal_places, region_len}
use Rattle.cq_journal.specs.Regions.{regions_text}
use Rattle.cq_journal.specs.Roots.{number_in}
use Rattle.cq_journal.proofs.Halves.{number_back, root_is}
use Rattle.cq_journal.proofs.Intact.{same_places}
use Rattle.cq_journal.proofs.Regions.{places_long}

-- the length of the text that names regions, of which the last one is another one
pub names_long : (torn : TornWrites) (closed : List ℕ) (growing place : ℕ) → length (regions_text torn (closed ++ place ∷ [])) ≡ 5 * length (closed ++ growing ∷ []) + 1
names_long torn closed growing place = omega (arith, places_long (closed ++ place ∷ []), length-append closed (place ∷ []), length-append closed (growing ∷ []))

module _ {D : Type 0} {g : Ghosts D} where
  -- the root that counts is that of the journal
  pub room_again : (j : Journal D g) → HasRegions j → IsTrue (g.is_honest (journal_device j)) → HasRoomBehind (journal_half j) (region_len j) (g.seen (journal_device j)) → HasRoomAgain j
  room_again j q honest i =
      let it = i.4 in
      let seen = g.seen (journal_device j) in
      let places : i.1 ++ i.2 ∷ [] ≡ journal_places j = same_places i.0 j.root.number (i.1 ++ i.2 ∷ []) (journal_places j) it.small q.small (sym it.names ∙ q.names honest) in
      let number : i.0 ≡ j.root.number =
      sym (number_back i.0 (regions_text i.3 (i.1 ++ i.2 ∷ [])) it.small_number) ∙ sym (ap number_in it.names)
      ∙ ap number_in (root_is (journal_half j) j.root.log.device.start q.root.place seen j.root.number (q.root.current honest) (q.root.other honest)) ∙ q.root.current honest in
      subst (λ n. HasRoomToOpen (journal_half j) (region_len j) (length seen) n (journal_places j)) number
      (subst (λ (ns : List ℕ). HasRoomToOpen (journal_half j) (region_len j) (length seen) i.0 ns) places i.5)

-- other lengths that are the same
pub room_at_lengths : (half other len more : ℕ) (bytes : List ℕ) → half ≡ other → len ≡ more → HasRoomBehind half len bytes → HasRoomBehind other more bytes
room_at_lengths half other len more bytes halves lens i = subst (λ n. HasRoomBehind other n bytes) lens (subst (λ h. HasRoomBehind h len bytes) halves i)
