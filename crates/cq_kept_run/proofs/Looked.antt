-- What a journal that was read has.
use Rattle.std.proofs.Common.{◌≡◌, ℕ, List, Option, Some, Bor, sym, ◌∙◌, ap, subst}
use Rattle.std.specs.Prelude.{Bool, IsTrue, IfOk, IfSome, OnOk, Result, Ok, Err, length, option_map}
use Rattle.cq_disk.specs.declared.device.Device.{Ghosts}
use Rattle.cq_journal.specs.Journal.{HasRegions, journal_device, journal_half, journal_places, journal_records, journal_regions, region_len}
use Rattle.cq_journal.specs.Regions.{all_records, kept, kept_regions}
use Rattle.cq_journal.specs.declared.journal.Journal.{Journal}
use Rattle.cq_journal.proofs.RegionLists.{records_named, regions_have_all, regions_named}
use Rattle.cq_kept_entries.specs.Contents as entries
use Rattle.cq_kept_entries.specs.declared.contents.EntriesContents.{EntriesContents}
use Rattle.cq_kept_session.specs.Contents.{Holds}
use Rattle.cq_kept_session.specs.declared.contents.Contents.{Contents}
use Rattle.cq_kept_run.specs.declared.sizes.TheConstants.{HALF, REGION}
use Rattle.cq_kept_run.specs.within.Contents.{IsContentsOf}
use Rattle.cq_kept_run.specs.within.Entries.{IsEntriesOf}

module _ {D : Type 0} {g : Ghosts D} (j : Journal D g) (q : HasRegions j) (honest : IsTrue (g.is_honest (journal_device j))) (bytes : List ℕ)
    (seen : g.seen (journal_device j) ≡ bytes) (half : journal_half j ≡ HALF) (len : region_len j ≡ REGION) where
  pub has_records : kept HALF REGION bytes ≡ Some (journal_records j)
  has_records = (λ i. kept (sym half i) (sym len i) (sym seen i)) ∙ records_named j q honest

  pub is_contents : (keeps : Bool) (told : Contents) → Holds (journal_records j) (length (journal_regions j)) keeps told → IsContentsOf bytes keeps told
  is_contents keeps told holds =
      let all : all_records (journal_regions j) ≡ journal_records j = regions_have_all (region_len j) (journal_places j) (g.seen (journal_device j)) in
      record {
        regions = journal_regions j;
        named = (λ i. kept_regions (sym half i) (sym len i) (sym seen i)) ∙ regions_named j q honest;
        records = has_records ∙ ap (λ (rs : List (List ℕ)). Some rs) (sym all);
        holds = subst (λ (rs : List (List ℕ)). Holds rs (length (journal_regions j)) keeps told) (sym all) holds;
      }

  pub is_entries : (told : EntriesContents) → entries.Holds (journal_records j) (length (journal_regions j)) told → IsEntriesOf bytes told
  is_entries told holds =
      let all : all_records (journal_regions j) ≡ journal_records j = regions_have_all (region_len j) (journal_places j) (g.seen (journal_device j)) in
      record {
        regions = journal_regions j;
        named = (λ i. kept_regions (sym half i) (sym len i) (sym seen i)) ∙ regions_named j q honest;
        records = has_records ∙ ap (λ (rs : List (List ℕ)). Some rs) (sym all);
        holds = subst (λ (rs : List (List ℕ)). entries.Holds rs (length (journal_regions j)) told) (sym all) holds;
      }

-- ---- what calls answered

pub if_ok : {T E : Type 0} {P Q : T → Type 0} (r : Result T E) → IfOk r P → ((x : T) → P x → Q x) → IfOk r Q
if_ok (Ok x) p step = step x p
if_ok (Err e) p step = tt

pub on_ok : {T E P Q : Type 0} (r : Result T E) → OnOk r P → (P → Q) → OnOk r Q
on_ok (Ok x) p step = step p
on_ok (Err e) p step = tt

pub ok_of : {T E P : Type 0} (r : Result T E) → P → OnOk r P
ok_of (Ok x) p = p
ok_of (Err e) p = tt

pub some_now : {A : Type 0} (P : A → Type 0) (found : Option (Bor A)) (it : Bor A) → found ≡ Some it → IfSome (option_map (λ s. s.now) found) P → P it.now
some_now P found it is holds = subst (λ o. IfSome (option_map (λ s. s.now) o) P) is holds
