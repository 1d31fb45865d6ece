-- A base in the place of what is kept.
use Rattle.std.proofs.Common.{◌≡◌, ◌⊎◌, ⊎_elim, ℕ, List, [], ◌∷◌, ◌++◌, Some, Result, Ok, Err, refl, sym, ◌∙◌, ap, subst, append-nil}
use Rattle.std.specs.Prelude.{IsTrue, OnOk}
use Rattle.cq_base.specs.declared.ask.Entry.{Entry}
use Rattle.cq_disk.specs.Device.{LeavesOnly}
use Rattle.cq_disk.specs.declared.device.Device.{Ghosts}
use Rattle.cq_disk.proofs.Moments.{runs_on, weakened}
use Rattle.cq_journal.specs.Changes.{replaces}
use Rattle.cq_journal.specs.Histories.{Tries}
use Rattle.cq_journal.specs.Journal.{IsJournal, journal_device}
use Rattle.cq_journal.specs.declared.journal.Journal.{Journal}
use Rattle.cq_journal.specs.Regions.{HasRecords}
use Rattle.cq_journal.specs.Rests.{Rests}
use Rattle.cq_kept_base.specs.Stuffing.{Stuffs}
use Rattle.cq_kept_base.proofs.Written.{some_unit, unit_reads}
use Rattle.cq_records.specs.Frames.{joined}
use Rattle.cq_store.specs.Stands as stores
use Rattle.cq_store_wire.specs.declared.build.State.{State}
use Rattle.cq_store_wire.specs.declared.build.State.TheVariants as states
use Rattle.cq_store_wire.specs.Building.{fed}
use Rattle.cq_kept_entries.specs.declared.kept.KeptEntries.{KeptEntries}
use Rattle.cq_kept_entries.specs.Kept.{BytesStandFor, IsKept, StandsFor, added_text, entries_device, entries_half, entries_len, kept_bytes, kept_records}
use Rattle.cq_kept_entries.specs.Pieces.{AreOf, ArePiecesOf, At, IsListing, MeansAt, at, listing, read, start, storing}
use Rattle.cq_kept_entries.proofs.Added.{joined_more}
use Rattle.cq_kept_entries.proofs.Readings.{piece_ended, read_both, store_fed}

pub if_ok : {T E P Q : Type 0} (r : Result T E) → OnOk r P → (P → Q) → OnOk r Q
if_ok (Ok x) p next = next p
if_ok (Err e) p next = tt

pub on_ok : {T E P : Type 0} (r : Result T E) → P → OnOk r P
on_ok (Ok x) p = p
on_ok (Err e) p = tt

-- ---- pieces

-- a chunk of the store is added
pub chunk_added : (records : List (List ℕ)) (stuffed text chunk : List ℕ) (state next : State) → (chunk ≡ [] → ⊥) → Stuffs [] stuffed chunk → text ≡ stuffed ++ 10 ∷ [] → read start (joined records) ≡ at [] (storing state) → fed chunk state ≡ Ok next
    → read start (joined (records ++ text ∷ [])) ≡ at [] (storing next)
chunk_added records stuffed text chunk state next some s is begun got =
    let unit = s.unit in
    ap (λ (l : List ℕ). read start l) (joined_more records text ∙ ap (λ (l : List ℕ). joined records ++ l) (is ∙ ap (λ (l : List ℕ). l ++ 10 ∷ []) s.added)) ∙ read_both start (joined records) (unit ++ 10 ∷ [])
    ∙ ap (λ (a : At). read a (unit ++ 10 ∷ [])) begun ∙ piece_ended [] unit [] (storing state) s.clean
    ∙ ap (λ stage. at [] stage) (store_fed unit chunk state next (some_unit [] stuffed chunk s some) (unit_reads [] stuffed chunk s) got)

-- a base begins
pub base_begun : (records : List (List ℕ)) → records ≡ [] → read start (joined (records ++ (2 ∷ 83 ∷ 10 ∷ []) ∷ [])) ≡ at [] (storing states.Empty)
base_begun records none = ap (λ (rs : List (List ℕ)). read start (joined (rs ++ (2 ∷ 83 ∷ 10 ∷ []) ∷ []))) none

-- a line feed alone ends it
pub base_ended : (records : List (List ℕ)) (kept : stores.StoreKept) → read start (joined records) ≡ at [] (storing (states.Whole kept)) → read start (joined (records ++ (10 ∷ []) ∷ [])) ≡ at [] (listing (Some kept) [])
base_ended records kept begun = ap (λ (l : List ℕ). read start l) (joined_more records (10 ∷ [])) ∙ read_both start (joined records) (10 ∷ []) ∙ ap (λ (a : At). read a (10 ∷ [])) begun

-- ---- what it stands for

pub base_stands : (text : List ℕ) (kept : stores.StoreKept) (all : List Entry) → read start text ≡ at [] (listing (Some kept) []) → stores.StandsFor kept all → AreOf text all
base_stands text kept all is stands = subst (λ (a : At). MeansAt a all) (sym is) (refl, record { before = all; stands = stands; are = sym (append-nil all) })

module _ {D : Type 0} {g : Ghosts D} where
  pub kept_rewritten : (a b : KeptEntries D g) (kept : stores.StoreKept) → IsJournal b.journal → read start (kept_bytes b) ≡ at [] (listing (Some kept) []) → added_text b ≡ added_text a → IsKept a → IsKept b
  kept_rewritten a b kept journal is text k = record {
    journal = journal;
    listing = λ _. subst (λ (c : At). IsListing c) (sym is) (record { whole = refl; listing = refl });
    added = k.added;
    are = subst (λ (l : List ℕ). ArePiecesOf l k.added) (sym text) k.are;
  }

  -- at each moment what is left stands for the entries that are kept
  pub moments_rewritten : (a : KeptEntries D g) (b : Journal D g) (kept : stores.StoreKept) (base : List (List ℕ)) → Tries (replaces base) a.journal b → (base ≡ kept_records a) ⊎ (read start (joined base) ≡ at [] (listing (Some kept) []))
      → IsTrue (g.is_honest (journal_device b)) → (all : List Entry) → StandsFor a all → stores.StandsFor kept all
      → LeavesOnly g.moment g.left_since (entries_device a) (journal_device b) (λ c. BytesStandFor (entries_half a) (entries_len a) c all)
  moments_rewritten a b kept base tries is honest all stands store =
      let old : (c : List ℕ) → HasRecords (entries_half a) (entries_len a) (kept_records a) c → BytesStandFor (entries_half a) (entries_len a) c all = λ c has. record { records = kept_records a; has = has; are = stands } in
      let are : AreOf (joined base) all = ⊎_elim (λ same. subst (λ rs. AreOf (joined rs) all) (sym same) stands) (λ new. base_stands (joined base) kept all new store) is in
      weakened g.moment g.left_since (entries_device a) (journal_device b) _ _ (tries.moments honest)
      (λ c left. ⊎_elim (λ has. old c has) (λ has. record { records = base; has = has; are = are }) left)

  -- with no call
  pub moments_rest : (a : KeptEntries D g) (b : Journal D g) → Rests a.journal b → IsTrue (g.is_honest (journal_device b)) → (all : List Entry) → StandsFor a all
      → LeavesOnly g.moment g.left_since (entries_device a) (journal_device b) (λ c. BytesStandFor (entries_half a) (entries_len a) c all)
  moments_rest a b rests honest all stands =
      weakened g.moment g.left_since (entries_device a) (journal_device b) _ _ (rests.moments honest) (λ c has. record { records = kept_records a; has = has; are = stands })

  pub kept_rests : (a b : KeptEntries D g) → IsJournal b.journal → Rests a.journal b.journal → added_text b ≡ added_text a → IsKept a → IsKept b
  kept_rests a b journal rests text k = record {
    journal = journal;
    listing = λ honest. subst (λ (rs : List (List ℕ)). IsListing (read start (joined rs))) (sym rests.records) (k.listing (rests.honest honest));
    added = k.added;
    are = subst (λ (l : List ℕ). ArePiecesOf l k.added) (sym text) k.are;
  }

  -- what leaves these entries, and then no call
  pub moments_then_rest : (a b c : KeptEntries D g) → entries_half b ≡ entries_half a → entries_len b ≡ entries_len a → Rests b.journal c.journal → IsTrue (g.is_honest (entries_device c)) → (all : List Entry)
      → LeavesOnly g.moment g.left_since (entries_device a) (entries_device b) (λ l. BytesStandFor (entries_half a) (entries_len a) l all) → StandsFor b all
      → LeavesOnly g.moment g.left_since (entries_device a) (entries_device c) (λ l. BytesStandFor (entries_half a) (entries_len a) l all)
  moments_then_rest a b c half len rests honest all first stands =
      let P : List ℕ → Type 0 = λ l. BytesStandFor (entries_half a) (entries_len a) l all in
      runs_on g.moment g.left_since (entries_device a) (entries_device b) (entries_device c) P first
      (weakened g.moment g.left_since (entries_device b) (entries_device c) (λ l. BytesStandFor (entries_half b) (entries_len b) l all) P
      (moments_rest b c.journal rests honest all stands)
      (λ l left. subst (λ h. BytesStandFor h (entries_len a) l all) half (subst (λ n. BytesStandFor (entries_half b) n l all) len left)))

-- a chunk that was fed has a byte
pub fed_some : (chunk : List ℕ) (state next : State) → fed chunk state ≡ Ok next → chunk ≡ [] → ⊥
unfolding fed
fed_some [] state next got none = cc
fed_some (b ∷ chunk) state next got none = cc
