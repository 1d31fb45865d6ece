-- A record of entries behind those that are there.
use Rattle.std.proofs.Common.{◌≡◌, ◌⊎◌, inl, inr, ℕ, zero, suc, List, [], ◌∷◌, ◌++◌, length, take, refl, sym, ◌∙◌, ap, subst, arith, append-nil}
use Rattle.std.proofs.lemmas.Bool.{eqb-true}
use Rattle.std.specs.Prelude.{◌==◌, IsTrue, Option, None, Some, true, false, Bool, cond}
use Rattle.cq_base.specs.declared.ask.Entry.{Entry}
use Rattle.cq_disk.specs.Device.{LeavesOnly}
use Rattle.cq_disk.specs.declared.device.Device.{Ghosts}
use Rattle.cq_disk.proofs.Moments.{weakened}
use Rattle.cq_journal.specs.Base.{HasEitherRecords}
use Rattle.cq_journal.specs.Changes.{adds}
use Rattle.cq_journal.specs.Histories.{Tries}
use Rattle.cq_journal.specs.Journal.{IsJournal, journal_device, journal_records}
use Rattle.cq_journal.specs.Regions.{HasPrefixOf, kept}
use Rattle.cq_journal.specs.declared.journal.Journal.{Journal}
use Rattle.cq_records.specs.Frames.{joined}
use Rattle.cq_records.proofs.Frames.{joined_append}
use Rattle.cq_kept_entries.specs.declared.kept.KeptEntries.{KeptEntries}
use Rattle.cq_kept_entries.specs.Kept.{BytesStandFor, HasAdded, IsKept, StandsFor, added_records, added_text, entries_device, entries_half, entries_len, head, headed, kept_bytes, kept_records, text_records}
use Rattle.cq_kept_entries.specs.Pieces.{AreOf, ArePiecesOf, IsListing, Means, is_fresh, at, fresh, listing, read, start}
use Rattle.cq_kept_entries.proofs.Readings.{are_on, both_added, none_added, read_both, still_listing}

pub joined_more : (rs : List (List ℕ)) (r : List ℕ) → joined (rs ++ r ∷ []) ≡ joined rs ++ r
joined_more rs r = joined_append rs (r ∷ []) ∙ ap (λ (l : List ℕ). joined rs ++ l) (append-nil r)

joined_text : (rs : List (List ℕ)) (text : List ℕ) → joined (rs ++ text_records text) ≡ joined rs ++ text
joined_text rs [] = joined_append rs []
joined_text rs (b ∷ text) = joined_more rs (b ∷ text)

some_text : (text : List ℕ) → (text ≡ [] → ⊥) → text_records text ≡ text ∷ []
some_text [] some = absurd (some refl)
some_text (b ∷ text) some = refl

pub same_text : (slice text : List ℕ) → slice ≡ text → (text ≡ [] → ⊥) → slice ∷ [] ≡ text_records text
same_text slice text same some = ap (λ (l : List ℕ). l ∷ []) same ∙ sym (some_text text some)

pub no_bytes : (bytes : List ℕ) → (length bytes == 0) ≡ true → bytes ≡ []
no_bytes [] is = refl
no_bytes (b ∷ bytes) is =
    let none : length (b ∷ bytes) ≡ 0 = eqb-true _ _ is in
    absurd (omega (arith, none))

pub some_bytes : (bytes : List ℕ) → (length bytes == 0) ≡ false → bytes ≡ [] → ⊥
some_bytes [] is none = cc
some_bytes (b ∷ bytes) is none = cc

-- ---- what a crash leaves

abbrev some : List (List ℕ) → Option (List (List ℕ))
some xs = Some xs

pub prefix_stands : (half len : ℕ) (rs : List (List ℕ)) (text : List ℕ) (all more : List Entry) (c : List ℕ) → IsListing (read start (joined rs)) → ArePiecesOf text more → AreOf (joined rs) all
    → HasPrefixOf half len rs (text_records text) c → BytesStandFor half len c all ⊎ BytesStandFor half len c (all ++ more)
prefix_stands half len rs text all more c is are means prefix = go text prefix.0 are prefix.1
  where
    none : (is_left : kept half len c ≡ some (rs ++ [])) → BytesStandFor half len c all
    none is_left = record { records = rs; has = is_left ∙ ap some (append-nil rs); are = means }

    whole : (t : List ℕ) → ArePiecesOf t more → kept half len c ≡ some (rs ++ t ∷ []) → BytesStandFor half len c (all ++ more)
    whole t pieces is_left = record { records = rs ++ t ∷ []; has = is_left; are = subst (λ (l : List ℕ). AreOf l (all ++ more)) (sym (joined_more rs t)) (are_on (joined rs) t all more is pieces means) }

    go : (t : List ℕ) (many : ℕ) → ArePiecesOf t more → kept half len c ≡ some (rs ++ take many (text_records t)) → BytesStandFor half len c all ⊎ BytesStandFor half len c (all ++ more)
    go [] zero pieces is_left = inl (none is_left)
    go [] (suc many) pieces is_left = inl (none is_left)
    go (b ∷ t) zero pieces is_left = inl (none is_left)
    go (b ∷ t) (suc zero) pieces is_left = inr (whole (b ∷ t) pieces is_left)
    go (b ∷ t) (suc (suc many)) pieces is_left = inr (whole (b ∷ t) pieces is_left)

-- ---- kept entries

module _ {D : Type 0} {g : Ghosts D} where
  abbrev Honest : KeptEntries D g → Type 0
  Honest k = IsTrue (g.is_honest (entries_device k))

  abbrev HonestJournal : Journal D g → Type 0
  HonestJournal j = IsTrue (g.is_honest (journal_device j))

  pub moments_stand : (old : KeptEntries D g) (new : Journal D g) → IsKept old → Tries (adds (added_records old)) old.journal new → HonestJournal new → (all more : List Entry) → StandsFor old all → HasAdded old more
      → LeavesOnly g.moment g.left_since (entries_device old) (journal_device new) (λ c. BytesStandFor (entries_half old) (entries_len old) c all ⊎ BytesStandFor (entries_half old) (entries_len old) c (all ++ more))
  moments_stand old new k tries honest all more stands has =
      weakened g.moment g.left_since (entries_device old) (journal_device new) _ _ (tries.moments honest)
      (λ c. prefix_stands (entries_half old) (entries_len old) (kept_records old) (added_text old) all more c (k.listing (tries.honest honest)) has stands)

  pub stands_on : (old : KeptEntries D g) (new : Journal D g) → IsKept old → journal_records new ≡ kept_records old ++ added_records old → (HonestJournal new → Honest old) → HonestJournal new → (all more : List Entry) → StandsFor old all → HasAdded old more
      → AreOf (joined (journal_records new)) (all ++ more)
  stands_on old new k records back honest all more stands has =
      subst (λ (l : List ℕ). AreOf l (all ++ more)) (sym (ap joined records ∙ joined_text (kept_records old) (added_text old)))
      (are_on (kept_bytes old) (added_text old) all more (k.listing (back honest)) has stands)

  -- where nothing was added
  pub no_records : (old : KeptEntries D g) → added_text old ≡ [] → kept_records old ≡ kept_records old ++ added_records old
  no_records old none = sym (ap (λ (l : List ℕ). kept_records old ++ text_records l) none ∙ append-nil (kept_records old))

  pub kept_on : (old new : KeptEntries D g) → IsKept old → IsJournal new.journal → kept_records new ≡ kept_records old ++ added_records old → (Honest new → Honest old) → added_text new ≡ [] → IsKept new
  kept_on old new k journal records back none = record {
    journal = journal;
    listing = λ honest. subst (λ (l : List ℕ). IsListing (read start l)) (sym (ap joined records ∙ joined_text (kept_records old) (added_text old)))
        (still_listing (kept_bytes old) (added_text old) k.added (k.listing (back honest)) k.are);
    added = [];
    are = subst (λ (l : List ℕ). ArePiecesOf l []) (sym none) none_added;
  }

  -- its journal has the same records
  pub kept_same : (a b : KeptEntries D g) → IsJournal b.journal → kept_records b ≡ kept_records a → (Honest b → Honest a) → added_text b ≡ added_text a → IsKept a → IsKept b
  kept_same a b journal records back text k = record {
    journal = journal;
    listing = λ honest. subst (λ rs. IsListing (read start (joined rs))) (sym records) (k.listing (back honest));
    added = k.added;
    are = subst (λ (l : List ℕ). ArePiecesOf l k.added) (sym text) k.are;
  }

  -- one entry more was added
  pub kept_with : (a b : KeptEntries D g) (piece : List ℕ) (entry : Entry) → b.journal ≡ a.journal → added_text b ≡ added_text a ++ piece → ArePiecesOf piece (entry ∷ []) → IsKept a → IsKept b
  kept_with a b piece entry journal text is k = record {
    journal = subst IsJournal (sym journal) k.journal;
    listing = λ honest. subst (λ j. IsListing (read start (joined (journal_records j)))) (sym journal) (k.listing (subst (λ j. IsTrue (g.is_honest (journal_device j))) journal honest));
    added = k.added ++ entry ∷ [];
    are = subst (λ (l : List ℕ). ArePiecesOf l (k.added ++ entry ∷ [])) (sym text) (both_added (added_text a) piece k.added entry k.are is);
  }

  -- the first piece alone
  pub kept_new : (k : KeptEntries D g) → IsJournal k.journal → kept_records k ≡ head ∷ [] → added_text k ≡ [] → IsKept k
  kept_new k journal is none = record {
    journal = journal;
    listing = λ _. subst (λ rs. IsListing (read start (joined rs))) (sym is) (record { whole = refl; listing = refl });
    added = [];
    are = subst (λ (l : List ℕ). ArePiecesOf l []) (sym none) none_added;
  }

  pub stands_new : (k : KeptEntries D g) → kept_records k ≡ head ∷ [] → StandsFor k []
  stands_new k is = subst (λ rs. AreOf (joined rs) []) (sym is) (refl, refl)

  -- ---- where a journal is opened

  -- entries are there
  pub kept_found : (a b : KeptEntries D g) (stage_is : Honest b → IsListing (read start (kept_bytes a))) → IsJournal b.journal → kept_records b ≡ kept_records a → added_text b ≡ [] → IsKept b
  kept_found a b stage_is journal records none = record {
    journal = journal;
    listing = λ honest. subst (λ rs. IsListing (read start (joined rs))) (sym records) (stage_is honest);
    added = [];
    are = subst (λ (l : List ℕ). ArePiecesOf l []) (sym none) none_added;
  }

pub headed_fresh : (rs : List (List ℕ)) → (read start (joined rs)).stage ≡ fresh → headed rs ≡ rs ++ head ∷ []
headed_fresh rs is = ap (λ stage. cond (is_fresh stage) (rs ++ head ∷ []) rs) is

pub headed_same : (rs : List (List ℕ)) → is_fresh (read start (joined rs)).stage ≡ false → headed rs ≡ rs
headed_same rs is = ap (λ (b : Bool). cond b (rs ++ head ∷ []) rs) is

-- where nothing was, the first piece stands for it
pub fresh_headed : (rs : List (List ℕ)) → (read start (joined rs)).piece ≡ [] → (read start (joined rs)).stage ≡ fresh → read start (joined (rs ++ head ∷ [])) ≡ at [] (listing None [])
fresh_headed rs none is =
    ap (λ (l : List ℕ). read start l) (joined_more rs head) ∙ read_both start (joined rs) head ∙ (λ i. read (at (none i) (is i)) head)

pub fresh_means : (rs : List (List ℕ)) (all : List Entry) → (read start (joined rs)).stage ≡ fresh → AreOf (joined rs) all → all ≡ []
fresh_means rs all is means = subst (λ stage. Means stage all) is means.1

-- a record that is there, or not
pub either_headed : (half len : ℕ) (rs : List (List ℕ)) (c : List ℕ) → headed rs ≡ rs ++ head ∷ [] → HasPrefixOf half len rs (head ∷ []) c → HasEitherRecords half len rs (headed rs) c
either_headed half len rs c is prefix = go prefix.0 prefix.1
  where
    go : (many : ℕ) → kept half len c ≡ some (rs ++ take many (head ∷ [])) → HasEitherRecords half len rs (headed rs) c
    go zero has = inl (has ∙ ap some (append-nil rs))
    go (suc zero) has = inr (has ∙ ap some (sym is))
    go (suc (suc many)) has = inr (has ∙ ap some (sym is))
