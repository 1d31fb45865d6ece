-- What is kept was read, and the store of it is there.
use Rattle.std.proofs.Common.{◌≡◌, inl, ⊎_elim, ℕ, List, [], ◌∷◌, ◌++◌, Option, None, Some, Result, Ok, Err, refl, sym, ◌∙◌, ap, subst}
use Rattle.std.specs.Prelude.{IfOk, IsTrue, MatchOption, OnOk}
use Rattle.cq_base.specs.declared.ask.Entry.{Entry}
use Rattle.cq_disk.specs.Device.{LeavesOnly}
use Rattle.cq_disk.specs.declared.device.Device.{Ghosts}
use Rattle.cq_disk.proofs.Moments.{runs_on, weakened}
use Rattle.cq_journal.specs.Base.{HasEitherRecords}
use Rattle.cq_journal.specs.Changes.{adds}
use Rattle.cq_journal.specs.Histories.{Tries}
use Rattle.cq_journal.specs.Journal.{IsJournal}
use Rattle.cq_journal.specs.Regions.{kept}
use Rattle.cq_journal.specs.Rests.{Rests}
use Rattle.cq_journal.proofs.Appends.{prefix_back}
use Rattle.cq_records.specs.Frames.{joined}
use Rattle.cq_store.specs.Stands as stores
use Rattle.cq_kept_entries.specs.declared.kept.KeptEntries.{KeptEntries}
use Rattle.cq_kept_entries.specs.Kept.{BytesStandFor, IsKept, StandsFor, added_text, entries_device, entries_half, entries_len, head, headed, kept_bytes, kept_records}
use Rattle.cq_kept_entries.specs.Pieces.{AreOf, ArePiecesOf, At, IsListing, Means, MeansAt, Stage, at, bad, fresh, is_fresh, is_listing, listing, read, start, storing}
use Rattle.cq_kept_entries.specs.within.Readers.{IsListed}
use Rattle.cq_kept_entries.proofs.Added.{either_headed, fresh_headed, fresh_means, headed_fresh, headed_same, kept_found}
use Rattle.cq_kept_entries.proofs.Readings.{none_added}

pub some_of : {A : Type 0} (P : Type 0) (Q : A → Type 0) (o : Option A) (x : A) → o ≡ Some x → MatchOption o P Q → Q x
some_of P Q o x is m = subst (λ p. MatchOption p P Q) is m

pub none_of : {A : Type 0} (P : Type 0) (Q : A → Type 0) (o : Option A) → o ≡ None → MatchOption o P Q → P
none_of P Q o is m = subst (λ p. MatchOption p P Q) is m

pub on_ok : {T E P Q : Type 0} (r : Result T E) → OnOk r P → (P → Q) → OnOk r Q
on_ok (Ok x) p next = next p
on_ok (Err e) p next = tt

pub on_both : {T E P Q R : Type 0} (r : Result T E) → OnOk r P → OnOk r Q → (P → Q → R) → OnOk r R
on_both (Ok x) p q next = next p q
on_both (Err e) p q next = tt

pub ok_both : {T E Q : Type 0} {P R : T → Type 0} (r : Result T E) → IfOk r P → OnOk r Q → ((x : T) → P x → Q → R x) → IfOk r R
ok_both (Ok x) p q next = next x p q
ok_both (Err e) p q next = tt

pub stands_listed : (bytes : List ℕ) (store : stores.StoreKept) (all : List Entry) → IsListed (read start bytes).stage store → AreOf bytes all → stores.StandsFor store all
stands_listed bytes store all l means = l.stands all (subst (λ stage. Means stage all) l.is means.1)

abbrev some_records : List (List ℕ) → Option (List (List ℕ))
some_records rs = Some rs

abbrev of_some : Option (List (List ℕ)) → List (List ℕ)
of_some None = []
of_some (Some found) = found

pub same_found : (rs found : List (List ℕ)) (o : Option (List (List ℕ))) → o ≡ Some rs → o ≡ Some found → found ≡ rs
same_found rs found o is are = ap of_some (sym are ∙ is)

-- records with the first piece stand for the same
pub headed_stands : (rs : List (List ℕ)) (all : List Entry) → AreOf (joined rs) all → AreOf (joined (headed rs)) all
headed_stands rs all means = go (read start (joined rs)).stage refl
  where
    go : (stage : Stage) → (read start (joined rs)).stage ≡ stage → AreOf (joined (headed rs)) all
    go fresh is =
        let none : all ≡ [] = fresh_means rs all is means in
        subst (λ xs. AreOf (joined xs) all) (sym (headed_fresh rs is)) (subst (λ (a : At). MeansAt a all) (sym (fresh_headed rs means.0 is)) (refl, none))
    go (storing state) is = subst (λ xs. AreOf (joined xs) all) (sym (headed_same rs (ap is_fresh is))) means
    go (listing base entries) is = subst (λ xs. AreOf (joined xs) all) (sym (headed_same rs (ap is_fresh is))) means
    go bad is = subst (λ xs. AreOf (joined xs) all) (sym (headed_same rs (ap is_fresh is))) means

module _ {D : Type 0} {g : Ghosts D} where
  abbrev Honest : KeptEntries D g → Type 0
  Honest k = IsTrue (g.is_honest (entries_device k))

  -- ---- entries were there

  pub kept_there : (old mid : KeptEntries D g) (store : stores.StoreKept) → IsJournal mid.journal → Rests old.journal mid.journal → added_text mid ≡ [] → (Honest mid → ((read start (kept_bytes old)).piece ≡ []) × IsListed (read start (kept_bytes old)).stage store) → IsKept mid
  kept_there old mid store journal rests none listed = kept_found old mid (λ honest. record { whole = (listed honest).0; listing = ap is_listing (listed honest).1.is }) journal rests.records none

  pub records_there : (old mid : KeptEntries D g) (store : stores.StoreKept) → Rests old.journal mid.journal → IsListed (read start (kept_bytes old)).stage store → kept_records mid ≡ headed (kept_records old)
  records_there old mid store rests l = rests.records ∙ sym (headed_same (kept_records old) (ap is_fresh l.is))

  pub store_there : (old mid : KeptEntries D g) (store : stores.StoreKept) (all : List Entry) → Rests old.journal mid.journal → IsListed (read start (kept_bytes old)).stage store → StandsFor mid all → stores.StandsFor store all
  store_there old mid store all rests l stands = stands_listed (kept_bytes old) store all l (subst (λ rs. AreOf (joined rs) all) rests.records stands)

  pub moments_there : (old mid : KeptEntries D g) → Rests old.journal mid.journal → Honest mid
      → LeavesOnly g.moment g.left_since (entries_device old) (entries_device mid) (HasEitherRecords (entries_half old) (entries_len old) (kept_records old) (headed (kept_records old)))
  moments_there old mid rests honest = weakened g.moment g.left_since (entries_device old) (entries_device mid) _ _ (rests.moments honest) (λ c is. inl is)

  -- ---- nothing was there

  pub records_begun : (old mid new : KeptEntries D g) → Rests old.journal mid.journal → (read start (kept_bytes old)).stage ≡ fresh → kept_records new ≡ kept_records mid ++ head ∷ [] → kept_records new ≡ headed (kept_records old)
  records_begun old mid new rests is records = records ∙ ap (λ (rs : List (List ℕ)). rs ++ head ∷ []) rests.records ∙ sym (headed_fresh (kept_records old) is)

  at_begun : (old mid new : KeptEntries D g) → Rests old.journal mid.journal → ((read start (kept_bytes old)).piece ≡ []) × ((read start (kept_bytes old)).stage ≡ fresh) → kept_records new ≡ kept_records mid ++ head ∷ [] → read start (kept_bytes new) ≡ at [] (listing None [])
  at_begun old mid new rests is records =
      ap (λ rs. read start (joined rs)) (records ∙ ap (λ (rs : List (List ℕ)). rs ++ head ∷ []) rests.records) ∙ fresh_headed (kept_records old) is.0 is.1

  pub kept_begun : (old mid new : KeptEntries D g) → Rests old.journal mid.journal → (Honest new → ((read start (kept_bytes old)).piece ≡ []) × ((read start (kept_bytes old)).stage ≡ fresh)) → IsJournal new.journal → kept_records new ≡ kept_records mid ++ head ∷ [] → added_text new ≡ [] → IsKept new
  kept_begun old mid new rests is journal records none = record {
    journal = journal;
    listing = λ honest. subst (λ (a : At). IsListing a) (sym (at_begun old mid new rests (is honest) records)) (record { whole = refl; listing = refl });
    added = [];
    are = subst (λ (l : List ℕ). ArePiecesOf l []) (sym none) none_added;
  }

  pub store_begun : (old mid new : KeptEntries D g) (store : stores.StoreKept) (all : List Entry) → Rests old.journal mid.journal → ((read start (kept_bytes old)).piece ≡ []) × ((read start (kept_bytes old)).stage ≡ fresh) → kept_records new ≡ kept_records mid ++ head ∷ []
      → stores.StandsFor store [] → StandsFor new all → stores.StandsFor store all
  store_begun old mid new store all rests is records empty stands =
      let means : MeansAt (at [] (listing None [])) all = subst (λ (a : At). MeansAt a all) (at_begun old mid new rests is records) stands in
      subst (λ (es : List Entry). stores.StandsFor store es) (sym means.1) empty

  pub moments_begun : (old mid new : KeptEntries D g) → Rests old.journal mid.journal → (read start (kept_bytes old)).stage ≡ fresh → Tries (adds (head ∷ [])) mid.journal new.journal → Honest new
      → LeavesOnly g.moment g.left_since (entries_device old) (entries_device new) (HasEitherRecords (entries_half old) (entries_len old) (kept_records old) (headed (kept_records old)))
  moments_begun old mid new rests is tries honest =
      let P : List ℕ → Type 0 = HasEitherRecords (entries_half old) (entries_len old) (kept_records old) (headed (kept_records old)) in
      runs_on g.moment g.left_since (entries_device old) (entries_device mid) (entries_device new) P
      (weakened g.moment g.left_since (entries_device old) (entries_device mid) _ P (rests.moments (tries.honest honest)) (λ c has. inl has))
      (weakened g.moment g.left_since (entries_device mid) (entries_device new) _ P (tries.moments honest)
      (λ c prefix. either_headed (entries_half old) (entries_len old) (kept_records old) c (headed_fresh (kept_records old) is) (prefix_back old.journal mid.journal (head ∷ []) rests.half rests.len rests.records c prefix)))

-- ---- a device

-- records of those lengths that stand for the entries, with the first piece or without it
pub either_stands : (half len h l : ℕ) (rs found : List (List ℕ)) (all : List Entry) (c : List ℕ) → h ≡ half → l ≡ len → found ≡ rs → AreOf (joined rs) all → HasEitherRecords h l found (headed found) c → BytesStandFor half len c all
either_stands half len h l rs found all c half_is len_is found_is are either = ⊎_elim
    (λ old. record { records = rs; has = (λ i. kept (sym half_is i) (sym len_is i) c) ∙ old ∙ ap some_records found_is; are = are })
    (λ more. record { records = headed rs; has = (λ i. kept (sym half_is i) (sym len_is i) c) ∙ more ∙ ap (λ (xs : List (List ℕ)). some_records (headed xs)) found_is; are = headed_stands rs all are })
    either
