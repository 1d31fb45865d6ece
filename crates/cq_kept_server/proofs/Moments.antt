-- What becomes of entries that are kept, and of those that are added.
use Rattle.std.proofs.Common.{◌≡◌, ◌⊎◌, ⊎_elim, inl, inr, ℕ, List, [], ◌∷◌, ◌++◌, refl, sym, ◌∙◌, ap, subst, append_assoc, append-nil}
use Rattle.std.specs.Prelude.{IsTrue}
use Rattle.cq_base.specs.declared.ask.Entry.{Entry}
use Rattle.cq_base.specs.Relations.{IsPrefix}
use Rattle.cq_disk.specs.Device.{LeavesOnly}
use Rattle.cq_disk.specs.declared.device.Device.{Ghosts}
use Rattle.cq_disk.proofs.Moments.{runs_on, weakened}
use Rattle.cq_journal.specs.declared.journal.Journal.{Journal}
use Rattle.cq_journal.specs.Journal.{IsJournal, journal_device, journal_half, journal_records, region_len}
use Rattle.cq_journal.proofs.Copies.{rests_self}
use Rattle.cq_records.specs.Frames.{joined}
use Rattle.cq_kept_entries.specs.Pieces.{AreOf, ArePiecesOf, IsListing, read, start}
use Rattle.cq_kept_entries.specs.declared.kept.KeptEntries.{KeptEntries}
use Rattle.cq_kept_entries.specs.Kept.{BytesStandFor, HasAdded, IsKept, StandsFor, added_text, entries_device, entries_half, entries_journal, entries_len}
use Rattle.cq_kept_entries.proofs.Rewritten.{moments_rest}
use Rattle.cq_kept_server.specs.Keeping.{Grows, GrowsBy, LeavesAtLeast, LeavesFront, StopsAt}
use Rattle.cq_kept_server.specs.Servers.{Has, HasEntries, State, device_of, half_of, len_of}

pub prefix_self : {X : Type 0} (a : List X) → IsPrefix a a
prefix_self a = ([], sym (append-nil a))

pub prefix_more : {X : Type 0} (a b : List X) → IsPrefix a (a ++ b)
prefix_more a b = (b, refl)

-- bytes that stand for those that are kept
pub kept_front : (half len : ℕ) (first rest : List Entry) (c : List ℕ) → BytesStandFor half len c first → LeavesFront half len first (first ++ rest) c
kept_front half len first rest c stands = record { left = first; stands = stands; has_first = prefix_self first; has_no_others = prefix_more first rest }

-- and for these and those that were added
pub all_front : (half len : ℕ) (first rest : List Entry) (c : List ℕ) → BytesStandFor half len c (first ++ rest) → LeavesFront half len first (first ++ rest) c
all_front half len first rest c stands = record { left = first ++ rest; stands = stands; has_first = prefix_more first rest; has_no_others = prefix_self (first ++ rest) }

-- since this moment there is no other
abbrev pub OnlyNow : {D : Type 0} (g : Ghosts D) → D → Type 0
OnlyNow g device = (c : List ℕ) → g.left_since device (g.moment device) c → g.may_leave device c

module _ {D : Type 0} {g : Ghosts D} where
  abbrev HonestJournal : Journal D g → Type 0
  HonestJournal j = IsTrue (g.is_honest (journal_device j))

  -- ---- with no call of the device

  pub still_leaves : (p q : State D g) (first rest : List Entry) → OnlyNow g (device_of p) → IsKept p.kept → entries_journal q.kept ≡ entries_journal p.kept → HonestJournal q.kept.journal → StandsFor p.kept first
      → LeavesAtLeast p q first (first ++ rest)
  still_leaves p q first rest only ready same honest stands =
      let P : List ℕ → Type 0 = LeavesFront (half_of p) (len_of p) first (first ++ rest) in
      let j = p.kept.journal in
      let here : LeavesOnly g.moment g.left_since (journal_device j) (journal_device j) P =
      weakened g.moment g.left_since (journal_device j) (journal_device j) _ P
      (moments_rest p.kept j (rests_self j only ready.journal.regions) (subst HonestJournal same honest) first stands)
      (kept_front (half_of p) (len_of p) first rest) in
      subst (λ (it : Journal D g). LeavesOnly g.moment g.left_since (journal_device j) (journal_device it) P) (sym same) here

  pub still_stands : (a b : KeptEntries D g) (first : List Entry) → entries_journal b ≡ entries_journal a → StandsFor a first → StandsFor b first
  still_stands a b first same stands = subst (λ (j : Journal D g). AreOf (joined (journal_records j)) first) (sym same) stands

  pub still_added : (a b : KeptEntries D g) (rest : List Entry) → added_text b ≡ added_text a → HasAdded a rest → HasAdded b rest
  still_added a b rest same added = subst (λ (l : List ℕ). ArePiecesOf l rest) (sym same) added

  pub still_kept : (a b : KeptEntries D g) → entries_journal b ≡ entries_journal a → added_text b ≡ added_text a → IsKept a → IsKept b
  still_kept a b same text k = record {
    journal = subst (λ (j : Journal D g). IsJournal j) (sym same) k.journal;
    listing = λ honest. subst (λ (j : Journal D g). IsListing (read start (joined (journal_records j)))) (sym same) (k.listing (subst HonestJournal same honest));
    added = k.added;
    are = still_added a b k.added text k.are;
  }

  -- the server has the entries that it had, and none was added
  pub grows_none : (p q : State D g) (comes : List Entry → List Entry → Type 0) → OnlyNow g (device_of p) → IsKept p.kept → entries_journal q.kept ≡ entries_journal p.kept → added_text q.kept ≡ added_text p.kept
      → ((all : List Entry) → HasEntries p.process all → HasEntries q.process all) → ((all : List Entry) → comes all []) → GrowsBy p q comes
  grows_none p q comes only ready same text keeps none = record {
    half = ap (λ (j : Journal D g). journal_half j) same;
    len = ap (λ (j : Journal D g). region_len j) same;
    honest = λ honest. subst HonestJournal same honest;
    grows = λ honest first rest has. (
      [],
      (
        none (first ++ rest),
        record {
          kept = first;
          added = rest;
          has = record { server = keeps (first ++ rest) has.server; kept = still_stands p.kept q.kept first same has.kept; added = still_added p.kept q.kept rest text has.added };
          all = sym (append-nil (first ++ rest));
          more = prefix_self first;
          moments = still_leaves p q first rest only ready same honest has.kept;
        },
      ),
    );
  }

  -- the server has one entry more, which was added
  pub grows_one : (p q : State D g) (comes : List Entry → List Entry → Type 0) → OnlyNow g (device_of p) → IsKept p.kept → entries_journal q.kept ≡ entries_journal p.kept
      → ((first rest : List Entry) → Has p first rest → (e : Entry) × (comes (first ++ rest) (e ∷ []) × (HasEntries q.process ((first ++ rest) ++ e ∷ []) × HasAdded q.kept (rest ++ e ∷ [])))) → GrowsBy p q comes
  grows_one p q comes only ready same step = record {
    half = ap (λ (j : Journal D g). journal_half j) same;
    len = ap (λ (j : Journal D g). region_len j) same;
    honest = λ honest. subst HonestJournal same honest;
    grows = λ honest first rest has.
        let one = step first rest has in
        let all : first ++ (rest ++ one.0 ∷ []) ≡ (first ++ rest) ++ one.0 ∷ [] = sym (append_assoc first rest (one.0 ∷ [])) in (
          one.0 ∷ [],
          (
            one.1.0,
            record {
              kept = first;
              added = rest ++ one.0 ∷ [];
              has = record { server = subst (λ (l : List Entry). HasEntries q.process l) (sym all) one.1.1.0; kept = still_stands p.kept q.kept first same has.kept; added = one.1.1.1 };
              all = all;
              more = prefix_self first;
              moments = still_leaves p q first (rest ++ one.0 ∷ []) only ready same honest has.kept;
            },
          ),
        );
  }

  -- a fault leaves the journal as it was
  pub stops_here : (p q : State D g) → OnlyNow g (device_of p) → entries_journal q.kept ≡ entries_journal p.kept → IsKept p.kept → StopsAt p q
  stops_here p q only same ready = record {
    honest = λ honest. subst HonestJournal same honest;
    leaves = λ honest first rest has. still_leaves p q first rest only ready same honest has.kept;
  }
