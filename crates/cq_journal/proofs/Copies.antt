-- Journals that stay as they are, one run of calls behind another.
use Rattle.std.proofs.Common.{◌≡◌, inl, inr, ⊎_elim, ℕ, zero, suc, ◌+◌, ◌<◌, ◌≤◌, List, [], ◌∷◌, ◌++◌, length, take, append_assoc, refl, sym, ◌∙◌, ap, subst, arith}
use Rattle.std.specs.Prelude.{Some, IsTrue, get_or}
use Rattle.cq_disk.specs.Device.{LeavesOnly}
use Rattle.cq_disk.specs.Region.{part}
use Rattle.cq_disk.specs.declared.device.Device.{Ghosts}
use Rattle.cq_disk.proofs.Moments.{started, weakened, runs_on}
use Rattle.cq_records.specs.Frames.{records}
use Rattle.cq_records.specs.Layout.{IsLog}
use Rattle.cq_journal.specs.declared.journal.Journal.{Journal}
use Rattle.cq_journal.specs.declared.number.TheConstants.{NUMBER_LIMIT}
use Rattle.cq_journal.specs.Base.{HasEitherRecords}
use Rattle.cq_journal.specs.Intact.{IsIntact}
use Rattle.cq_journal.specs.Journal.{journal_device, journal_half, journal_places, journal_records, region_len, HasRegions, StaysJournal}
use Rattle.cq_journal.specs.Regions.{Each, AreApart, HasRecords, kept, regions_text, records_at}
use Rattle.cq_journal.specs.Rests.{Rests}
use Rattle.cq_journal.specs.Root.{IsRoot, root_number}
use Rattle.cq_journal.specs.Roots.{root_of, numbered}
use Rattle.cq_journal.specs.within.Reads.{IsRead}
use Rattle.cq_journal.proofs.Intact.{rests_intact, leaves_on, stays_on, stays_same}
use Rattle.cq_journal.proofs.Regions.{kept_of}

module _ {D : Type 0} {g : Ghosts D} where
  -- what is on the medium of a journal are its records
  pub at_rest : (j : Journal D g) → HasRegions j → IsTrue (g.is_honest (journal_device j)) → (c : List ℕ) → c ≡ g.seen (journal_device j) → HasRecords (journal_half j) (region_len j) (journal_records j) c
  at_rest j q honest c is =
      subst (HasRecords (journal_half j) (region_len j) (journal_records j)) (sym is) (kept_of (journal_half j) (region_len j) (root_number j.root) (journal_places j) (g.seen (journal_device j)) q.small (q.names honest))

  -- with no call
  pub rests_self : (j : Journal D g) → ((c : List ℕ) → g.left_since (journal_device j) (g.moment (journal_device j)) c → g.may_leave (journal_device j) c) → HasRegions j → Rests j j
  rests_self j only q = record {
    half = refl;
    len = refl;
    records = refl;
    honest = λ honest. honest;
    moments = λ honest. started g.moment g.left_since (journal_device j) (HasRecords (journal_half j) (region_len j) (journal_records j)) (λ c left. at_rest j q honest c (q.root.durable c (only c left)));
    intact = rests_intact j only q;
    stays = λ _ i. i;
    later = omega arith;
  }

  pub rests_on : (a b c : Journal D g) → Rests a b → Rests b c → Rests a c
  rests_on a b c p q = record {
    half = q.half ∙ p.half;
    len = q.len ∙ p.len;
    records = q.records ∙ p.records;
    honest = λ honest. p.honest (q.honest honest);
    moments = λ honest.
        let P : List ℕ → Type 0 = HasRecords (journal_half a) (region_len a) (journal_records a) in
        runs_on g.moment g.left_since (journal_device a) (journal_device b) (journal_device c) P (p.moments (q.honest honest))
        (weakened g.moment g.left_since (journal_device b) (journal_device c) (HasRecords (journal_half b) (region_len b) (journal_records b)) P (q.moments honest)
        (λ f is. (λ i. kept (sym p.half i) (sym p.len i) f) ∙ is ∙ ap (λ (rs : List (List ℕ)). Some rs) p.records));
    intact = leaves_on a b c p.half p.len q.honest p.intact p.stays q.intact;
    stays = stays_on a b c p.half p.len q.honest p.stays q.stays;
    later = omega (arith, p.later, q.later);
  }

  -- A journal whose device was read is the same.
  module _ (old new : Journal D g) (read : IsRead old new) (half : journal_half new ≡ journal_half old) where
    places_are : journal_places new ≡ journal_places old
    places_are = λ i. (read.closed i).items ++ read.growing i ∷ []

    pub records_read : journal_records new ≡ journal_records old
    records_read = λ i. records_at (read.len i) (places_are i) (read.seen i)

    pub rests_read : (IsTrue (g.is_honest (journal_device new)) → IsTrue (g.is_honest (journal_device old))) → g.faults (journal_device old) ≤ g.faults (journal_device new) → HasRegions old
        → LeavesOnly g.moment g.left_since (journal_device old) (journal_device new) (λ c. c ≡ g.seen (journal_device old)) → Rests old new
    rests_read honest later q run = record {
      half = half;
      len = read.len;
      records = records_read;
      honest = honest;
      moments = λ now. weakened g.moment g.left_since (journal_device old) (journal_device new) (λ c. c ≡ g.seen (journal_device old)) (HasRecords (journal_half old) (region_len old) (journal_records old)) run
          (at_rest old q (honest now));
      intact = λ now i. weakened g.moment g.left_since (journal_device old) (journal_device new) (λ c. c ≡ g.seen (journal_device old)) (IsIntact (journal_half old) (region_len old)) run
          (λ c is. subst (IsIntact (journal_half old) (region_len old)) (sym is) i);
      stays = stays_same old new read.seen;
      later = later;
    }

    pub regions_read : root_number new.root ≡ root_number old.root → (IsTrue (g.is_honest (journal_device new)) → IsTrue (g.is_honest (journal_device old))) → IsRoot new.root → HasRegions old → HasRegions new
    regions_read number honest root q =
        let new_bytes = g.seen (journal_device new) in
        record {
          root = root;
          behind = subst (λ (ns : List ℕ). Each (λ n. journal_half new + journal_half new ≤ n) ns) (sym places_are) (subst (λ (k : ℕ). Each (λ n. k + k ≤ n) (journal_places old)) (sym half) q.behind);
          within = subst (λ (ns : List ℕ). Each (λ n. n + new.len ≤ length new_bytes) ns) (sym places_are)
              (subst (λ (k : ℕ). Each (λ n. n + k ≤ length new_bytes) (journal_places old)) (sym read.len) (subst (λ (bytes : List ℕ). Each (λ n. n + old.len ≤ length bytes) (journal_places old)) (sym read.seen) q.within));
          apart = subst (λ (k : ℕ). Each (λ n. AreApart k n new.growing) new.closed.items) (sym read.len)
              (subst (λ (gr : ℕ). Each (λ n. AreApart old.len n gr) new.closed.items) (sym read.growing) (subst (λ (ns : List ℕ). Each (λ n. AreApart old.len n old.growing) ns) (λ i. (sym read.closed i).items) q.apart));
          small = subst (λ (ns : List ℕ). Each (λ n. n < NUMBER_LIMIT) ns) (sym places_are) q.small;
          names = λ now. (λ i. root_of (half i) (read.seen i)) ∙ q.names (honest now) ∙ (λ i. Some (numbered (sym number i) (regions_text (sym read.torn i) (sym places_are i))));
        }

    pub stays_read : new.end ≡ old.end → root_number new.root ≡ root_number old.root → (IsTrue (g.is_honest (journal_device new)) → IsTrue (g.is_honest (journal_device old))) → IsRoot new.root → HasRegions old → StaysJournal old new
    stays_read end number honest root q =
        let new_bytes = g.seen (journal_device new) in
        let regions = regions_read number honest root q in
        record {
          regions = regions;
          journal = λ journal. record {
            regions = regions;
            log = subst (λ (e : ℕ). IsLog (part new.growing new.len new_bytes) e) (sym end) (subst (λ (bytes : List ℕ). IsLog bytes old.end) (λ i. part (sym read.growing i) (sym read.len i) (sym read.seen i)) journal.log);
          };
        }

  pub stays_self : (j : Journal D g) → HasRegions j → StaysJournal j j
  stays_self j q = record { regions = q; journal = λ journal. journal }

  pub stays_journal_on : (a b c : Journal D g) → StaysJournal a b → StaysJournal b c → StaysJournal a c
  stays_journal_on a b c p q = record { regions = q.regions; journal = λ journal. q.journal (p.journal journal) }

-- one region more
pub records_next : (len : ℕ) (ns : List ℕ) (i : ℕ) (bytes : List ℕ) → i < length ns → records_at len (take (i + 1) ns) bytes ≡ records_at len (take i ns) bytes ++ records (part (get_or ns i 0) len bytes)
records_next len ns i bytes below = ap (λ (k : ℕ). records_at len (take k ns) bytes) next ∙ go ns i below
  where
    next : i + 1 ≡ suc i
    next = omega arith

    none : (rs : List (List ℕ)) → rs ++ [] ≡ rs
    none [] = refl
    none (r ∷ rs) = ap (λ (xs : List (List ℕ)). r ∷ xs) (none rs)

    go : (ns : List ℕ) (i : ℕ) → i < length ns → records_at len (take (suc i) ns) bytes ≡ records_at len (take i ns) bytes ++ records (part (get_or ns i 0) len bytes)
    go [] i below = absurd (omega (arith, below))
    go (n ∷ ns) zero below = none (records (part n len bytes))
    go (n ∷ ns) (suc i) below =
        ap (λ (rs : List (List ℕ)). records (part n len bytes) ++ rs) (go ns i (omega (arith, below))) ∙ sym (append_assoc (records (part n len bytes)) (records_at len (take i ns) bytes) (records (part (get_or ns i 0) len bytes)))

pub get_here : (ns : List ℕ) (i x : ℕ) → i < length ns → x ≡ get_or ns i x → x ≡ get_or ns i 0
get_here [] i x below is = absurd (omega (arith, below))
get_here (n ∷ ns) zero x below is = is
get_here (n ∷ ns) (suc i) x below is = get_here ns i x (omega (arith, below)) is

pub take_whole : (ns : List ℕ) (i : ℕ) → length ns ≤ i → take i ns ≡ ns
take_whole [] zero long = refl
take_whole [] (suc i) long = refl
take_whole (n ∷ ns) zero long = absurd (omega (arith, long))
take_whole (n ∷ ns) (suc i) long = ap (λ (xs : List ℕ). n ∷ xs) (take_whole ns i (omega (arith, long)))

-- what is so of a journal's records at a moment is so of those of the one that it came from
pub either_back : {D : Type 0} {g : Ghosts D} (a b : Journal D g) → Rests a b → (base others : List (List ℕ)) → base ≡ others → (c : List ℕ)
    → HasEitherRecords (journal_half b) (region_len b) (journal_records b) base c → HasEitherRecords (journal_half a) (region_len a) (journal_records a) others c
either_back a b p base others is c either = ⊎_elim
    (λ old. inl ((λ i. kept (sym p.half i) (sym p.len i) c) ∙ old ∙ ap (λ (rs : List (List ℕ)). Some rs) p.records))
    (λ new. inr ((λ i. kept (sym p.half i) (sym p.len i) c) ∙ new ∙ ap (λ (rs : List (List ℕ)). Some rs) is))
    either
