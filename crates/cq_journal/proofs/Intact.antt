-- Bytes that stay intact while calls change them.
use Rattle.std.proofs.Common.{◌≡◌, ⊎_elim, ℕ, ◌+◌, ◌<◌, ◌≤◌, true, List, [], ◌∷◌, ◌++◌, length, drop, refl, sym, ◌∙◌, ap, subst, arith}
use Rattle.std.specs.Prelude.{Option, Some, None, IsTrue, replicate, slice_index}
use Rattle.cq_disk.specs.Device.{LeavesOnly}
use Rattle.cq_disk.specs.Region.{part, Beside}
use Rattle.cq_disk.specs.declared.device.TornWrites.{TornWrites}
use Rattle.cq_disk.specs.declared.device.TornWrites.TheVariants.{OldOrNew, Any}
use Rattle.cq_disk.specs.declared.device.Device.{Ghosts}
use Rattle.cq_disk.proofs.Moments.{started, runs_on, weakened}
use Rattle.cq_records.specs.Frames.{frames, ends_with, is_closed, records, all_sound}
use Rattle.cq_journal.specs.declared.journal.Journal.{Journal}
use Rattle.cq_journal.specs.declared.number.TheConstants.{NUMBER_LIMIT}
use Rattle.cq_journal.specs.Intact.{IsIntactAt, IsIntact, LeavesIntact, StaysIntact}
use Rattle.cq_journal.specs.Journal.{journal_device, journal_half, journal_places, region_len, HasRegions}
use Rattle.cq_journal.specs.Regions.{Each, AreApart, AreSound, AreClosed, behind_of, kind_of, regions_text, places_text, places_in}
use Rattle.cq_journal.specs.Root.{root_number}
use Rattle.cq_journal.specs.Roots.{first_of, number_in, half_of, root_of, numbered, HasSoundHalves, IsOldOrNew}
use Rattle.cq_journal.specs.within.Outside.{IsOutside}
use Rattle.cq_journal.proofs.Halves.{number_back, root_is}
use Rattle.cq_journal.proofs.Moves.{blank_frames}
use Rattle.cq_journal.proofs.RegionLists.{snoc_same}
use Rattle.cq_journal.proofs.Regions.{closed_apart, each_more, each_left, last_of, part_apart, part_before, part_same, places_back, root_apart, sound_apart}

-- ---- one root names one row of regions

abbrev named_places : Option (List ℕ) → List ℕ
named_places None = []
named_places (Some root) = places_in (drop 6 root)

pub same_places : {k k2 : ℕ} (n m : ℕ) (ps qs : List ℕ) → Each (λ p. p < NUMBER_LIMIT) ps → Each (λ p. p < NUMBER_LIMIT) qs → Some (numbered n (k ∷ places_text ps)) ≡ Some (numbered m (k2 ∷ places_text qs)) → ps ≡ qs
same_places n m ps qs small_p small_q same = sym (places_back ps small_p) ∙ named ∙ places_back qs small_q
  where
    named : places_in (places_text ps) ≡ places_in (places_text qs)
    named = ap named_places same

abbrev named_kind : Option (List ℕ) → ℕ
named_kind None = 0
named_kind (Some root) = slice_index root 5

kinds_differ : (t u : TornWrites) → kind_of t ≡ kind_of u → t ≡ u
kinds_differ OldOrNew OldOrNew same = refl
kinds_differ OldOrNew Any same = absurd (omega (arith, same))
kinds_differ Any OldOrNew same = absurd (omega (arith, same))
kinds_differ Any Any same = refl

-- and how the last one is written
pub same_torn : (n m : ℕ) (t u : TornWrites) (ps qs : List ℕ) → Some (numbered n (regions_text t ps)) ≡ Some (numbered m (regions_text u qs)) → t ≡ u
same_torn n m t u ps qs same = kinds_differ t u named
  where
    named : kind_of t ≡ kind_of u
    named = ap named_kind same

-- ---- what lies beside a region

long_within : (len : ℕ) (ms old c : List ℕ) → length c ≡ length old → Each (λ m. m + len ≤ length old) ms → Each (λ m. m + len ≤ length c) ms
long_within len ms old c long within = subst (λ (k : ℕ). Each (λ m. m + len ≤ k) ms) (sym long) within

pub halves_apart : (h len p : ℕ) (old c : List ℕ) → h + h ≤ p → Beside p len old c → HasSoundHalves h old → HasSoundHalves h c
halves_apart h len p old c low beside halves = record {
  differ = λ same. halves.differ (sym (number_same 0 first) ∙ same ∙ number_same h second);
  first = ap (λ (l : List ℕ). all_sound (frames l)) first ∙ halves.first;
  second = ap (λ (l : List ℕ). all_sound (frames l)) second ∙ halves.second;
}
  where
    first : part 0 h c ≡ part 0 h old
    first = part_before 0 h p len old c (omega (arith, low)) beside

    second : part h h c ≡ part h h old
    second = part_before h h p len old c low beside

    number_same : (s : ℕ) → part s h c ≡ part s h old → number_in (half_of s h c) ≡ number_in (half_of s h old)
    number_same s same = ap (λ (l : List ℕ). number_in (first_of (records l))) same

-- the regions behind the root are as they were
sound_behind : (h len : ℕ) (ms old c : List ℕ) → drop (h + h) c ≡ drop (h + h) old → Each (λ m. h + h ≤ m) ms → AreSound len ms old → AreSound len ms c
sound_behind h len [] old c same low sound = tt
sound_behind h len (m ∷ ms) old c same low sound = (ap (λ (l : List ℕ). all_sound (frames l)) (part_same h len old c same m low.0) ∙ sound.0, sound_behind h len ms old c same low.1 sound.1)

closed_behind : (h len : ℕ) (ms old c : List ℕ) → drop (h + h) c ≡ drop (h + h) old → Each (λ m. h + h ≤ m) ms → AreClosed len ms old → AreClosed len ms c
closed_behind h len [] old c same low closed = tt
closed_behind h len (m ∷ ms) old c same low closed = (ap is_closed (part_same h len old c same m low.0) ∙ closed.0, closed_behind h len ms old c same low.1 closed.1)

pub sound_blank : (len : ℕ) (bytes : List ℕ) → bytes ≡ replicate len 0 → all_sound (frames bytes) ≡ true
sound_blank len bytes zeros = ap all_sound (blank_frames len bytes zeros)

module _ {t : TornWrites} (h len n : ℕ) (ns : List ℕ) (g : ℕ) (old : List ℕ) (i : IsIntactAt h len n ns g t old) where
  low : h + h ≤ g
  low = last_of (λ m. h + h ≤ m) ns g i.behind

  -- a region changes that the root doesn't name
  pub beside_intact : (p : ℕ) → h + h ≤ p → Each (λ m. AreApart len m p) (ns ++ g ∷ []) → (c : List ℕ) → Beside p len old c → IsIntactAt h len n ns g t c
  beside_intact p low_p apart c beside = record {
    names = root_apart h p len old c low_p beside ∙ i.names;
    small_number = i.small_number;
    small = i.small;
    behind = i.behind;
    within = long_within len (ns ++ g ∷ []) old c beside.long i.within;
    apart = i.apart;
    halves = halves_apart h len p old c low_p beside i.halves;
    regions = sound_apart len p (ns ++ g ∷ []) old c apart beside i.regions;
    closed_logs = closed_apart len p ns old c (each_left (λ m. AreApart len m p) ns g apart) beside i.closed_logs;
    grown = ap (ends_with (behind_of t)) (part_apart len g p old c (last_of (λ m. AreApart len m p) ns g apart) beside) ∙ i.grown;
  }

  -- the region changes that grows, is sound, and ends as it may
  pub grown_intact : (c : List ℕ) → Beside g len old c → all_sound (frames (part g len c)) ≡ true → ends_with (behind_of t) (part g len c) ≡ true → IsIntactAt h len n ns g t c
  grown_intact c beside sound ends = record {
    names = root_apart h g len old c low beside ∙ i.names;
    small_number = i.small_number;
    small = i.small;
    behind = i.behind;
    within = long_within len (ns ++ g ∷ []) old c beside.long i.within;
    apart = i.apart;
    halves = halves_apart h len g old c low beside i.halves;
    regions = each_more (λ m. all_sound (frames (part m len c)) ≡ true) ns g
        (sound_apart len g ns old c i.apart beside (each_left (λ m. all_sound (frames (part m len old)) ≡ true) ns g i.regions)) sound;
    closed_logs = closed_apart len g ns old c i.apart beside i.closed_logs;
    grown = ends;
  }

  -- the root comes to name other regions, which are sound
  pub named_intact : (u : TornWrites) (m : ℕ) (cs : List ℕ) (p : ℕ) → m < NUMBER_LIMIT → Each (λ k. k < NUMBER_LIMIT) (cs ++ p ∷ []) → Each (λ k. h + h ≤ k) (cs ++ p ∷ []) → Each (λ k. k + len ≤ length old) (cs ++ p ∷ [])
      → Each (λ k. AreApart len k p) cs → AreSound len (cs ++ p ∷ []) old → AreClosed len cs old → ends_with (behind_of u) (part p len old) ≡ true
      → (c : List ℕ) → IsOldOrNew h old (numbered m (regions_text u (cs ++ p ∷ []))) c → IsIntact h len c
  named_intact u m cs p small_m small behind within apart sound closed ends c either = ⊎_elim as_old as_new either.root
    where
      as_old : root_of h c ≡ root_of h old → IsIntact h len c
      as_old is = (
        n,
        ns,
        g,
        t,
        record {
          names = is ∙ i.names;
          small_number = i.small_number;
          small = i.small;
          behind = i.behind;
          within = long_within len (ns ++ g ∷ []) old c either.long i.within;
          apart = i.apart;
          halves = either.sound i.halves;
          regions = sound_behind h len (ns ++ g ∷ []) old c either.behind i.behind i.regions;
          closed_logs = closed_behind h len ns old c either.behind (each_left (λ k. h + h ≤ k) ns g i.behind) i.closed_logs;
          grown = ap (ends_with (behind_of t)) (part_same h len old c either.behind g low) ∙ i.grown;
        },
      )

      as_new : root_of h c ≡ Some (numbered m (regions_text u (cs ++ p ∷ []))) → IsIntact h len c
      as_new is = (
        m,
        cs,
        p,
        u,
        record {
          names = is;
          small_number = small_m;
          small = small;
          behind = behind;
          within = long_within len (cs ++ p ∷ []) old c either.long within;
          apart = apart;
          halves = either.sound i.halves;
          regions = sound_behind h len (cs ++ p ∷ []) old c either.behind behind sound;
          closed_logs = closed_behind h len cs old c either.behind (each_left (λ k. h + h ≤ k) cs p behind) closed;
          grown = ap (ends_with (behind_of u)) (part_same h len old c either.behind p (last_of (λ k. h + h ≤ k) cs p behind)) ∙ ends;
        },
      )

module _ {t : TornWrites} (h len n : ℕ) (ns : List ℕ) (g : ℕ) (old : List ℕ) (i : IsIntactAt h len n ns g t old) where
  -- It comes to name some of its regions and one that was free, which is sound.
  module _ (p : ℕ) (low_p : h + h ≤ p) (small_p : p < NUMBER_LIMIT) (within_p : p + len ≤ length old) (free : Each (λ m. AreApart len m p) (ns ++ g ∷ [])) (mid : List ℕ) (beside : Beside p len old mid) (sound : all_sound (frames (part p len mid)) ≡ true)
      (ends : (u : TornWrites) → ends_with (behind_of u) (part p len mid) ≡ true) where
    pub with_free : (u : TornWrites) (m : ℕ) (cs : List ℕ) → m < NUMBER_LIMIT → Each (λ k. k < NUMBER_LIMIT) cs → Each (λ k. h + h ≤ k) cs → Each (λ k. k + len ≤ length old) cs → Each (λ k. AreApart len k p) cs → AreSound len cs old → AreClosed len cs old
        → (c : List ℕ) → IsOldOrNew h mid (numbered m (regions_text u (cs ++ p ∷ []))) c → IsIntact h len c
    with_free u m cs small_m small behind within apart sound_cs closed_cs c either =
        named_intact h len n ns g mid (beside_intact h len n ns g old i p low_p free mid beside) u m cs p small_m
        (each_more (λ k. k < NUMBER_LIMIT) cs p small small_p)
        (each_more (λ k. h + h ≤ k) cs p behind low_p)
        (long_within len (cs ++ p ∷ []) old mid beside.long (each_more (λ k. k + len ≤ length old) cs p within within_p))
        apart
        (each_more (λ k. all_sound (frames (part k len mid)) ≡ true) cs p (sound_apart len p cs old mid apart beside sound_cs) sound)
        (closed_apart len p cs old mid apart beside closed_cs)
        (ends u)
        c either

    -- all of them, where the last one has nothing but zeros behind its records
    pub with_next : is_closed (part g len old) ≡ true → (u : TornWrites) (m : ℕ) → m < NUMBER_LIMIT → (c : List ℕ) → IsOldOrNew h mid (numbered m (regions_text u ((ns ++ g ∷ []) ++ p ∷ []))) c → IsIntact h len c
    with_next last u m small_m c either = with_free u m (ns ++ g ∷ []) small_m i.small i.behind i.within free i.regions (each_more (λ k. is_closed (part k len old) ≡ true) ns g i.closed_logs last) c either

    -- all but the last
    pub with_other : (u : TornWrites) (m : ℕ) → m < NUMBER_LIMIT → (c : List ℕ) → IsOldOrNew h mid (numbered m (regions_text u (ns ++ p ∷ []))) c → IsIntact h len c
    with_other u m small_m c either =
        with_free u m ns small_m (each_left (λ k. k < NUMBER_LIMIT) ns g i.small) (each_left (λ k. h + h ≤ k) ns g i.behind) (each_left (λ k. k + len ≤ length old) ns g i.within)
        (each_left (λ k. AreApart len k p) ns g free) (each_left (λ k. all_sound (frames (part k len old)) ≡ true) ns g i.regions) i.closed_logs c either

pub at_lengths : (h h' l l' : ℕ) (c : List ℕ) → h' ≡ h → l' ≡ l → IsIntact h' l' c → IsIntact h l c
at_lengths h h' l l' c half len i = subst (λ (k : ℕ). IsIntact k l c) half (subst (λ (k : ℕ). IsIntact h' k c) len i)

-- ---- journals

module _ {D : Type 0} {g : Ghosts D} where
  -- the regions that the root names are those of the journal
  pub intact_at : (j : Journal D g) → HasRegions j → IsTrue (g.is_honest (journal_device j)) → IsIntact (journal_half j) (region_len j) (g.seen (journal_device j))
      → IsIntactAt (journal_half j) (region_len j) (root_number j.root) j.closed.items j.growing j.torn (g.seen (journal_device j))
  intact_at j q honest i = record {
    names = q.names honest;
    small_number = subst (λ (n : ℕ). n < NUMBER_LIMIT) number_is it.small_number;
    small = q.small;
    behind = q.behind;
    within = q.within;
    apart = q.apart;
    halves = it.halves;
    regions = subst (λ (ns : List ℕ). AreSound j.len ns seen) same it.regions;
    closed_logs = subst (λ (ns : List ℕ). AreClosed j.len ns seen) (snoc_same i.1 j.closed.items i.2 j.growing same).0 it.closed_logs;
    grown = (λ k. ends_with (behind_of (sym torn_is k)) (part (sym (snoc_same i.1 j.closed.items i.2 j.growing same).1 k) j.len seen)) ∙ it.grown;
  }
    where
      it : IsIntactAt (journal_half j) (region_len j) i.0 i.1 i.2 i.3 (g.seen (journal_device j))
      it = i.4

      seen : List ℕ
      seen = g.seen (journal_device j)

      same : i.1 ++ i.2 ∷ [] ≡ journal_places j
      same = same_places i.0 j.root.number (i.1 ++ i.2 ∷ []) (journal_places j) it.small q.small (sym it.names ∙ q.names honest)

      torn_is : i.3 ≡ j.torn
      torn_is = same_torn i.0 j.root.number i.3 j.torn (i.1 ++ i.2 ∷ []) (journal_places j) (sym it.names ∙ q.names honest)

      number_is : i.0 ≡ j.root.number
      number_is =
          sym (number_back i.0 (regions_text i.3 (i.1 ++ i.2 ∷ [])) it.small_number) ∙ sym (ap number_in it.names)
          ∙ ap number_in (root_is (journal_half j) j.root.log.device.start q.root.place seen j.root.number (q.root.current honest) (q.root.other honest)) ∙ q.root.current honest

  -- with no call
  pub rests_intact : (j : Journal D g) → ((c : List ℕ) → g.left_since (journal_device j) (g.moment (journal_device j)) c → g.may_leave (journal_device j) c) → HasRegions j → LeavesIntact j j
  rests_intact j only q honest i =
      started g.moment g.left_since (journal_device j) (IsIntact (journal_half j) (region_len j)) (λ c left. subst (IsIntact (journal_half j) (region_len j)) (sym (q.root.durable c (only c left))) i)

  -- one run of calls behind another
  pub leaves_on : (a b c : Journal D g) → journal_half b ≡ journal_half a → region_len b ≡ region_len a → (IsTrue (g.is_honest (journal_device c)) → IsTrue (g.is_honest (journal_device b)))
      → LeavesIntact a b → StaysIntact a b → LeavesIntact b c → LeavesIntact a c
  leaves_on a b c half len honest first stays second now i =
      runs_on g.moment g.left_since (journal_device a) (journal_device b) (journal_device c) (IsIntact (journal_half a) (region_len a)) (first (honest now) i)
      (weakened g.moment g.left_since (journal_device b) (journal_device c) (IsIntact (journal_half b) (region_len b)) (IsIntact (journal_half a) (region_len a))
      (second now (at_lengths (journal_half b) (journal_half a) (region_len b) (region_len a) (g.seen (journal_device b)) (sym half) (sym len) (stays (honest now) i)))
      (λ f is. at_lengths (journal_half a) (journal_half b) (region_len a) (region_len b) f half len is))

  pub stays_on : (a b c : Journal D g) → journal_half b ≡ journal_half a → region_len b ≡ region_len a → (IsTrue (g.is_honest (journal_device c)) → IsTrue (g.is_honest (journal_device b)))
      → StaysIntact a b → StaysIntact b c → StaysIntact a c
  stays_on a b c half len honest first second now i =
      at_lengths (journal_half a) (journal_half b) (region_len a) (region_len b) (g.seen (journal_device c)) half len
      (second now (at_lengths (journal_half b) (journal_half a) (region_len b) (region_len a) (g.seen (journal_device b)) (sym half) (sym len) (first (honest now) i)))

  -- a journal with the same bytes
  pub stays_same : (a b : Journal D g) → g.seen (journal_device b) ≡ g.seen (journal_device a) → StaysIntact a b
  stays_same a b same now i = subst (IsIntact (journal_half a) (region_len a)) (sym same) i

  -- a region changes that doesn't count
  module _ (p : ℕ) (old new : Journal D g) (outside : IsOutside old p) (q : HasRegions old) (honest : IsTrue (g.is_honest (journal_device new)) → IsTrue (g.is_honest (journal_device old))) where
    near_intact : IsTrue (g.is_honest (journal_device new)) → IsIntact (journal_half old) (region_len old) (g.seen (journal_device old)) → (c : List ℕ) → Beside p (region_len old) (g.seen (journal_device old)) c → IsIntact (journal_half old) (region_len old) c
    near_intact now i c near =
        (j_number, old.closed.items, old.growing, old.torn, beside_intact (journal_half old) (region_len old) j_number old.closed.items old.growing (g.seen (journal_device old)) (intact_at old q (honest now) i) p outside.behind outside.apart c near)
      where
        j_number : ℕ
        j_number = root_number old.root

    pub outside_leaves : LeavesOnly g.moment g.left_since (journal_device old) (journal_device new) (Beside p (region_len old) (g.seen (journal_device old))) → LeavesIntact old new
    outside_leaves run now i = weakened g.moment g.left_since (journal_device old) (journal_device new) _ (IsIntact (journal_half old) (region_len old)) run (near_intact now i)

    pub outside_stays : Beside p (region_len old) (g.seen (journal_device old)) (g.seen (journal_device new)) → StaysIntact old new
    outside_stays near now i = near_intact now i (g.seen (journal_device new)) near
