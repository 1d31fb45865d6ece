-- Intact bytes are not refused.
use Rattle.std.proofs.Common.{◌≡◌, ℕ, zero, suc, ◌+◌, ◌<◌, ◌≤◌, true, false, List, [], ◌∷◌, ◌++◌, length, take, drop, refl, sym, ◌∙◌, ap, subst, arith, length-append}
use Rattle.std.specs.Prelude.{Bool, nat_lt, Option, Some, None, get_or, IsTrue, if◌then◌else◌}
use Rattle.std.proofs.lemmas.Bool.{and_from, true≢false}
use Rattle.std.proofs.lemmas.Bool.Decides.{nat_tests}
use Rattle.cq_disk.specs.Region.{part}
use Rattle.cq_disk.specs.declared.device.Device.{Ghosts}
use Rattle.std.proofs.lemmas.List.{get_or_append_left}
use Rattle.cq_disk.specs.declared.device.TornWrites.{TornWrites}
use Rattle.cq_disk.specs.declared.device.TornWrites.TheVariants.{OldOrNew, Any}
use Rattle.cq_records.specs.declared.behind.Behind.TheVariants.{Zeros}
use Rattle.cq_records.specs.Frames.{frames, ends_with, is_closed, all_sound}
use Rattle.cq_journal.specs.declared.journal.Journal.{Journal}
use Rattle.cq_journal.specs.declared.number.TheConstants.{NUMBER_LIMIT}
use Rattle.cq_journal.specs.Intact.{IsIntactAt, IsIntact}
use Rattle.cq_journal.specs.Journal.{journal_device, journal_half, journal_places, region_len, HasRegions, behind_in, grows_soundly}
use Rattle.cq_journal.specs.Numbers.{number_of}
use Rattle.cq_journal.specs.Regions.{Each, AreApart, behind_of, torn_in, places_in, regions_text}
use Rattle.cq_journal.specs.Roots.{number_in, later, half_of, root_of, numbered, HasSoundHalves}
use Rattle.cq_journal.specs.within.Bounds.{IsWithin}
use Rattle.cq_journal.proofs.Bases.{each_both}
use Rattle.cq_journal.proofs.Halves.{number_back}
use Rattle.cq_journal.proofs.Intact.{intact_at}
use Rattle.cq_journal.proofs.RegionLists.{snoc_same}
use Rattle.cq_journal.proofs.Regions.{each_at, each_left, each_so, last_of, places_back}

-- two halves of which one has the number 0 and counts
both_none : (a b : Option (List ℕ)) → number_in (later a b) ≡ 0 → number_in a ≡ number_in b
both_none a b none = of_test (nat_lt (number_in a) (number_in b)) refl
  where
    of_test : (t : Bool) → t ≡ nat_lt (number_in a) (number_in b) → number_in a ≡ number_in b
    of_test true is =
        let counts : number_in (if true then b else a) ≡ 0 = ap (λ (t : Bool). number_in (if t then b else a)) is ∙ none in
        absurd (grind (arith, nat_tests, is, counts))
    of_test false is =
        let counts : number_in (if false then b else a) ≡ 0 = ap (λ (t : Bool). number_in (if t then b else a)) is ∙ none in
        grind (arith, nat_tests, is, counts)

pub has_root : (half : ℕ) (bytes : List ℕ) → number_in (root_of half bytes) ≡ 0 → HasSoundHalves half bytes → ⊥
has_root half bytes none halves = halves.differ (both_none (half_of 0 half bytes) (half_of half half bytes) none)

-- ---- what the root names

none_named : (xs : List ℕ) (x : ℕ) → [] ≡ xs ++ x ∷ [] → ⊥
none_named xs x same = omega (arith, ap length same, length-append xs (x ∷ []))

abbrev record_in : Option (List ℕ) → List ℕ → List ℕ
record_in None other = other
record_in (Some root) other = root

module _ (half len : ℕ) (bytes : List ℕ) (i : IsIntact half len bytes) (root : List ℕ) (is : root_of half bytes ≡ Some root) where
  it : IsIntactAt half len i.0 i.1 i.2 i.3 bytes
  it = i.4

  record_is : root ≡ numbered i.0 (regions_text i.3 (i.1 ++ i.2 ∷ []))
  record_is = ap (λ (o : Option (List ℕ)). record_in o []) (sym is ∙ it.names)

  places_are : places_in (drop 6 root) ≡ i.1 ++ i.2 ∷ []
  places_are = ap (λ (r : List ℕ). places_in (drop 6 r)) record_is ∙ places_back (i.1 ++ i.2 ∷ []) it.small

  -- the number is small
  number_is : number_of root ≡ i.0
  number_is = ap number_of record_is ∙ number_back i.0 (regions_text i.3 (i.1 ++ i.2 ∷ [])) it.small_number

  pub small_number : number_of root < NUMBER_LIMIT
  small_number = subst (λ (n : ℕ). n < NUMBER_LIMIT) (sym number_is) it.small_number

  torn_is : torn_in root ≡ i.3
  torn_is = ap torn_in record_is ∙ of_kind i.3
    where
      of_kind : (t : TornWrites) → torn_in (numbered i.0 (regions_text t (i.1 ++ i.2 ∷ []))) ≡ t
      of_kind OldOrNew = refl
      of_kind Any = refl

  -- it names some region
  pub some_named : places_in (drop 6 root) ≡ [] → ⊥
  some_named none = none_named i.1 i.2 (sym none ∙ places_are)

  -- These are its regions.
  module _ (closed : List ℕ) (growing : ℕ) (read : places_in (drop 6 root) ≡ closed ++ growing ∷ []) where
    same : (closed ≡ i.1) × (growing ≡ i.2)
    same = snoc_same closed i.1 growing i.2 (sym read ∙ places_are)

    all_are : closed ++ growing ∷ [] ≡ i.1 ++ i.2 ∷ []
    all_are = sym read ∙ places_are

    pub record_of : root ≡ numbered (number_of root) (regions_text (torn_in root) (closed ++ growing ∷ []))
    record_of = record_is ∙ (λ k. numbered (sym number_is k) (regions_text (sym torn_is k) (sym all_are k)))

    all_in : Each (IsWithin len (half + half) (length bytes)) (closed ++ growing ∷ [])
    all_in = subst (λ (ns : List ℕ). Each (IsWithin len (half + half) (length bytes)) ns) (sym all_are)
        (each_so (λ n. (half + half ≤ n) × ((n + len ≤ length bytes) × (n < NUMBER_LIMIT))) (IsWithin len (half + half) (length bytes)) (λ n facts. (facts.0, facts.1.0, facts.1.1)) (i.1 ++ i.2 ∷ [])
        (each_both (λ n. half + half ≤ n) (λ n. (n + len ≤ length bytes) × (n < NUMBER_LIMIT)) (i.1 ++ i.2 ∷ []) it.behind
        (each_both (λ n. n + len ≤ length bytes) (λ n. n < NUMBER_LIMIT) (i.1 ++ i.2 ∷ []) it.within it.small)))

    pub closed_within : Each (IsWithin len (half + half) (length bytes)) closed
    closed_within = each_left (IsWithin len (half + half) (length bytes)) closed growing all_in

    pub growing_within : IsWithin len (half + half) (length bytes) growing
    growing_within = last_of (IsWithin len (half + half) (length bytes)) closed growing all_in

    pub closed_apart : Each (λ n. AreApart len n growing) closed
    closed_apart = subst (λ (ns : List ℕ). Each (λ n. AreApart len n growing) ns) (sym same.0) (subst (λ (k : ℕ). Each (λ n. AreApart len n k) i.1) (sym same.1) it.apart)

-- ---- the places of a text, five bytes each

pub places_step : (xs : List ℕ) → 5 ≤ length xs → places_in xs ≡ number_of (take 5 xs) ∷ places_in (drop 5 xs)
places_step [] long = absurd (omega (arith, long))
places_step (a ∷ []) long = absurd (omega (arith, long))
places_step (a ∷ b ∷ []) long = absurd (omega (arith, long))
places_step (a ∷ b ∷ c ∷ []) long = absurd (omega (arith, long))
places_step (a ∷ b ∷ c ∷ d ∷ []) long = absurd (omega (arith, long))
places_step (a ∷ b ∷ c ∷ d ∷ e ∷ rest) long = refl

pub places_none : (xs : List ℕ) → length xs < 5 → places_in xs ≡ []
places_none [] short = refl
places_none (a ∷ []) short = refl
places_none (a ∷ b ∷ []) short = refl
places_none (a ∷ b ∷ c ∷ []) short = refl
places_none (a ∷ b ∷ c ∷ d ∷ []) short = refl
places_none (a ∷ b ∷ c ∷ d ∷ e ∷ rest) short = absurd (omega (arith, short))

-- ---- the records of regions

module _ {D : Type 0} {g : Ghosts D} (j : Journal D g) (q : HasRegions j) (honest : IsTrue (g.is_honest (journal_device j))) (i : IsIntact (journal_half j) (region_len j) (g.seen (journal_device j))) where
  pub region_sound : (n : ℕ) → n < length (journal_places j) → all_sound (frames (part (get_or (journal_places j) n 0) (region_len j) (g.seen (journal_device j)))) ≡ true
  region_sound n below = each_at (λ p. all_sound (frames (part p (region_len j) (g.seen (journal_device j)))) ≡ true) (journal_places j) n (intact_at j q honest i).regions below

  -- behind those of one that doesn't grow there are zeros
  pub region_closed : (n : ℕ) → n < length j.closed.items → is_closed (part (get_or (journal_places j) n 0) (region_len j) (g.seen (journal_device j))) ≡ true
  region_closed n below =
      ap (λ (p : ℕ). is_closed (part p (region_len j) (g.seen (journal_device j)))) (get_or_append_left j.closed.items (j.growing ∷ []) 0 n below)
      ∙ each_at (λ p. is_closed (part p (region_len j) (g.seen (journal_device j))) ≡ true) j.closed.items n (intact_at j q honest i).closed_logs below

  pub growing_ends : ends_with (behind_of j.torn) (part j.growing (region_len j) (g.seen (journal_device j))) ≡ true
  growing_ends = (intact_at j q honest i).grown

  pub growing_sound : grows_soundly j ≡ true
  growing_sound = and_from (all_sound (frames (part j.growing (region_len j) (g.seen (journal_device j))))) (ends_with (behind_of j.torn) (part j.growing (region_len j) (g.seen (journal_device j))))
      (last_of (λ p. all_sound (frames (part p (region_len j) (g.seen (journal_device j)))) ≡ true) j.closed.items j.growing (intact_at j q honest i).regions) growing_ends

  -- what comes behind the records of each region may do so
  pub region_ends : (n : ℕ) → n < length (journal_places j) → ends_with (behind_in j n) (part (get_or (journal_places j) n 0) (region_len j) (g.seen (journal_device j))) ≡ true
  region_ends n below = of_test (nat_lt n (length j.closed.items)) refl
    where
      bytes : List ℕ
      bytes = g.seen (journal_device j)

      last_place : (ns : List ℕ) (n : ℕ) → length ns ≤ n → n < length (ns ++ j.growing ∷ []) → get_or (ns ++ j.growing ∷ []) n 0 ≡ j.growing
      last_place [] zero long below = refl
      last_place [] (suc n) long below = absurd (omega (arith, below))
      last_place (m ∷ ns) zero long below = absurd (omega (arith, long))
      last_place (m ∷ ns) (suc n) long below = last_place ns n (omega (arith, long)) (omega (arith, below))

      of_test : (b : Bool) → nat_lt n (length j.closed.items) ≡ b → ends_with (behind_in j n) (part (get_or (journal_places j) n 0) (region_len j) bytes) ≡ true
      of_test true is =
          ap (λ (b : Bool). ends_with (if b then Zeros else behind_of j.torn) (part (get_or (journal_places j) n 0) (region_len j) bytes)) is ∙ region_closed n (grind (arith, nat_tests, is))
      of_test false is =
          ap (λ (b : Bool). ends_with (if b then Zeros else behind_of j.torn) (part (get_or (journal_places j) n 0) (region_len j) bytes)) is
          ∙ ap (λ (p : ℕ). ends_with (behind_of j.torn) (part p (region_len j) bytes)) (last_place j.closed.items n (grind (arith, nat_tests, is)) below) ∙ growing_ends

pub not_both : {b : Bool} → b ≡ true → b ≡ false → ⊥
not_both is not = true≢false (sym is ∙ not)
