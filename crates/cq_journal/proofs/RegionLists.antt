-- The regions of a journal, one by one.
use Rattle.std.proofs.Common.{◌≡◌, ℕ, zero, suc, ◌+◌, ◌<◌, ◌≤◌, List, [], ◌∷◌, ◌++◌, length, take, drop, append_assoc, refl, sym, ◌∙◌, ap, arith, length-append}
use Rattle.std.specs.Prelude.{IsTrue, Some, get_or}
use Rattle.cq_disk.specs.Region.{part}
use Rattle.cq_disk.specs.declared.device.Device.{Ghosts}
use Rattle.cq_records.specs.Frames.{records}
use Rattle.cq_journal.specs.Journal.{HasRegions, journal_device, journal_half, journal_places, journal_records, journal_regions, region_len}
use Rattle.cq_journal.specs.Regions.{all_records, kept, kept_regions, named_regions, records_at, regions_at}
use Rattle.cq_journal.specs.Root.{root_number}
use Rattle.cq_journal.specs.declared.journal.Journal.{Journal}
use Rattle.cq_journal.proofs.Regions.{append-none, kept_of, places_back}

-- rows that end with one number each
pub snoc_same : (xs ys : List ℕ) (x y : ℕ) → xs ++ x ∷ [] ≡ ys ++ y ∷ [] → (xs ≡ ys) × (x ≡ y)
snoc_same [] [] x y same = (refl, ap (λ (l : List ℕ). get_or l 0 x) same)
snoc_same [] (z ∷ ys) x y same = absurd (omega (arith, ap length same, length-append ys (y ∷ [])))
snoc_same (w ∷ xs) [] x y same = absurd (omega (arith, ap length same, length-append xs (x ∷ [])))
snoc_same (w ∷ xs) (z ∷ ys) x y same =
    let heads : w ≡ z = ap (λ (l : List ℕ). get_or l 0 w) same in
    let rest = snoc_same xs ys x y (ap (λ (l : List ℕ). drop 1 l) same) in
    ((λ i. heads i ∷ rest.0 i), rest.1)

pub regions_long : (len : ℕ) (ns bytes : List ℕ) → length (regions_at len ns bytes) ≡ length ns
regions_long len [] bytes = refl
regions_long len (n ∷ ns) bytes = omega (arith, regions_long len ns bytes)

pub region_here : (len : ℕ) (ns : List ℕ) (i : ℕ) (bytes : List ℕ) → i < length ns → get_or (regions_at len ns bytes) i [] ≡ records (part (get_or ns i 0) len bytes)
region_here len [] i bytes below = absurd (omega (arith, below))
region_here len (n ∷ ns) zero bytes below = refl
region_here len (n ∷ ns) (suc i) bytes below = region_here len ns i bytes (omega (arith, below))

-- together they have all records
pub regions_have_all : (len : ℕ) (ns bytes : List ℕ) → all_records (regions_at len ns bytes) ≡ records_at len ns bytes
regions_have_all len [] bytes = refl
regions_have_all len (n ∷ ns) bytes = ap (λ (rs : List (List ℕ)). records (part n len bytes) ++ rs) (regions_have_all len ns bytes)

-- one region more
pub regions_next : (regions : List (List (List ℕ))) (i : ℕ) → i < length regions → all_records (take (i + 1) regions) ≡ all_records (take i regions) ++ get_or regions i []
regions_next regions i below = ap (λ (k : ℕ). all_records (take k regions)) next ∙ go regions i below
  where
    next : i + 1 ≡ suc i
    next = omega arith

    go : (regions : List (List (List ℕ))) (i : ℕ) → i < length regions → all_records (take (suc i) regions) ≡ all_records (take i regions) ++ get_or regions i []
    go [] i below = absurd (omega (arith, below))
    go (rs ∷ regions) zero below = append-none rs
    go (rs ∷ regions) (suc i) below =
        ap (λ (more : List (List ℕ)). rs ++ more) (go regions i (omega (arith, below))) ∙ sym (append_assoc rs (all_records (take i regions)) (get_or regions i []))

-- the last one
pub regions_whole : (regions : List (List (List ℕ))) (i : ℕ) → length regions ≤ i → take i regions ≡ regions
regions_whole [] zero long = refl
regions_whole [] (suc i) long = refl
regions_whole (rs ∷ regions) zero long = absurd (omega (arith, long))
regions_whole (rs ∷ regions) (suc i) long = ap (λ (more : List (List (List ℕ))). rs ∷ more) (regions_whole regions i (omega (arith, long)))

-- the regions of a journal are those that its root names
pub regions_named : {D : Type 0} {g : Ghosts D} (j : Journal D g) → HasRegions j → IsTrue (g.is_honest (journal_device j)) → kept_regions (journal_half j) (region_len j) (g.seen (journal_device j)) ≡ Some (journal_regions j)
regions_named {D} {g} j q honest =
    let bytes = g.seen (journal_device j) in
    ap (named_regions (region_len j) bytes) (q.names honest) ∙ ap (λ (ns : List ℕ). Some (regions_at (region_len j) ns bytes)) (places_back (journal_places j) q.small)

pub records_named : {D : Type 0} {g : Ghosts D} (j : Journal D g) → HasRegions j → IsTrue (g.is_honest (journal_device j)) → kept (journal_half j) (region_len j) (g.seen (journal_device j)) ≡ Some (journal_records j)
records_named {D} {g} j q honest = kept_of (journal_half j) (region_len j) (root_number j.root) (journal_places j) (g.seen (journal_device j)) q.small (q.names honest)
