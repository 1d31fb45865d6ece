-- Regions behind a root, of which one grows.
use Rattle.std.proofs.Common.{◌≡◌, ⊎_elim, ℕ, zero, suc, ◌+◌, ◌-◌, ◌<◌, ◌≤◌, List, [], ◌∷◌, ◌++◌, length, take, drop, refl, sym, ◌∙◌, ap, subst, arith, drop-drop, append_assoc, length-take}
use Rattle.std.specs.Prelude.{map, replicate, Some, get_or, true, ◌*◌, ◌/◌, ◌%◌, nat_le}
use Rattle.std.proofs.lemmas.Bool.{and_from}
use Rattle.std.proofs.lemmas.Bool.Decides.{nat_tests}
use Rattle.cq_disk.specs.Region.{part, Beside}
use Rattle.cq_disk.specs.declared.device.TornWrites.{TornWrites}
use Rattle.cq_disk.specs.declared.device.TornWrites.TheVariants.{OldOrNew, Any}
use Rattle.cq_records.specs.Frames.{text_of, frames, is_closed, records, is_plain, all_sound}
use Rattle.cq_records.specs.Layout.{IsPrefixOf}
use Rattle.cq_journal.specs.declared.number.TheConstants.{NUMBER_LIMIT}
use Rattle.cq_journal.specs.Numbers.{digits, number_of}
use Rattle.cq_records.proofs.Frames.{of_zeros}
use Rattle.cq_journal.specs.Roots.{first_of, later, root_of, numbered, IsOldOrNew}
use Rattle.cq_journal.specs.Regions.{places_text, regions_text, places_in, records_at, named_records, kept, Each, AreApart, AreSound, HasPrefixOf, HasRecords, AreClosed}

-- ---- the places that a text names

pub places_back : (ns : List ℕ) → Each (λ n. n < NUMBER_LIMIT) ns → places_in (places_text ns) ≡ ns
places_back [] small = refl
places_back (n ∷ ns) small = λ i. (number_is i) ∷ (places_back ns small.1 i)
  where
    number_is : number_of (digits n) ≡ n
    number_is = omega (arith, small.0)

-- ---- parts that lie before another one, or behind it

take_drop_take : (a l s : ℕ) (bytes : List ℕ) → a + l ≤ s → take l (drop a (take s bytes)) ≡ take l (drop a bytes)
take_drop_take zero zero s bytes le = refl
take_drop_take zero (suc l) zero bytes le = absurd (omega (arith, le))
take_drop_take zero (suc l) (suc s) [] le = refl
take_drop_take zero (suc l) (suc s) (x ∷ bytes) le = ap (λ (xs : List ℕ). x ∷ xs) (take_drop_take zero l s bytes (omega (arith, le)))
take_drop_take (suc a) l zero bytes le = absurd (omega (arith, le))
take_drop_take (suc a) l (suc s) [] le = refl
take_drop_take (suc a) l (suc s) (x ∷ bytes) le = take_drop_take a l s bytes (omega (arith, le))

-- a part that ends before the other one
pub part_before : (a l s len : ℕ) (old c : List ℕ) → a + l ≤ s → Beside s len old c → part a l c ≡ part a l old
part_before a l s len old c le beside = sym (take_drop_take a l s c le) ∙ ap (λ (xs : List ℕ). take l (drop a xs)) beside.before ∙ take_drop_take a l s old le

-- one that begins behind it
part_behind : (a l end : ℕ) (old c : List ℕ) → end ≤ a → drop end c ≡ drop end old → part a l c ≡ part a l old
part_behind a l end old c le behind =
    let far : a ≡ end + (a - end) = omega (arith, le) in
    let of : (xs : List ℕ) → drop a xs ≡ drop (a - end) (drop end xs) = λ xs. ap (λ (k : ℕ). drop k xs) far ∙ sym (drop-drop (a - end) end xs) in
    ap (λ (xs : List ℕ). take l xs) (of c ∙ ap (λ (xs : List ℕ). drop (a - end) xs) behind ∙ sym (of old))

-- a region that is apart from the one that changes
pub part_apart : (len n g : ℕ) (old c : List ℕ) → AreApart len n g → Beside g len old c → part n len c ≡ part n len old
part_apart len n g old c apart beside = ⊎_elim (λ before. part_before n len g len old c before beside) (λ behind. part_behind n len (g + len) old c behind beside.behind) apart

-- all of them
pub records_apart : (len g : ℕ) (ns : List ℕ) (old c : List ℕ) → Each (λ n. AreApart len n g) ns → Beside g len old c → records_at len ns c ≡ records_at len ns old
records_apart len g [] old c apart beside = refl
records_apart len g (n ∷ ns) old c apart beside = λ i. (ap records (part_apart len n g old c apart.0 beside) i) ++ (records_apart len g ns old c apart.1 beside i)

-- their records have their checksums still
pub sound_apart : (len g : ℕ) (ns : List ℕ) (old c : List ℕ) → Each (λ n. AreApart len n g) ns → Beside g len old c → AreSound len ns old → AreSound len ns c
sound_apart len g [] old c apart beside sound = tt
sound_apart len g (n ∷ ns) old c apart beside sound = (ap (λ (l : List ℕ). all_sound (frames l)) (part_apart len n g old c apart.0 beside) ∙ sound.0, sound_apart len g ns old c apart.1 beside sound.1)

-- they have zeros behind their records still
pub closed_apart : (len g : ℕ) (ns : List ℕ) (old c : List ℕ) → Each (λ n. AreApart len n g) ns → Beside g len old c → AreClosed len ns old → AreClosed len ns c
closed_apart len g [] old c apart beside closed = tt
closed_apart len g (n ∷ ns) old c apart beside closed = (ap is_closed (part_apart len n g old c apart.0 beside) ∙ closed.0, closed_apart len g ns old c apart.1 beside closed.1)

-- the root lies before all regions
pub root_apart : (half g len : ℕ) (old c : List ℕ) → half + half ≤ g → Beside g len old c → root_of half c ≡ root_of half old
root_apart half g len old c le beside =
    λ i. later (ap (λ (xs : List ℕ). first_of (records xs)) (part_before 0 half g len old c (omega (arith, le)) beside) i)
    (ap (λ (xs : List ℕ). first_of (records xs)) (part_before half half g len old c le beside) i)

-- ---- the journal's records

pub records_more : (len : ℕ) (ns : List ℕ) (g : ℕ) (bytes : List ℕ) → records_at len (ns ++ g ∷ []) bytes ≡ records_at len ns bytes ++ records (part g len bytes)
records_more len [] g bytes = append-none (records (part g len bytes))
  where
    append-none : (xs : List (List ℕ)) → xs ++ [] ≡ xs
    append-none [] = refl
    append-none (x ∷ xs) = ap (λ (ys : List (List ℕ)). x ∷ ys) (append-none xs)
records_more len (n ∷ ns) g bytes = ap (λ (xs : List (List ℕ)). records (part n len bytes) ++ xs) (records_more len ns g bytes) ∙ sym (append_assoc (records (part n len bytes)) (records_at len ns bytes) (records (part g len bytes)))

-- what is kept where the root names these places
pub kept_of : {k : ℕ} (half len number : ℕ) (ns : List ℕ) (bytes : List ℕ) → Each (λ n. n < NUMBER_LIMIT) ns → root_of half bytes ≡ Some (numbered number (k ∷ places_text ns)) → kept half len bytes ≡ Some (records_at len ns bytes)
kept_of half len number ns bytes small root = ap (named_records len bytes) root ∙ ap (λ (ms : List ℕ). Some (records_at len ms bytes)) (places_back ns small)

text_map : (k : ℕ) (fs : List (List ℕ)) → map text_of (take k fs) ≡ take k (map text_of fs)
text_map zero fs = refl
text_map (suc k) [] = refl
text_map (suc k) (f ∷ fs) = ap (λ (xs : List (List ℕ)). text_of f ∷ xs) (text_map k fs)

pub text_append : (fs more : List (List ℕ)) → map text_of (fs ++ more) ≡ map text_of fs ++ map text_of more
text_append [] more = refl
text_append (f ∷ fs) more = ap (λ (xs : List (List ℕ)). text_of f ∷ xs) (text_append fs more)

-- While a batch is written into the region that grows, the journal's records are those from before and so many of the batch's.
pub grows : {k : ℕ} {torn : TornWrites} (half len number g : ℕ) (ns : List ℕ) (old c : List ℕ) (batch : List (List ℕ)) → Each (λ n. n < NUMBER_LIMIT) (ns ++ g ∷ []) → Each (λ n. AreApart len n g) ns → half + half ≤ g
    → root_of half old ≡ Some (numbered number (k ∷ places_text (ns ++ g ∷ []))) → Beside g len old c → IsPrefixOf torn (frames (part g len old)) batch (part g len c)
    → HasPrefixOf half len (records_at len (ns ++ g ∷ []) old) (map text_of batch) c
grows half len number g ns old c batch small apart le root beside prefix =
    (prefix.many, kept_of half len number (ns ++ g ∷ []) c small (root_apart half g len old c le beside ∙ root) ∙ ap (λ (rs : List (List ℕ)). Some rs) same)
  where
    closed : List (List ℕ)
    closed = records_at len ns old

    grown : records (part g len c) ≡ records (part g len old) ++ take prefix.many (map text_of batch)
    grown = ap (map text_of) prefix.frames ∙ text_append (frames (part g len old)) (take prefix.many batch) ∙ ap (λ (xs : List (List ℕ)). records (part g len old) ++ xs) (text_map prefix.many batch)

    same : records_at len (ns ++ g ∷ []) c ≡ records_at len (ns ++ g ∷ []) old ++ take prefix.many (map text_of batch)
    same =
        records_more len ns g c
        ∙ (λ i. (records_apart len g ns old c apart beside i) ++ (grown i))
        ∙ sym (append_assoc closed (records (part g len old)) (take prefix.many (map text_of batch)))
        ∙ ap (λ (xs : List (List ℕ)). xs ++ take prefix.many (map text_of batch)) (sym (records_more len ns g old))

-- a device whose beginning is the same is long enough for it still
pub still_long : (h p : ℕ) (old new : List ℕ) → take p new ≡ take p old → h ≤ p → p ≤ length old → h ≤ length new
still_long h p old new same low within = omega (arith, ap length same, length-take p new, length-take p old, low, within)

-- what is so of each is so of the last
pub last_of : (P : ℕ → Type 0) (ns : List ℕ) (g : ℕ) → Each P (ns ++ g ∷ []) → P g
last_of P [] g each = each.0
last_of P (n ∷ ns) g each = last_of P ns g each.1

-- what is so of each number is so where it follows for any
pub each_so : (P Q : ℕ → Type 0) → ((n : ℕ) → P n → Q n) → (ns : List ℕ) → Each P ns → Each Q ns
each_so P Q step [] each = tt
each_so P Q step (n ∷ ns) each = (step n each.0, each_so P Q step ns each.1)

-- ---- places as text

pub places_end : (ns : List ℕ) (n : ℕ) → places_text (ns ++ n ∷ []) ≡ places_text ns ++ digits n
places_end [] n = refl
places_end (m ∷ ns) n = ap (λ (text : List ℕ). digits m ++ text) (places_end ns n) ∙ sym (append_assoc (digits m) (places_text ns) (digits n))

-- the text of two more
pub places_twice : (ns : List ℕ) (g n : ℕ) → places_text ((ns ++ g ∷ []) ++ n ∷ []) ≡ (places_text ns ++ digits g) ++ digits n
places_twice ns g n = places_end (ns ++ g ∷ []) n ∙ ap (λ (text : List ℕ). text ++ digits n) (places_end ns g)

places_suc : (ns : List ℕ) (i : ℕ) → i < length ns → places_text (take (suc i) ns) ≡ places_text (take i ns) ++ digits (get_or ns i 0)
places_suc [] i below = absurd (omega (arith, below))
places_suc (m ∷ ns) zero below = refl
places_suc (m ∷ ns) (suc i) below = ap (λ (text : List ℕ). digits m ++ text) (places_suc ns i (omega (arith, below))) ∙ sym (append_assoc (digits m) (places_text (take i ns)) (digits (get_or ns i 0)))

pub places_more : (ns : List ℕ) (i : ℕ) → i < length ns → places_text (take (i + 1) ns) ≡ places_text (take i ns) ++ digits (get_or ns i 0)
places_more ns i below = subst (λ (k : ℕ). places_text (take k ns) ≡ places_text (take i ns) ++ digits (get_or ns i 0)) next (places_suc ns i below)
  where
    next : suc i ≡ i + 1
    next = omega arith

pub each_at : (P : ℕ → Type 0) (ns : List ℕ) (i : ℕ) → Each P ns → i < length ns → P (get_or ns i 0)
each_at P [] i each below = absurd (omega (arith, below))
each_at P (m ∷ ns) zero each below = each.0
each_at P (m ∷ ns) (suc i) each below = each_at P ns i each.1 (omega (arith, below))

-- five bytes a place, none of them 0 or 1
pub places_long : (ns : List ℕ) → length (places_text ns) ≡ 5 * length ns
places_long [] = refl
places_long (n ∷ ns) = omega (arith, places_long ns)

above_one : (x : ℕ) → nat_le 2 (x + 2) ≡ true
above_one x = grind (arith, nat_tests)

plain_digits : (n : ℕ) (rest : List ℕ) → is_plain rest ≡ true → is_plain (digits n ++ rest) ≡ true
plain_digits n rest full =
    and_from _ _ (above_one (n % 254)) (and_from _ _ (above_one (n / 254 % 254)) (and_from _ _ (above_one (n / 64516 % 254))
    (and_from _ _ (above_one (n / 16387064 % 254)) (and_from _ _ (above_one (n / 4162314256)) full))))

pub plain_places : (ns : List ℕ) → is_plain (places_text ns) ≡ true
plain_places [] = refl
plain_places (n ∷ ns) = plain_digits n (places_text ns) (plain_places ns)

pub plain_text : (torn : TornWrites) (ns : List ℕ) → is_plain (regions_text torn ns) ≡ true
plain_text OldOrNew ns = plain_places ns
plain_text Any ns = plain_places ns

-- ---- one more region

pub each_more : (P : ℕ → Type 0) (ns : List ℕ) (g : ℕ) → Each P ns → P g → Each P (ns ++ g ∷ [])
each_more P [] g each here = (here, tt)
each_more P (n ∷ ns) g each here = (each.0, each_more P ns g each.1 here)

pub each_left : (P : ℕ → Type 0) (ns : List ℕ) (g : ℕ) → Each P (ns ++ g ∷ []) → Each P ns
each_left P [] g each = tt
each_left P (n ∷ ns) g each = (each.0, each_left P ns g each.1)

pub each_right : (P : ℕ → Type 0) (ns : List ℕ) (g : ℕ) → Each P (ns ++ g ∷ []) → P g
each_right P [] g each = each.0
each_right P (n ∷ ns) g each = each_right P ns g each.1

pub append-none : (xs : List (List ℕ)) → xs ++ [] ≡ xs
append-none [] = refl
append-none (x ∷ xs) = ap (λ (ys : List (List ℕ)). x ∷ ys) (append-none xs)

-- what lies behind the root is the same, so the records of regions there are
module _ (h len : ℕ) (old c : List ℕ) (same : drop (h + h) c ≡ drop (h + h) old) where
  pub part_same : (n : ℕ) → h + h ≤ n → part n len c ≡ part n len old
  part_same n low = part_behind n len (h + h) old c low same

  pub records_same : (ns : List ℕ) → Each (λ n. h + h ≤ n) ns → records_at len ns c ≡ records_at len ns old
  records_same [] low = refl
  records_same (n ∷ ns) low = λ i. (ap records (part_same n low.0) i) ++ (records_same ns low.1 i)

-- while a region that the root doesn't name is blanked
pub kept_blanked : {k : ℕ} (h len number p : ℕ) (places old c : List ℕ) → Each (λ n. n < NUMBER_LIMIT) places → h + h ≤ p → Each (λ n. AreApart len n p) places → root_of h old ≡ Some (numbered number (k ∷ places_text places)) → Beside p len old c
    → HasRecords h len (records_at len places old) c
kept_blanked h len number p places old c small low_p apart root near =
    kept_of h len number places c small (root_apart h p len old c low_p near ∙ root) ∙ ap (λ (xs : List (List ℕ)). Some xs) (records_apart len p places old c apart near)

-- the records, once it is named
pub records_kept : (h len p : ℕ) (places old mid c : List ℕ) → Each (λ n. h + h ≤ n) places → h + h ≤ p → Each (λ n. AreApart len n p) places → Beside p len old mid → part p len mid ≡ replicate len 0 → drop (h + h) c ≡ drop (h + h) mid
    → records_at len (places ++ p ∷ []) c ≡ records_at len places old
records_kept h len p places old mid c low low_p apart beside zeros same =
    records_more len places p c
    ∙ (λ i. ((records_same h len mid c same places low ∙ records_apart len p places old mid apart beside) i) ++ (none i))
    ∙ append-none (records_at len places old)
  where
    none : records (part p len c) ≡ []
    none = ap records (part_same h len mid c same p low_p ∙ zeros) ∙ ap (map text_of) (of_zeros len)

-- The region at p is blanked, which the root doesn't name, and then named behind the others.
module _ {k : ℕ} (h len number p : ℕ) (places old mid : List ℕ) (small : Each (λ n. n < NUMBER_LIMIT) places) (small_p : p < NUMBER_LIMIT)
    (low : Each (λ n. h + h ≤ n) places) (low_p : h + h ≤ p) (apart : Each (λ n. AreApart len n p) places)
    (root : root_of h old ≡ Some (numbered number (k ∷ places_text places))) (beside : Beside p len old mid) (zeros : part p len mid ≡ replicate len 0) where
  abbrev pub rs : List (List ℕ)
  rs = records_at len places old

  pub mid_root : root_of h mid ≡ Some (numbered number (k ∷ places_text places))
  mid_root = root_apart h p len old mid low_p beside ∙ root

  pub while_named : {k2 : ℕ} (m : ℕ) (c : List ℕ) → IsOldOrNew h mid (numbered m (k2 ∷ places_text (places ++ p ∷ []))) c → HasRecords h len rs c
  while_named {k2} m c either = ⊎_elim as_old as_new either.root
    where
      as_old : root_of h c ≡ root_of h mid → HasRecords h len rs c
      as_old is = kept_of h len number places c small (is ∙ mid_root) ∙ ap (λ (xs : List (List ℕ)). Some xs) (records_same h len mid c either.behind places low ∙ records_apart len p places old mid apart beside)

      as_new : root_of h c ≡ Some (numbered m (k2 ∷ places_text (places ++ p ∷ []))) → HasRecords h len rs c
      as_new is = kept_of h len m (places ++ p ∷ []) c (each_more (λ n. n < NUMBER_LIMIT) places p small small_p) is ∙ ap (λ (xs : List (List ℕ)). Some xs) (records_kept h len p places old mid c low low_p apart beside zeros either.behind)

-- ---- those before a place of a list

pub each_next : (P : ℕ → Type 0) (ns : List ℕ) (i : ℕ) → i < length ns → Each P (take i ns) → P (get_or ns i 0) → Each P (take (i + 1) ns)
each_next P ns i below each here = subst (λ (k : ℕ). Each P (take k ns)) next (go ns i below each here)
  where
    next : suc i ≡ i + 1
    next = omega arith

    go : (ns : List ℕ) (i : ℕ) → i < length ns → Each P (take i ns) → P (get_or ns i 0) → Each P (take (suc i) ns)
    go [] i below each here = absurd (omega (arith, below))
    go (n ∷ ns) zero below each here = (here, tt)
    go (n ∷ ns) (suc i) below each here = (each.0, go ns i (omega (arith, below)) each.1 here)

pub each_all : (P : ℕ → Type 0) (ns : List ℕ) (i : ℕ) → length ns ≤ i → Each P (take i ns) → Each P ns
each_all P [] zero long each = tt
each_all P [] (suc i) long each = tt
each_all P (n ∷ ns) zero long each = absurd (omega (arith, long))
each_all P (n ∷ ns) (suc i) long each = (each.0, each_all P ns i (omega (arith, long)) each.1)
