-- Two halves of which one counts, while the other one is blanked and written.
use Rattle.std.proofs.Common.{◌≡◌, ◌≢◌, ◌⊎◌, inl, inr, ⊎_elim, ℕ, zero, suc, ◌+◌, ◌-◌, ◌<◌, ◌≤◌, true, false, List, [], ◌∷◌, ◌++◌, length, take, drop, refl, sym, ◌∙◌, ap, subst, arith, drop-drop, length-drop}
use Rattle.std.specs.Prelude.{Bool, nat_lt, map, Option, Some, None, if◌then◌else◌}
use Rattle.std.proofs.lemmas.Bool.{true≢false}
use Rattle.std.proofs.lemmas.Bool.Decides.{nat_tests}
use Rattle.cq_disk.specs.Device.{Only}
use Rattle.cq_disk.specs.Region.{part, Leaves, Beside, KeepsBeside}
use Rattle.cq_disk.proofs.Parts.{whole_again}
use Rattle.cq_records.specs.Frames.{text_of, frames, records, all_sound}
use Rattle.cq_disk.specs.declared.device.TornWrites.{TornWrites}
use Rattle.cq_disk.specs.declared.device.TornWrites.TheVariants.{OldOrNew, Any}
use Rattle.cq_records.specs.Layout.{IsPrefixOf}
use Rattle.cq_records.proofs.Outcomes.{none_damaged}
use Rattle.cq_journal.specs.declared.number.TheConstants.{NUMBER_LIMIT}
use Rattle.cq_journal.specs.Numbers.{number_of}
use Rattle.cq_journal.specs.Roots.{first_of, number_in, later, half_of, root_of, numbered, HasSoundHalves, IsSameRoot, IsOldOrNew}

abbrev tearing_as_number : TornWrites → ℕ
tearing_as_number OldOrNew = 0
tearing_as_number Any = 1

-- so many frames of a batch, where nothing is supposed of torn writes
pub any_prefix : (before batch : List (List ℕ)) (bytes : List ℕ) (many : ℕ) → frames bytes ≡ before ++ take many batch → IsPrefixOf Any before batch bytes
any_prefix before batch bytes many is = record { many = many; frames = is; rest = λ same. absurd (omega (arith, ap tearing_as_number same)) }

pub number_back : (n : ℕ) (text : List ℕ) → n < NUMBER_LIMIT → number_of (numbered n text) ≡ n
number_back n text small = omega (arith, small)

first_counts : (a b : Option (List ℕ)) → number_in b < number_in a → later a b ≡ a
first_counts a b lower = of_test (nat_lt (number_in a) (number_in b)) (grind (arith, nat_tests, lower))
  where
    of_test : (t : Bool) → t ≡ false → (if t then b else a) ≡ a
    of_test false is = refl
    of_test true is = absurd (true≢false is)

second_counts : (a b : Option (List ℕ)) → number_in a < number_in b → later a b ≡ b
second_counts a b lower = of_test (nat_lt (number_in a) (number_in b)) (grind (arith, nat_tests, lower))
  where
    of_test : (t : Bool) → t ≡ true → (if t then b else a) ≡ b
    of_test true is = refl
    of_test false is = absurd (true≢false (sym is))

module _ (h s : ℕ) (place : (s ≡ 0) ⊎ (s ≡ h)) where
  -- the half with the higher number
  pub counts : (bytes : List ℕ) → number_in (half_of (h - s) h bytes) < number_in (half_of s h bytes) → root_of h bytes ≡ half_of s h bytes
  counts bytes lower = ⊎_elim at_front at_back place
    where
      at_front : s ≡ 0 → root_of h bytes ≡ half_of s h bytes
      at_front is =
          let o_is : h - s ≡ h = omega (arith, is) in
          first_counts (half_of 0 h bytes) (half_of h h bytes) (subst (λ (k : ℕ). number_in (half_of k h bytes) < number_in (half_of 0 h bytes)) o_is (subst (λ (k : ℕ). number_in (half_of (h - s) h bytes) < number_in (half_of k h bytes)) is lower))
          ∙ ap (λ (k : ℕ). half_of k h bytes) (sym is)

      at_back : s ≡ h → root_of h bytes ≡ half_of s h bytes
      at_back is =
          let o_is : h - s ≡ 0 = omega (arith, is) in
          second_counts (half_of 0 h bytes) (half_of h h bytes) (subst (λ (k : ℕ). number_in (half_of k h bytes) < number_in (half_of h h bytes)) o_is (subst (λ (k : ℕ). number_in (half_of (h - s) h bytes) < number_in (half_of k h bytes)) is lower))
          ∙ ap (λ (k : ℕ). half_of k h bytes) (sym is)

  -- what lies beside the other half
  pub half_kept : (old c : List ℕ) → Beside (h - s) h old c → part s h c ≡ part s h old
  half_kept old c beside = ⊎_elim at_front at_back place
    where
      at_front : s ≡ 0 → part s h c ≡ part s h old
      at_front is =
          let o_is : h - s ≡ h = omega (arith, is) in
          let same : take h c ≡ take h old = sym (ap (λ (k : ℕ). take k c) o_is) ∙ beside.before ∙ ap (λ (k : ℕ). take k old) o_is in
          ap (λ (k : ℕ). part k h c) is ∙ same ∙ sym (ap (λ (k : ℕ). part k h old) is)

      at_back : s ≡ h → part s h c ≡ part s h old
      at_back is =
          let o_is : h - s + h ≡ h = omega (arith, is) in
          let same : drop h c ≡ drop h old = sym (ap (λ (k : ℕ). drop k c) o_is) ∙ beside.behind ∙ ap (λ (k : ℕ). drop k old) o_is in
          ap (λ (k : ℕ). part k h c) is ∙ ap (λ (l : List ℕ). take h l) same ∙ sym (ap (λ (k : ℕ). part k h old) is)

  pub behind_kept : (old c : List ℕ) → Beside (h - s) h old c → drop (h + h) c ≡ drop (h + h) old
  behind_kept old c beside = ⊎_elim at_front at_back place
    where
      at_front : s ≡ 0 → drop (h + h) c ≡ drop (h + h) old
      at_front is = let o_is : h - s + h ≡ h + h = omega (arith, is) in sym (ap (λ (k : ℕ). drop k c) o_is) ∙ beside.behind ∙ ap (λ (k : ℕ). drop k old) o_is

      at_back : s ≡ h → drop (h + h) c ≡ drop (h + h) old
      at_back is =
          let o_is : h - s + h ≡ h = omega (arith, is) in
          let same : drop h c ≡ drop h old = sym (ap (λ (k : ℕ). drop k c) o_is) ∙ beside.behind ∙ ap (λ (k : ℕ). drop k old) o_is in
          sym (drop-drop h h c) ∙ ap (λ (l : List ℕ). drop h l) same ∙ drop-drop h h old

  pub same_half : (old c : List ℕ) → Beside (h - s) h old c → half_of s h c ≡ half_of s h old
  same_half old c beside = ap (λ (l : List ℕ). first_of (records l)) (half_kept old c beside)

  -- Both halves are sound: the one that begins at s, and the other one.
  halves_of : (c : List ℕ) → all_sound (frames (part s h c)) ≡ true → all_sound (frames (part (h - s) h c)) ≡ true → number_in (half_of (h - s) h c) ≢ number_in (half_of s h c) → HasSoundHalves h c
  halves_of c here there differ = ⊎_elim at_front at_back place
    where
      at_front : s ≡ 0 → HasSoundHalves h c
      at_front is =
          let o_is : h - s ≡ h = omega (arith, is) in
          record {
            differ = λ same. differ (ap (λ (k : ℕ). number_in (half_of k h c)) o_is ∙ sym same ∙ sym (ap (λ (k : ℕ). number_in (half_of k h c)) is));
            first = subst (λ (k : ℕ). all_sound (frames (part k h c)) ≡ true) is here;
            second = subst (λ (k : ℕ). all_sound (frames (part k h c)) ≡ true) o_is there;
          }

      at_back : s ≡ h → HasSoundHalves h c
      at_back is =
          let o_is : h - s ≡ 0 = omega (arith, is) in
          record {
            differ = λ same. differ (ap (λ (k : ℕ). number_in (half_of k h c)) o_is ∙ same ∙ sym (ap (λ (k : ℕ). number_in (half_of k h c)) is));
            first = subst (λ (k : ℕ). all_sound (frames (part k h c)) ≡ true) o_is there;
            second = subst (λ (k : ℕ). all_sound (frames (part k h c)) ≡ true) is here;
          }

  sound_here : (c : List ℕ) → HasSoundHalves h c → all_sound (frames (part s h c)) ≡ true
  sound_here c halves = ⊎_elim
      (λ (is : s ≡ 0). subst (λ (k : ℕ). all_sound (frames (part k h c)) ≡ true) (sym is) halves.first)
      (λ (is : s ≡ h). subst (λ (k : ℕ). all_sound (frames (part k h c)) ≡ true) (sym is) halves.second)
      place

  sound_there : (c : List ℕ) → HasSoundHalves h c → all_sound (frames (part (h - s) h c)) ≡ true
  sound_there c halves = ⊎_elim at_front at_back place
    where
      at_front : s ≡ 0 → all_sound (frames (part (h - s) h c)) ≡ true
      at_front is = let o_is : h ≡ h - s = omega (arith, is) in subst (λ (k : ℕ). all_sound (frames (part k h c)) ≡ true) o_is halves.second

      at_back : s ≡ h → all_sound (frames (part (h - s) h c)) ≡ true
      at_back is = let o_is : 0 ≡ h - s = omega (arith, is) in subst (λ (k : ℕ). all_sound (frames (part k h c)) ≡ true) o_is halves.first

  -- one half is as it was, and the other one is sound and has another number
  pub still_sound : (old c : List ℕ) → Beside (h - s) h old c → all_sound (frames (part (h - s) h c)) ≡ true → number_in (half_of (h - s) h c) ≢ number_in (half_of s h old) → HasSoundHalves h old → HasSoundHalves h c
  still_sound old c beside there differ halves =
      halves_of c (ap (λ (l : List ℕ). all_sound (frames l)) (half_kept old c beside) ∙ sound_here old halves) there (λ same. differ (same ∙ ap number_in (same_half old c beside)))

  module _ (old : List ℕ) (n : ℕ) (current : number_in (half_of s h old) ≡ n) (other : number_in (half_of (h - s) h old) < n) where
    pub root_is : root_of h old ≡ half_of s h old
    root_is = counts old (omega (arith, current, other))

    low : (c : List ℕ) → (frames (part (h - s) h c) ≡ []) ⊎ (part (h - s) h c ≡ part (h - s) h old) → number_in (half_of (h - s) h c) < n
    low c (inl none) = omega (arith, other, ap (λ (fs : List (List ℕ)). number_in (first_of (map text_of fs))) none)
    low c (inr same) = omega (arith, other, ap (λ (l : List ℕ). number_in (first_of (records l))) same)

    -- while the other half is blanked
    pub still_root : (c : List ℕ) → (frames (part (h - s) h c) ≡ []) ⊎ (part (h - s) h c ≡ part (h - s) h old) → Beside (h - s) h old c → IsSameRoot h old c
    still_root c blanked beside = record {
      root = counts c (omega (arith, low c blanked, current, ap number_in (same_half old c beside))) ∙ same_half old c beside ∙ sym root_is;
      behind = behind_kept old c beside;
      long = beside.long;
      sound = λ halves.
          still_sound old c beside
          (⊎_elim (λ none. ap all_sound none) (λ same. ap (λ (l : List ℕ). all_sound (frames l)) same ∙ sound_there old halves) blanked)
          (λ same. absurd (omega (arith, low c blanked, same, current)))
          halves;
    }

    -- While it is written: it has no record, or the new one.
    module _ (new : List ℕ) (batch : List (List ℕ)) (one : map text_of batch ≡ new ∷ []) (next : number_of new ≡ n + 1) where
      prefix_is : (k : ℕ) (fs : List (List ℕ)) → map text_of fs ≡ new ∷ [] → (first_of (map text_of (take k fs)) ≡ None) ⊎ (first_of (map text_of (take k fs)) ≡ Some new)
      prefix_is zero fs is = inl refl
      prefix_is (suc k) [] is = absurd (omega (arith, ap length is))
      prefix_is (suc k) (f ∷ fs) is = inr (ap first_of_all is)
        where
          first_of_all : List (List ℕ) → Option (List ℕ)
          first_of_all = first_of

      written : {torn : TornWrites} (c : List ℕ) → IsPrefixOf torn [] batch (part (h - s) h c) → (half_of (h - s) h c ≡ None) ⊎ (half_of (h - s) h c ≡ Some new)
      written c prefix = ⊎_elim (λ none. inl (ap (λ (fs : List (List ℕ)). first_of (map text_of fs)) prefix.frames ∙ none)) (λ some. inr (ap (λ (fs : List (List ℕ)). first_of (map text_of fs)) prefix.frames ∙ some)) (prefix_is prefix.many batch one)

pub turned_place : (h s : ℕ) → (s ≡ 0) ⊎ (s ≡ h) → (h - s ≡ 0) ⊎ (h - s ≡ h)
turned_place h s place = ⊎_elim (λ (is : s ≡ 0). inr (omega (arith, is))) (λ (is : s ≡ h). inl (omega (arith, is))) place

pub turned_back : (h s : ℕ) → (s ≡ 0) ⊎ (s ≡ h) → h - (h - s) ≡ s
turned_back h s place = ⊎_elim (λ (is : s ≡ 0). omega (arith, is)) (λ (is : s ≡ h). omega (arith, is)) place

-- the new record is in the other half
pub new_counts : (h s : ℕ) → (s ≡ 0) ⊎ (s ≡ h) → (n : ℕ) (new c : List ℕ) → half_of (h - s) h c ≡ Some new → number_in (half_of s h c) ≡ n → number_of new ≡ n + 1 → root_of h c ≡ Some new
new_counts h s place n new c is before next =
    let lower : number_in (half_of (h - (h - s)) h c) ≡ n = ap (λ (k : ℕ). number_in (half_of k h c)) (turned_back h s place) ∙ before in
    let higher : number_in (half_of (h - s) h c) ≡ n + 1 = ap number_in is ∙ next in
    counts h (h - s) (turned_place h s place) c (omega (arith, lower, higher)) ∙ is

pub old_or_new : {torn : TornWrites} (h s : ℕ) (place : (s ≡ 0) ⊎ (s ≡ h)) (old : List ℕ) (n : ℕ) (current : number_in (half_of s h old) ≡ n) (other : number_in (half_of (h - s) h old) < n)
    (new : List ℕ) (batch : List (List ℕ)) (one : map text_of batch ≡ new ∷ []) (next : number_of new ≡ n + 1) (sound : all_sound batch ≡ true) (c : List ℕ)
    → IsPrefixOf torn [] batch (part (h - s) h c) → Beside (h - s) h old c → IsOldOrNew h old new c
old_or_new {torn} h s place old n current other new batch one next sound c prefix beside =
    let same = same_half h s place old c beside in
    record {
      root = ⊎_elim
          (λ none. inl (counts h s place c (omega (arith, ap number_in none, ap number_in same, current, other)) ∙ same ∙ sym (root_is h s place old n current other)))
          (λ some. inr (new_counts h s place n new c some (ap number_in same ∙ current) next))
          (written h s place old n current other new batch one next c prefix);
      behind = behind_kept h s place old c beside;
      long = beside.long;
      sound = still_sound h s place old c beside (none_damaged torn [] batch (part (h - s) h c) refl sound prefix) (λ same. ⊎_elim
          (λ none. absurd (omega (arith, ap number_in none, same, current, other)))
          (λ some. absurd (omega (arith, ap number_in some, next, same, current)))
          (written h s place old n current other new batch one next c prefix));
    }

pub beside_at : (a a' b b' : ℕ) (d c : List ℕ) → a ≡ a' → b ≡ b' → Beside a b d c → Beside a' b' d c
beside_at a a' b b' d c p q beside = subst (λ (k : ℕ). Beside k b' d c) p (subst (λ (k : ℕ). Beside a k d c) q beside)

-- the device is as long as it was
pub still_room : (h s : ℕ) → (s ≡ 0) ⊎ (s ≡ h) → (old new : List ℕ) → Beside (h - s) h old new → h - s + h ≤ length new → h + h ≤ length old → h + h ≤ length new
still_room h s place old new beside within room = ⊎_elim at_front at_back place
  where
    at_front : s ≡ 0 → h + h ≤ length new
    at_front is = omega (arith, is, within)

    at_back : s ≡ h → h + h ≤ length new
    at_back is = omega (arith, is, ap length beside.behind, length-drop (h - s + h) new, length-drop (h - s + h) old, within, room)

-- what is known of the outcomes of a part, and of what lies beside it, is known of the device's
pub only_on : {D : Type 0} (moment : D → ℕ) (left_since : D → ℕ → List ℕ → Type 0) (may_leave : D → List ℕ → Type 0) (keeps : D → D → Type 0) (seen : D → List ℕ) (start len new_start new_len : ℕ) (old new : D)
    → KeepsBeside moment left_since may_leave keeps seen start len new_start new_len old new → Only (seen old) (may_leave old) → Only (part new_start new_len (seen new)) (Leaves new_start new_len (may_leave new)) → Only (seen new) (may_leave new)
only_on moment left_since may_leave keeps seen start len new_start new_len old new k only part_only f left =
    let was = k.now f left in
    let from_old : Beside start len (seen old) f = subst (λ (d : List ℕ). Beside start len d f) (only was.0 was.1) was.2 in
    let from_new : Beside start len (seen new) f = record { before = from_old.before ∙ sym k.shown.before; behind = from_old.behind ∙ sym k.shown.behind; long = from_old.long ∙ sym k.shown.long } in
    let at : (x : List ℕ) → part new_start new_len x ≡ part start len x = λ x i. part (k.same_start i) (k.same_len i) x in
    whole_again start len (seen new) f from_new (sym (at f) ∙ part_only (part new_start new_len f) (f, left, refl) ∙ at (seen new))

-- The second half is blanked, then the first one, which is then written.
module _ (h : ℕ) (first second last : List ℕ) (blanked : Beside 0 h first second) (written : Beside 0 h second last) where
  tail : drop h last ≡ drop h first
  tail =
      let zero_h : 0 + h ≡ h = omega arith in
      sym (ap (λ (k : ℕ). drop k last) zero_h) ∙ written.behind ∙ blanked.behind ∙ ap (λ (k : ℕ). drop k first) zero_h

  pub second_half : part h h last ≡ part h h first
  second_half = ap (λ (l : List ℕ). take h l) tail

  pub long_enough : h + h ≤ length first → h ≤ length last → h + h ≤ length last
  long_enough before some = omega (arith, ap length tail, length-drop h last, length-drop h first, before, some)

pub made : (h : ℕ) (new bytes : List ℕ) → number_of new ≡ 1 → half_of 0 h bytes ≡ Some new → frames (part h h bytes) ≡ [] → root_of h bytes ≡ Some new
made h new bytes one is none =
    let first : number_in (half_of 0 h bytes) ≡ 1 = ap number_in is ∙ one in
    let other : number_in (half_of h h bytes) ≡ 0 = ap (λ (fs : List (List ℕ)). number_in (first_of (map text_of fs))) none in
    first_counts (half_of 0 h bytes) (half_of h h bytes) (omega (arith, first, other)) ∙ is
