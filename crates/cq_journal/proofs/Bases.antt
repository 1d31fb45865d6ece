-- A base is begun, grows, and takes the place of all records.
use Rattle.std.proofs.Common.{◌≡◌, inl, inr, ⊎_elim, ℕ, ◌+◌, ◌<◌, ◌≤◌, true, List, [], ◌∷◌, ◌++◌, length, refl, sym, ◌∙◌, ap, subst, append_assoc}
use Rattle.std.specs.Prelude.{replicate, Some}
use Rattle.cq_disk.specs.Region.{part, Beside}
use Rattle.cq_disk.specs.declared.device.Device.{Ghosts}
use Rattle.cq_records.specs.Frames.{frames, records, all_sound}
use Rattle.cq_records.specs.Layout.{IsLog}
use Rattle.cq_journal.specs.declared.base.Base.{Base}
use Rattle.cq_journal.specs.declared.journal.Journal.{Journal}
use Rattle.cq_journal.specs.declared.journal.TheConstants.{REGION_LIMIT}
use Rattle.cq_journal.specs.declared.number.TheConstants.{NUMBER_LIMIT}
use Rattle.cq_journal.specs.Base.{IsBase, base_places, base_records, HasEitherRecords}
use Rattle.cq_journal.specs.Journal.{journal_device, journal_half, journal_places, IsFree}
use Rattle.cq_journal.specs.Regions.{Each, AreApart, AreSound, AreClosed, places_text, records_at}
use Rattle.cq_journal.specs.Roots.{root_of, numbered, IsOldOrNew}
use Rattle.cq_journal.specs.within.Outside.{IsOutside, ChangesOutside}
use Rattle.cq_journal.proofs.Regions.{closed_apart, each_left, each_more, each_so, kept_of, last_of, part_apart, records_apart, records_kept, records_more, records_same, sound_apart}

-- a free region can be written
pub free_outside : {D : Type 0} {g : Ghosts D} (j : Journal D g) (p : ℕ) → IsFree j p → IsOutside j p
free_outside j p free = record { behind = free.behind; within = free.within; apart = free.apart }

-- so can the base's region that grows
pub base_outside : {D : Type 0} {g : Ghosts D} (j : Journal D g) (b : Base) → IsBase j b → IsOutside j b.growing
base_outside {g = g} j b is = record {
  behind = last_of (λ n. journal_half j + journal_half j ≤ n) b.closed.items b.growing is.behind;
  within = last_of (λ n. n + j.len ≤ length (g.seen (journal_device j))) b.closed.items b.growing is.within;
  apart = last_of (λ n. Each (λ m. AreApart j.len m n) (journal_places j)) b.closed.items b.growing is.apart;
}

module _ {D : Type 0} {g : Ghosts D} (p : ℕ) (old new : Journal D g) (changes : ChangesOutside p old new) (b : Base) where
  abbrev old_bytes : List ℕ
  old_bytes = g.seen (journal_device old)

  abbrev new_bytes : List ℕ
  new_bytes = g.seen (journal_device new)

  journal_still : journal_places new ≡ journal_places old
  journal_still = λ i. (changes.closed i).items ++ changes.growing i ∷ []

  -- It has these regions, the last of which has a log.
  module _ (ns : List ℕ) (closed_is : b.closed.items ≡ ns) (growing_is : b.growing ≡ p) where
    places_are : base_places b ≡ ns ++ p ∷ []
    places_are = λ i. closed_is i ++ growing_is i ∷ []

    pub base_made : Each (λ n. journal_half old + journal_half old ≤ n) (ns ++ p ∷ []) → Each (λ n. n + old.len ≤ length old_bytes) (ns ++ p ∷ []) → Each (λ n. n < NUMBER_LIMIT) (ns ++ p ∷ [])
        → Each (λ n. Each (λ m. AreApart old.len m n) (journal_places old)) (ns ++ p ∷ []) → Each (λ n. AreApart old.len n p) ns → length (ns ++ p ∷ []) < REGION_LIMIT
        → AreSound old.len ns old_bytes → AreClosed old.len ns old_bytes → IsLog (part p old.len new_bytes) b.end → IsBase new b
    base_made behind within small apart alone few sound closed log = record {
      behind = subst (λ (xs : List ℕ). Each (λ n. journal_half new + journal_half new ≤ n) xs) (sym places_are) (subst (λ (k : ℕ). Each (λ n. k + k ≤ n) (ns ++ p ∷ [])) (sym changes.half) behind);
      within = subst (λ (xs : List ℕ). Each (λ n. n + new.len ≤ length new_bytes) xs) (sym places_are)
          (subst (λ (k : ℕ). Each (λ n. n + k ≤ length new_bytes) (ns ++ p ∷ [])) (sym changes.len) (subst (λ (k : ℕ). Each (λ n. n + old.len ≤ k) (ns ++ p ∷ [])) (sym changes.length) within));
      small = subst (λ (xs : List ℕ). Each (λ n. n < NUMBER_LIMIT) xs) (sym places_are) small;
      apart = subst (λ (xs : List ℕ). Each (λ n. Each (λ m. AreApart new.len m n) (journal_places new)) xs) (sym places_are)
          (subst (λ (k : ℕ). Each (λ n. Each (λ m. AreApart k m n) (journal_places new)) (ns ++ p ∷ [])) (sym changes.len)
          (subst (λ (ms : List ℕ). Each (λ n. Each (λ m. AreApart old.len m n) ms) (ns ++ p ∷ [])) (sym journal_still) apart));
      alone = subst (λ (k : ℕ). Each (λ n. AreApart k n b.growing) b.closed.items) (sym changes.len)
          (subst (λ (gr : ℕ). Each (λ n. AreApart old.len n gr) b.closed.items) (sym growing_is) (subst (λ (xs : List ℕ). Each (λ n. AreApart old.len n p) xs) (sym closed_is) alone));
      few = subst (λ (xs : List ℕ). length xs < REGION_LIMIT) (sym places_are) few;
      sound = subst (λ (k : ℕ). AreSound k (base_places b) new_bytes) (sym changes.len)
          (subst (λ (xs : List ℕ). AreSound old.len xs new_bytes) (sym places_are)
          (each_more (λ n. all_sound (frames (part n old.len new_bytes)) ≡ true) ns p (sound_apart old.len p ns old_bytes new_bytes alone changes.beside sound) log.sound));
      closed_logs = subst (λ (k : ℕ). AreClosed k b.closed.items new_bytes) (sym changes.len)
          (subst (λ (xs : List ℕ). AreClosed old.len xs new_bytes) (sym closed_is) (closed_apart old.len p ns old_bytes new_bytes alone changes.beside closed));
      log = subst (λ (k : ℕ). IsLog (part b.growing k new_bytes) b.end) (sym changes.len) (subst (λ (gr : ℕ). IsLog (part gr old.len new_bytes) b.end) (sym growing_is) log);
    }

    records_are : base_records new b ≡ records_at old.len (ns ++ p ∷ []) new_bytes
    records_are = λ i. records_at (changes.len i) (places_are i) new_bytes

    -- with a blank region more, behind those of before
    pub records_widened : Each (λ n. journal_half old + journal_half old ≤ n) ns → journal_half old + journal_half old ≤ p → Each (λ n. AreApart old.len n p) ns → part p old.len new_bytes ≡ replicate old.len 0
        → base_records new b ≡ records_at old.len ns old_bytes
    records_widened low low_p apart zeros = records_are ∙ records_kept (journal_half old) old.len p ns old_bytes new_bytes new_bytes low low_p apart changes.beside zeros refl

    -- with more records in the last region
    pub records_added : (more : List (List ℕ)) → Each (λ n. AreApart old.len n p) ns → records (part p old.len new_bytes) ≡ records (part p old.len old_bytes) ++ more
        → base_records new b ≡ records_at old.len (ns ++ p ∷ []) old_bytes ++ more
    records_added more alone added =
        records_are ∙ records_more old.len ns p new_bytes
        ∙ (λ i. (records_apart old.len p ns old_bytes new_bytes alone changes.beside i) ++ (added i))
        ∙ sym (append_assoc (records_at old.len ns old_bytes) (records (part p old.len old_bytes)) more)
        ∙ ap (λ (rs : List (List ℕ)). rs ++ more) (sym (records_more old.len ns p old_bytes))

-- while the root changes from these places to those
pub while_rewritten : {k k2 : ℕ} (h len n m : ℕ) (ns bs old : List ℕ) → Each (λ p. p < NUMBER_LIMIT) ns → Each (λ p. p < NUMBER_LIMIT) bs → Each (λ p. h + h ≤ p) ns → Each (λ p. h + h ≤ p) bs
    → root_of h old ≡ Some (numbered n (k ∷ places_text ns)) → (c : List ℕ) → IsOldOrNew h old (numbered m (k2 ∷ places_text bs)) c → HasEitherRecords h len (records_at len ns old) (records_at len bs old) c
while_rewritten h len n m ns bs old small small_b low low_b root c either = ⊎_elim
    (λ is. inl (kept_of h len n ns c small (is ∙ root) ∙ ap (λ (rs : List (List ℕ)). Some rs) (records_same h len old c either.behind ns low)))
    (λ is. inr (kept_of h len m bs c small_b is ∙ ap (λ (rs : List (List ℕ)). Some rs) (records_same h len old c either.behind bs low_b)))
    either.root

-- what is so of each of those with each of these is so the other way round
pub transposed : (R : ℕ → ℕ → Type 0) (ms ns : List ℕ) → Each (λ n. Each (λ m. R m n) ms) ns → Each (λ m. Each (λ n. R m n) ns) ms
transposed R [] ns all = tt
transposed R (m ∷ ms) ns all = (each_so (λ n. Each (λ k. R k n) (m ∷ ms)) (λ n. R m n) (λ n both. both.0) ns all, transposed R ms ns (each_so (λ n. Each (λ k. R k n) (m ∷ ms)) (λ n. Each (λ k. R k n) ms) (λ n both. both.1) ns all))

pub apart_back : (len a b : ℕ) → AreApart len a b → AreApart len b a
apart_back len a b (inl before) = inr before
apart_back len a b (inr behind) = inl behind

-- A region changes that is apart from all of a base's, and the base is the same.
module _ {D : Type 0} {g : Ghosts D} (p : ℕ) (old new : Journal D g) (places : journal_places new ≡ journal_places old) (len : new.len ≡ old.len) (half : journal_half new ≡ journal_half old)
    (long : length (g.seen (journal_device new)) ≡ length (g.seen (journal_device old))) (beside : Beside p old.len (g.seen (journal_device old)) (g.seen (journal_device new)))
    (b : Base) (is : IsBase old b) (apart : Each (λ n. AreApart old.len n p) (base_places b)) where
  pub base_records_still : base_records new b ≡ base_records old b
  base_records_still = (λ i. records_at (len i) (base_places b) (g.seen (journal_device new))) ∙ records_apart old.len p (base_places b) (g.seen (journal_device old)) (g.seen (journal_device new)) apart beside

  part_still : part b.growing new.len (g.seen (journal_device new)) ≡ part b.growing old.len (g.seen (journal_device old))
  part_still =
      (λ i. part b.growing (len i) (g.seen (journal_device new)))
      ∙ part_apart old.len b.growing p (g.seen (journal_device old)) (g.seen (journal_device new)) (last_of (λ n. AreApart old.len n p) b.closed.items b.growing apart) beside

  pub base_still : IsBase new b
  base_still = record {
    behind = subst (λ (k : ℕ). Each (λ n. k + k ≤ n) (base_places b)) (sym half) is.behind;
    within = subst (λ (k : ℕ). Each (λ n. n + k ≤ length (g.seen (journal_device new))) (base_places b)) (sym len) (subst (λ (k : ℕ). Each (λ n. n + old.len ≤ k) (base_places b)) (sym long) is.within);
    small = is.small;
    apart = subst (λ (k : ℕ). Each (λ n. Each (λ m. AreApart k m n) (journal_places new)) (base_places b)) (sym len)
        (subst (λ (ms : List ℕ). Each (λ n. Each (λ m. AreApart old.len m n) ms) (base_places b)) (sym places) is.apart);
    alone = subst (λ (k : ℕ). Each (λ n. AreApart k n b.growing) b.closed.items) (sym len) is.alone;
    few = is.few;
    sound = subst (λ (k : ℕ). AreSound k (base_places b) (g.seen (journal_device new))) (sym len) (sound_apart old.len p (base_places b) (g.seen (journal_device old)) (g.seen (journal_device new)) apart beside is.sound);
    closed_logs = subst (λ (k : ℕ). AreClosed k b.closed.items (g.seen (journal_device new))) (sym len)
        (closed_apart old.len p b.closed.items (g.seen (journal_device old)) (g.seen (journal_device new)) (each_left (λ n. AreApart old.len n p) b.closed.items b.growing apart) beside is.closed_logs);
    log = subst (λ (bytes : List ℕ). IsLog bytes b.end) (sym part_still) is.log;
  }

-- a base's regions are apart from the journal's last one
pub apart_last : {D : Type 0} {g : Ghosts D} (j : Journal D g) (b : Base) → IsBase j b → Each (λ n. AreApart j.len n j.growing) (base_places b)
apart_last j b is =
    each_so (λ n. Each (λ m. AreApart j.len m n) (journal_places j)) (λ n. AreApart j.len n j.growing)
    (λ n all. apart_back j.len j.growing n (last_of (λ m. AreApart j.len m n) j.closed.items j.growing all)) (base_places b) is.apart

-- both are so of each
pub each_both : (P Q : ℕ → Type 0) (ns : List ℕ) → Each P ns → Each Q ns → Each (λ n. P n × Q n) ns
each_both P Q [] p q = tt
each_both P Q (n ∷ ns) p q = ((p.0, q.0), each_both P Q ns p.1 q.1)
