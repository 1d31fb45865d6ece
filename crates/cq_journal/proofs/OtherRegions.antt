-- A region that doesn't count changes, and the journal is the same.
use Rattle.std.proofs.Common.{◌≡◌, ℕ, ◌+◌, ◌<◌, ◌≤◌, List, [], ◌∷◌, ◌++◌, length, sym, ◌∙◌, ap, subst}
use Rattle.std.specs.Prelude.{Some, IsTrue}
use Rattle.cq_disk.specs.Region.{part, Beside}
use Rattle.cq_disk.specs.declared.device.Device.{Ghosts}
use Rattle.cq_records.specs.Layout.{IsLog}
use Rattle.cq_journal.specs.declared.journal.Journal.{Journal}
use Rattle.cq_journal.specs.declared.number.TheConstants.{NUMBER_LIMIT}
use Rattle.cq_journal.specs.Journal.{journal_device, journal_half, journal_places, journal_records, IsJournal}
use Rattle.cq_journal.specs.Regions.{Each, AreApart, regions_text, records_at, HasRecords}
use Rattle.cq_journal.specs.Root.{IsRoot, root_number}
use Rattle.cq_journal.specs.Roots.{root_of, numbered}
use Rattle.cq_journal.specs.within.Outside.{IsOutside, ChangesOutside}
use Rattle.cq_journal.proofs.Regions.{kept_blanked, last_of, part_apart, records_apart, root_apart}

module _ {D : Type 0} {g : Ghosts D} (p : ℕ) (old new : Journal D g) (outside : IsOutside old p) (changes : ChangesOutside p old new) where
  abbrev old_bytes : List ℕ
  old_bytes = g.seen (journal_device old)

  abbrev new_bytes : List ℕ
  new_bytes = g.seen (journal_device new)

  places_are : journal_places new ≡ journal_places old
  places_are = λ i. (changes.closed i).items ++ changes.growing i ∷ []

  part_is : part new.growing new.len new_bytes ≡ part old.growing old.len old_bytes
  part_is =
      (λ i. part (changes.growing i) (changes.len i) new_bytes)
      ∙ part_apart old.len old.growing p old_bytes new_bytes (last_of (λ n. AreApart old.len n p) old.closed.items old.growing outside.apart) changes.beside

  pub records_still : journal_records new ≡ journal_records old
  records_still = (λ i. records_at (changes.len i) (places_are i) new_bytes) ∙ records_apart old.len p (journal_places old) old_bytes new_bytes outside.apart changes.beside

  pub journal_still : IsRoot new.root → IsJournal old → IsJournal new
  journal_still root journal =
      let q = journal.regions in
      record {
        regions = record {
          root = root;
          behind = subst (λ (ns : List ℕ). Each (λ n. journal_half new + journal_half new ≤ n) ns) (sym places_are) (subst (λ (k : ℕ). Each (λ n. k + k ≤ n) (journal_places old)) (sym changes.half) q.behind);
          within = subst (λ (ns : List ℕ). Each (λ n. n + new.len ≤ length new_bytes) ns) (sym places_are)
              (subst (λ (k : ℕ). Each (λ n. n + k ≤ length new_bytes) (journal_places old)) (sym changes.len) (subst (λ (k : ℕ). Each (λ n. n + old.len ≤ k) (journal_places old)) (sym changes.length) q.within));
          apart = subst (λ (k : ℕ). Each (λ n. AreApart k n new.growing) new.closed.items) (sym changes.len)
              (subst (λ (gr : ℕ). Each (λ n. AreApart old.len n gr) new.closed.items) (sym changes.growing) (subst (λ (ns : List ℕ). Each (λ n. AreApart old.len n old.growing) ns) (λ i. (sym changes.closed i).items) q.apart));
          small = subst (λ (ns : List ℕ). Each (λ n. n < NUMBER_LIMIT) ns) (sym places_are) q.small;
          names = λ honest.
              ap (λ (h : ℕ). root_of h new_bytes) changes.half ∙ root_apart (journal_half old) p old.len old_bytes new_bytes outside.behind changes.beside ∙ q.names (changes.honest honest)
              ∙ (λ i. Some (numbered (sym changes.number i) (regions_text (sym changes.torn i) (sym places_are i))));
        };
        log = subst (λ (e : ℕ). IsLog (part new.growing new.len new_bytes) e) (sym changes.end) (subst (λ (bytes : List ℕ). IsLog bytes old.end) (sym part_is) journal.log);
      }

-- at each moment of it
pub still_kept : {D : Type 0} {g : Ghosts D} (p : ℕ) (old : Journal D g) → IsOutside old p → IsJournal old → IsTrue (g.is_honest (journal_device old)) → (c : List ℕ) → Beside p old.len (g.seen (journal_device old)) c
    → HasRecords (journal_half old) old.len (journal_records old) c
still_kept {g = g} p old outside journal honest c near =
    let q = journal.regions in
    kept_blanked (journal_half old) old.len (root_number old.root) p (journal_places old) (g.seen (journal_device old)) c q.small outside.behind outside.apart (q.names honest) near

-- the same bytes once more
pub changes_on : {D : Type 0} {g : Ghosts D} (p : ℕ) (a b c : Journal D g) → ChangesOutside p a b → c.closed ≡ b.closed → c.growing ≡ b.growing → c.torn ≡ b.torn → c.end ≡ b.end → c.len ≡ b.len → journal_half c ≡ journal_half b → root_number c.root ≡ root_number b.root
    → g.seen (journal_device c) ≡ g.seen (journal_device b) → (IsTrue (g.is_honest (journal_device c)) → IsTrue (g.is_honest (journal_device b))) → ChangesOutside p a c
changes_on {g = g} p a b c first closed growing torn end len half number seen honest = record {
  closed = closed ∙ first.closed;
  growing = growing ∙ first.growing;
  torn = torn ∙ first.torn;
  end = end ∙ first.end;
  len = len ∙ first.len;
  half = half ∙ first.half;
  number = number ∙ first.number;
  length = ap length seen ∙ first.length;
  beside = subst (λ (bytes : List ℕ). Beside p a.len (g.seen (journal_device a)) bytes) (sym seen) first.beside;
  honest = λ now. first.honest (honest now);
}
