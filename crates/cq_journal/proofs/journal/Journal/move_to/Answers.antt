-- The root names the copy in place of the region that grew.
use Rattle.std.proofs.Common.{◌≡◌, ℕ, ◌+◌, ◌<◌, ◌≤◌, List, [], ◌∷◌, ◌++◌, length, drop, sym, ◌∙◌, ap, subst, arith, length-drop, length-append}
use Rattle.std.proofs.Common.{rules}
use Rattle.std.specs.Prelude.{IsErrOf, Some}
use Rattle.cq_records.specs.declared.fault.LogFault.TheVariants.{Full}
use Rattle.cq_disk.specs.Device.{LeavesOnly}
use Rattle.cq_disk.specs.Region.{part}
use Rattle.cq_disk.proofs.Moments.{weakened, runs_on, started}
use Rattle.cq_records.specs.Frames.{is_plain}
use Rattle.cq_records.specs.Layout.{IsLog}
use Rattle.cq_journal.specs.declared.number.TheConstants.{NUMBER_LIMIT}
use Rattle.cq_journal.specs.Regions.{Each, AreApart, regions_text, HasRecords, records_at}
use Rattle.cq_journal.specs.Roots.{numbered, IsOldOrNew, IsOldOrPut}
use Rattle.cq_journal.proofs.Moves.{log_any, records_moved, while_moved}
use Rattle.cq_journal.proofs.Regions.{kept_of, each_so, each_more, each_left, plain_text, part_same, places_long}
use Rattle.cq_journal.specs.Intact.{IsIntact}
use Rattle.cq_journal.proofs.Bases.{free_outside}
use Rattle.cq_journal.proofs.Intact.{rests_intact, intact_at, outside_leaves, with_other}
use Rattle.cq_journal.proofs.Rooms.{names_long}
use Rattle.cq_journal.proofs.journal.Journal.move_to.Goals as goal

pub text_of-requires-clause-closed : goal.text_of-requires-clause-closed
text_of-requires-clause-closed g c =
    subst (λ (xs : List ℕ). Each (λ n. n < NUMBER_LIMIT) xs) (sym c.deref.ensures.value) (each_left (λ n. n < NUMBER_LIMIT) c.args.self.now.closed.items c.args.self.now.growing c.requires.regions.small)

pub put_in_both-requires-clause-text : goal.put_in_both-requires-clause-text
put_in_both-requires-clause-text g c =
    ap is_plain (c.deref-3.ensures.value ∙ c.in_ok-text.ensures) ∙ plain_text c.torn_writes-torn.result (c.deref.result.now ++ c.args.place ∷ [])

pub put_in_both-requires-clause-short : goal.put_in_both-requires-clause-short
put_in_both-requires-clause-short g c =
    let j = c.args.self.now in
    let all : List ℕ = c.deref.result.now ++ c.args.place ∷ [] in
    let places : List ℕ = j.closed.items ++ j.growing ∷ [] in
    omega (arith, ap length (c.deref-3.ensures.value ∙ c.in_ok-text.ensures), places_long all, length-append c.deref.result.now (c.args.place ∷ []), ap length c.deref.ensures.value, length-append j.closed.items (j.growing ∷ []), c.requires.free.few)

pub returns-in_err-text-clause-any_moment : goal.returns-in_err-text-clause-any_moment
returns-in_err-text-clause-any_moment g c = λ honest.
    let j = c.args.self.now in
    let q = c.requires.regions in
    let d = g.D.Device in
    let device = j.root.log.device.device in
    let places : List ℕ = j.closed.items ++ j.growing ∷ [] in
    let P : List ℕ → Type 0 = HasRecords j.root.log.device.len j.len (records_at j.len places (d.seen device)) in
    started d.moment d.left_since device P (λ f left.
    subst P (sym (q.root.durable f (g.met.D.Device.only_now device f left))) (kept_of j.root.log.device.len j.len j.root.number places (d.seen device) q.small (q.names honest)))

pub returns-then-not-has_room-clause-any_moment : goal.returns-then-not-has_room-clause-any_moment
returns-then-not-has_room-clause-any_moment g c = λ honest.
    let j = c.args.self.now in
    let q = c.requires.regions in
    let d = g.D.Device in
    let device = j.root.log.device.device in
    let places : List ℕ = j.closed.items ++ j.growing ∷ [] in
    let P : List ℕ → Type 0 = HasRecords j.root.log.device.len j.len (records_at j.len places (d.seen device)) in
    started d.moment d.left_since device P (λ f left.
    subst P (sym (q.root.durable f (g.met.D.Device.only_now device f left))) (kept_of j.root.log.device.len j.len j.root.number places (d.seen device) q.small (q.names honest)))

pub returns-in_err-put_in_both-clause-any_moment : goal.returns-in_err-put_in_both-clause-any_moment
returns-in_err-put_in_both-clause-any_moment g c = λ honest.
    let j = c.args.self.now in
    let q = c.requires.regions in
    let free = c.requires.free in
    let d = g.D.Device in
    let h = j.root.log.device.len in
    let p = c.args.place in
    let ns : List ℕ = j.closed.items in
    let device = j.root.log.device.device in
    let copied = c.copy_to.new.self in
    let mid = copied.root.log.device.device in
    let fin = c.put_in_both.new.self.log.device.device in
    let old = d.seen device in
    let ok = c.in_ok-end.ensures in
    let honest_mid = c.put_in_both.ensures.honest honest in
    let root = q.names (c.copy_to.ensures.honest honest_mid) in
    let text_is : c.deref-3.result.now ≡ regions_text c.torn_writes-torn.result (ns ++ p ∷ []) = c.deref-3.ensures.value ∙ c.in_ok-text.ensures ∙ ap (λ (xs : List ℕ). regions_text c.torn_writes-torn.result (xs ++ p ∷ [])) c.deref.ensures.value in
    let P : List ℕ → Type 0 = HasRecords h j.len (records_at j.len (ns ++ j.growing ∷ []) old) in
    let second : LeavesOnly d.moment d.left_since mid fin P = weakened d.moment d.left_since mid fin _ P (c.put_in_both.ensures.any_moment honest) (λ f either.
    while_moved h j.len j.root.number j.growing p ns old q.small q.behind q.apart root free.behind free.small free.apart (d.seen mid) ok.beside (ok.copied honest_mid) either.0 f
    (subst (λ (k : ℕ). IsOldOrNew k (d.seen mid) (numbered either.0 (regions_text c.torn_writes-torn.result (ns ++ p ∷ []))) f) c.copy_to.ensures.half
    (subst (λ (text : List ℕ). IsOldOrNew copied.root.log.device.len (d.seen mid) (numbered either.0 text) f) text_is either.2))) in
    runs_on d.moment d.left_since device mid fin P (c.copy_to.ensures.any_moment honest_mid) second

pub returns-clause-any_moment : goal.returns-clause-any_moment
returns-clause-any_moment g c = λ honest.
    let j = c.args.self.now in
    let q = c.requires.regions in
    let free = c.requires.free in
    let d = g.D.Device in
    let h = j.root.log.device.len in
    let p = c.args.place in
    let ns : List ℕ = j.closed.items in
    let device = j.root.log.device.device in
    let copied = c.copy_to.new.self in
    let mid = copied.root.log.device.device in
    let fin = c.put_in_both.new.self.log.device.device in
    let old = d.seen device in
    let ok = c.in_ok-end.ensures in
    let honest_mid = c.put_in_both.ensures.honest honest in
    let root = q.names (c.copy_to.ensures.honest honest_mid) in
    let text_is : c.deref-3.result.now ≡ regions_text c.torn_writes-torn.result (ns ++ p ∷ []) = c.deref-3.ensures.value ∙ c.in_ok-text.ensures ∙ ap (λ (xs : List ℕ). regions_text c.torn_writes-torn.result (xs ++ p ∷ [])) c.deref.ensures.value in
    let P : List ℕ → Type 0 = HasRecords h j.len (records_at j.len (ns ++ j.growing ∷ []) old) in
    let second : LeavesOnly d.moment d.left_since mid fin P = weakened d.moment d.left_since mid fin _ P (c.put_in_both.ensures.any_moment honest) (λ f either.
    while_moved h j.len j.root.number j.growing p ns old q.small q.behind q.apart root free.behind free.small free.apart (d.seen mid) ok.beside (ok.copied honest_mid) either.0 f
    (subst (λ (k : ℕ). IsOldOrNew k (d.seen mid) (numbered either.0 (regions_text c.torn_writes-torn.result (ns ++ p ∷ []))) f) c.copy_to.ensures.half
    (subst (λ (text : List ℕ). IsOldOrNew copied.root.log.device.len (d.seen mid) (numbered either.0 text) f) text_is either.2))) in
    runs_on d.moment d.left_since device mid fin P (c.copy_to.ensures.any_moment honest_mid) second

pub returns-clause-records : goal.returns-clause-records
returns-clause-records g c = λ honest.
    let j = c.args.self.now in
    let q = c.requires.regions in
    let free = c.requires.free in
    let d = g.D.Device in
    let h = j.root.log.device.len in
    let p = c.args.place in
    let ns : List ℕ = j.closed.items in
    let mid = d.seen c.copy_to.new.self.root.log.device.device in
    let fin = d.seen c.put_in_both.new.self.log.device.device in
    let old = d.seen j.root.log.device.device in
    let ok = c.in_ok-end.ensures in
    let honest_mid = c.put_in_both.ensures.honest honest in
    let root = q.names (c.copy_to.ensures.honest honest_mid) in
    let behind : drop (h + h) fin ≡ drop (h + h) mid = subst (λ (k : ℕ). drop (k + k) fin ≡ drop (k + k) mid) c.copy_to.ensures.half c.in_ok-put_in_both.ensures.behind in
    let copied = c.copy_to.new.self in
    let same = c.copy_to.ensures.same in
    let now : records_at copied.len (copied.closed.items ++ p ∷ []) fin ≡ records_at j.len (ns ++ p ∷ []) fin = λ i. records_at (same.2 i) ((same.0 i).items ++ p ∷ []) fin in
    now ∙ records_moved h j.len j.root.number j.growing p ns old q.small q.behind q.apart root free.behind free.small free.apart mid ok.beside (ok.copied honest_mid) fin behind

pub returns-clause-journal : goal.returns-clause-journal
returns-clause-journal g c =
    let j = c.args.self.now in
    let q = c.requires.regions in
    let free = c.requires.free in
    let d = g.D.Device in
    let h = j.root.log.device.len in
    let p = c.args.place in
    let n = j.len in
    let ns : List ℕ = j.closed.items in
    let all : List ℕ = ns ++ p ∷ [] in
    let copied = c.copy_to.new.self in
    let same = c.copy_to.ensures.same in
    let half = c.copy_to.ensures.half in
    let ok = c.in_ok-end.ensures in
    let put = c.in_ok-put_in_both.ensures in
    let new = c.put_in_both.new.self in
    let old = d.seen j.root.log.device.device in
    let mid = d.seen copied.root.log.device.device in
    let fin = d.seen new.log.device.device in
    let closed_is : copied.closed.items ≡ ns = λ i. (same.0 i).items in
    let len_is : copied.len ≡ n = same.2 in
    let half_is : new.log.device.len ≡ h = put.half ∙ half in
    let text_is : c.deref-3.result.now ≡ regions_text c.torn_writes-torn.result all = c.deref-3.ensures.value ∙ c.in_ok-text.ensures ∙ ap (λ (xs : List ℕ). regions_text c.torn_writes-torn.result (xs ++ p ∷ [])) c.deref.ensures.value in
    let behind : drop (h + h) fin ≡ drop (h + h) mid = subst (λ (k : ℕ). drop (k + k) fin ≡ drop (k + k) mid) half put.behind in
    let long : length fin ≡ length old = omega (arith, ap length behind, length-drop (h + h) fin, length-drop (h + h) mid, c.copy_to.ensures.length, q.root.room, put.root.room, half_is) in
    record {
      regions = record {
        root = put.root;
        behind = subst (λ (xs : List ℕ). Each (λ a. new.log.device.len + new.log.device.len ≤ a) (xs ++ p ∷ [])) (sym closed_is)
            (each_so (λ a. h + h ≤ a) (λ a. new.log.device.len + new.log.device.len ≤ a) (λ a low. subst (λ (m : ℕ). m + m ≤ a) (sym half_is) low) all (each_more (λ a. h + h ≤ a) ns p (each_left (λ a. h + h ≤ a) ns j.growing q.behind) free.behind));
        within = subst (λ (k : ℕ). Each (λ a. a + k ≤ length fin) (copied.closed.items ++ p ∷ [])) (sym len_is)
            (subst (λ (xs : List ℕ). Each (λ a. a + n ≤ length fin) (xs ++ p ∷ [])) (sym closed_is)
            (each_so (λ a. a + n ≤ length old) (λ a. a + n ≤ length fin) (λ a low. subst (λ (m : ℕ). a + n ≤ m) (sym long) low) all (each_more (λ a. a + n ≤ length old) ns p (each_left (λ a. a + n ≤ length old) ns j.growing q.within) free.within)));
        apart = subst (λ (k : ℕ). Each (λ a. AreApart k a p) copied.closed.items) (sym len_is) (subst (λ (xs : List ℕ). Each (λ a. AreApart n a p) xs) (sym closed_is) (each_left (λ a. AreApart n a p) ns j.growing free.apart));
        small = subst (λ (xs : List ℕ). Each (λ a. a < NUMBER_LIMIT) (xs ++ p ∷ [])) (sym closed_is) (each_more (λ a. a < NUMBER_LIMIT) ns p (each_left (λ a. a < NUMBER_LIMIT) ns j.growing q.small) free.small);
        names = λ honest.
            put.text honest ∙ ap (λ (text : List ℕ). Some (numbered new.number text)) text_is
            ∙ (λ i. Some (numbered new.number (regions_text c.torn_writes-torn.result (sym closed_is i ++ p ∷ []))));
      };
      log = subst (λ (k : ℕ). IsLog (part p k fin) c.in_ok-end.end) (sym len_is) (subst (λ (bytes : List ℕ). IsLog bytes c.in_ok-end.end) (sym (part_same h n mid fin behind p free.behind)) ok.log);
    }

pub returns-in_err-text-clause-intact : goal.returns-in_err-text-clause-intact
returns-in_err-text-clause-intact g c = rests_intact c.args.self.now (λ f. g.met.D.Device.only_now c.args.self.now.root.log.device.device f) c.requires.regions

pub returns-then-not-has_room-clause-intact : goal.returns-then-not-has_room-clause-intact
returns-then-not-has_room-clause-intact g c = rests_intact c.args.self.now (λ f. g.met.D.Device.only_now c.args.self.now.root.log.device.device f) c.requires.regions

pub returns-in_err-end-clause-intact : goal.returns-in_err-end-clause-intact
returns-in_err-end-clause-intact g c =
    let j = c.args.self.now in
    outside_leaves c.args.place j c.copy_to.new.self (free_outside j c.args.place c.requires.free) c.requires.regions c.copy_to.ensures.honest c.copy_to.ensures.left

pub returns-in_err-put_in_both-clause-intact : goal.returns-in_err-put_in_both-clause-intact
returns-in_err-put_in_both-clause-intact g c = λ now i.
    let j = c.args.self.now in
    let q = c.requires.regions in
    let free = c.requires.free in
    let d = g.D.Device in
    let h = j.root.log.device.len in
    let p = c.args.place in
    let ns : List ℕ = j.closed.items in
    let device = j.root.log.device.device in
    let copied = c.copy_to.new.self in
    let mid = copied.root.log.device.device in
    let fin = c.put_in_both.new.self.log.device.device in
    let ok = c.in_ok-end.ensures in
    let honest_mid = c.put_in_both.ensures.honest now in
    let at = intact_at j q (c.copy_to.ensures.honest honest_mid) i in
    let text_is : c.deref-3.result.now ≡ regions_text c.torn_writes-torn.result (ns ++ p ∷ []) = c.deref-3.ensures.value ∙ c.in_ok-text.ensures ∙ ap (λ (xs : List ℕ). regions_text c.torn_writes-torn.result (xs ++ p ∷ [])) c.deref.ensures.value in
    let named : (f : List ℕ) → IsOldOrPut copied.root.log.device.len (d.seen mid) c.deref-3.result.now f → IsIntact h j.len f = λ f either.
    with_other h j.len j.root.number ns j.growing (d.seen device) at p free.behind free.small free.within free.apart (d.seen mid) ok.beside ok.log.sound (λ t. log_any t _ _ ok.log) c.torn_writes-torn.result either.0 either.1 f
    (subst (λ (k : ℕ). IsOldOrNew k (d.seen mid) (numbered either.0 (regions_text c.torn_writes-torn.result (ns ++ p ∷ []))) f) c.copy_to.ensures.half
    (subst (λ (text : List ℕ). IsOldOrNew copied.root.log.device.len (d.seen mid) (numbered either.0 text) f) text_is either.2)) in
    let P : List ℕ → Type 0 = IsIntact h j.len in
    runs_on d.moment d.left_since device mid fin P (outside_leaves p j copied (free_outside j p free) q c.copy_to.ensures.honest c.copy_to.ensures.left honest_mid i)
    (weakened d.moment d.left_since mid fin _ P (c.put_in_both.ensures.any_moment now) named)

pub returns-clause-intact : goal.returns-clause-intact
returns-clause-intact g c = λ now i.
    let j = c.args.self.now in
    let q = c.requires.regions in
    let free = c.requires.free in
    let d = g.D.Device in
    let h = j.root.log.device.len in
    let p = c.args.place in
    let ns : List ℕ = j.closed.items in
    let device = j.root.log.device.device in
    let copied = c.copy_to.new.self in
    let mid = copied.root.log.device.device in
    let fin = c.put_in_both.new.self.log.device.device in
    let ok = c.in_ok-end.ensures in
    let honest_mid = c.put_in_both.ensures.honest now in
    let at = intact_at j q (c.copy_to.ensures.honest honest_mid) i in
    let text_is : c.deref-3.result.now ≡ regions_text c.torn_writes-torn.result (ns ++ p ∷ []) = c.deref-3.ensures.value ∙ c.in_ok-text.ensures ∙ ap (λ (xs : List ℕ). regions_text c.torn_writes-torn.result (xs ++ p ∷ [])) c.deref.ensures.value in
    let named : (f : List ℕ) → IsOldOrPut copied.root.log.device.len (d.seen mid) c.deref-3.result.now f → IsIntact h j.len f = λ f either.
    with_other h j.len j.root.number ns j.growing (d.seen device) at p free.behind free.small free.within free.apart (d.seen mid) ok.beside ok.log.sound (λ t. log_any t _ _ ok.log) c.torn_writes-torn.result either.0 either.1 f
    (subst (λ (k : ℕ). IsOldOrNew k (d.seen mid) (numbered either.0 (regions_text c.torn_writes-torn.result (ns ++ p ∷ []))) f) c.copy_to.ensures.half
    (subst (λ (text : List ℕ). IsOldOrNew copied.root.log.device.len (d.seen mid) (numbered either.0 text) f) text_is either.2)) in
    let P : List ℕ → Type 0 = IsIntact h j.len in
    runs_on d.moment d.left_since device mid fin P (outside_leaves p j copied (free_outside j p free) q c.copy_to.ensures.honest c.copy_to.ensures.left honest_mid i)
    (weakened d.moment d.left_since mid fin _ P (c.put_in_both.ensures.any_moment now) named)

pub returns-clause-stays : goal.returns-clause-stays
returns-clause-stays g c = λ now i.
    let j = c.args.self.now in
    let q = c.requires.regions in
    let free = c.requires.free in
    let d = g.D.Device in
    let h = j.root.log.device.len in
    let p = c.args.place in
    let ns : List ℕ = j.closed.items in
    let device = j.root.log.device.device in
    let copied = c.copy_to.new.self in
    let mid = copied.root.log.device.device in
    let fin = c.put_in_both.new.self.log.device.device in
    let ok = c.in_ok-end.ensures in
    let honest_mid = c.put_in_both.ensures.honest now in
    let at = intact_at j q (c.copy_to.ensures.honest honest_mid) i in
    let text_is : c.deref-3.result.now ≡ regions_text c.torn_writes-torn.result (ns ++ p ∷ []) = c.deref-3.ensures.value ∙ c.in_ok-text.ensures ∙ ap (λ (xs : List ℕ). regions_text c.torn_writes-torn.result (xs ++ p ∷ [])) c.deref.ensures.value in
    let named : (f : List ℕ) → IsOldOrPut copied.root.log.device.len (d.seen mid) c.deref-3.result.now f → IsIntact h j.len f = λ f either.
    with_other h j.len j.root.number ns j.growing (d.seen device) at p free.behind free.small free.within free.apart (d.seen mid) ok.beside ok.log.sound (λ t. log_any t _ _ ok.log) c.torn_writes-torn.result either.0 either.1 f
    (subst (λ (k : ℕ). IsOldOrNew k (d.seen mid) (numbered either.0 (regions_text c.torn_writes-torn.result (ns ++ p ∷ []))) f) c.copy_to.ensures.half
    (subst (λ (text : List ℕ). IsOldOrNew copied.root.log.device.len (d.seen mid) (numbered either.0 text) f) text_is either.2)) in
    named (d.seen fin) (c.in_ok-put_in_both.ensures.shown now)

pub returns-then-not-has_room-clause-crowded : goal.returns-then-not-has_room-clause-crowded
returns-then-not-has_room-clause-crowded g c = λ err room.
    let j = c.args.self.now in
    let long = ap length (c.deref-2.ensures.value ∙ c.in_ok-text.ensures ∙ ap (λ (xs : List ℕ). regions_text c.torn_writes-torn.result (xs ++ c.args.place ∷ [])) c.deref.ensures.value)
    ∙ names_long c.torn_writes-torn.result j.closed.items j.growing c.args.place in
    c.has_room.ensures.none c.if-not-has_room.true (room.0, omega (arith, long, room.1))

pub returns-in_err-put_in_both-clause-crowded : goal.returns-in_err-put_in_both-clause-crowded
returns-in_err-put_in_both-clause-crowded g c = λ err room.
    let j = c.args.self.now in
    let is : IsErrOf c.put_in_both.result Full = search rules in
    let long = ap length (c.deref-3.ensures.value ∙ c.in_ok-text.ensures ∙ ap (λ (xs : List ℕ). regions_text c.torn_writes-torn.result (xs ++ c.args.place ∷ [])) c.deref.ensures.value)
    ∙ names_long c.torn_writes-torn.result j.closed.items j.growing c.args.place in
    (c.put_in_both.ensures.full is).1 (omega (arith, room.0, c.copy_to.ensures.number), omega (arith, long, room.1, c.copy_to.ensures.half))
