-- A region is blanked, and then named by the root.
use Rattle.std.proofs.Common.{◌≡◌, ℕ, ◌+◌, ◌<◌, ◌≤◌, List, [], ◌∷◌, ◌++◌, length, drop, replicate, sym, ◌∙◌, ap, subst, arith, length-drop, length-append}
use Rattle.std.specs.Prelude.{Some}
use Rattle.cq_disk.specs.Device.{LeavesOnly}
use Rattle.cq_disk.specs.Region.{part}
use Rattle.cq_disk.proofs.Moments.{weakened, runs_on, started}
use Rattle.cq_records.specs.Frames.{is_plain}
use Rattle.cq_journal.proofs.Moves.{blank_log, log_any, log_closed}
use Rattle.cq_journal.specs.declared.number.TheConstants.{NUMBER_LIMIT}
use Rattle.cq_journal.specs.Regions.{Each, AreApart, regions_text, HasRecords, records_at}
use Rattle.cq_journal.specs.Roots.{numbered, IsOldOrNew, IsOldOrPut}
use Rattle.cq_journal.proofs.Regions.{kept_of, last_of, each_so, each_more, each_left, places_long, plain_text, part_same, while_named, records_kept}
use Rattle.cq_journal.specs.Intact.{IsIntact}
use Rattle.cq_journal.proofs.Intact.{rests_intact, intact_at, with_next, sound_blank}
use Rattle.cq_journal.proofs.journal.Journal.go_on_at.Goals as goal

pub with_next-requires-clause-closed : goal.with_next-requires-clause-closed
with_next-requires-clause-closed g c =
    subst (λ (xs : List ℕ). Each (λ n. n < NUMBER_LIMIT) xs) (sym c.deref.ensures.value) (each_left (λ n. n < NUMBER_LIMIT) c.args.self.now.closed.items c.args.self.now.growing c.requires.journal.regions.small)

pub with_next-requires-clause-growing : goal.with_next-requires-clause-growing
with_next-requires-clause-growing g c = last_of (λ n. n < NUMBER_LIMIT) c.args.self.now.closed.items c.args.self.now.growing c.requires.journal.regions.small

pub put_in_both-requires-clause-text : goal.put_in_both-requires-clause-text
put_in_both-requires-clause-text g c =
    let j = c.args.self.now in
    let text_is = c.deref-3.ensures.value ∙ c.in_ok-closed.ensures.text in
    ap is_plain text_is ∙ plain_text c.torn_writes-torn.result ((c.deref.result.now ++ j.growing ∷ []) ++ c.args.place ∷ [])

pub put_in_both-requires-clause-short : goal.put_in_both-requires-clause-short
put_in_both-requires-clause-short g c =
    let j = c.args.self.now in
    let ns : List ℕ = c.deref.result.now ++ j.growing ∷ [] in
    let all : List ℕ = ns ++ c.args.place ∷ [] in
    let text_is = c.deref-3.ensures.value ∙ c.in_ok-closed.ensures.text in
    let few : length ns ≡ length (j.closed.items ++ j.growing ∷ []) = ap (λ (xs : List ℕ). length (xs ++ j.growing ∷ [])) c.deref.ensures.value in
    omega (arith, ap length text_is, places_long all, length-append ns (c.args.place ∷ []), few, c.requires.free.few)

pub returns-in_err-closed-clause-any_moment : goal.returns-in_err-closed-clause-any_moment
returns-in_err-closed-clause-any_moment g c = λ honest.
    let j = c.args.self.now in
    let q = c.requires.journal in
    let d = g.D.Device in
    let device = j.root.log.device.device in
    let places : List ℕ = j.closed.items ++ j.growing ∷ [] in
    let P : List ℕ → Type 0 = HasRecords j.root.log.device.len j.len (records_at j.len places (d.seen device)) in
    started d.moment d.left_since device P (λ f left.
    subst P (sym (q.regions.root.durable f (g.met.D.Device.only_now device f left))) (kept_of j.root.log.device.len j.len j.root.number places (d.seen device) q.regions.small (q.regions.names honest)))

pub returns-then-not-has_room-clause-any_moment : goal.returns-then-not-has_room-clause-any_moment
returns-then-not-has_room-clause-any_moment g c = λ honest.
    let j = c.args.self.now in
    let q = c.requires.journal in
    let d = g.D.Device in
    let device = j.root.log.device.device in
    let places : List ℕ = j.closed.items ++ j.growing ∷ [] in
    let P : List ℕ → Type 0 = HasRecords j.root.log.device.len j.len (records_at j.len places (d.seen device)) in
    started d.moment d.left_since device P (λ f left.
    subst P (sym (q.regions.root.durable f (g.met.D.Device.only_now device f left))) (kept_of j.root.log.device.len j.len j.root.number places (d.seen device) q.regions.small (q.regions.names honest)))

pub returns-in_err-put_in_both-clause-any_moment : goal.returns-in_err-put_in_both-clause-any_moment
returns-in_err-put_in_both-clause-any_moment g c = λ honest.
    let j = c.args.self.now in
    let q = c.requires.journal in
    let d = g.D.Device in
    let device = j.root.log.device.device in
    let blanked = c.clear_outside.new.self.root in
    let mid = blanked.log.device.device in
    let fin = c.put_in_both.new.self.log.device.device in
    let places : List ℕ = j.closed.items ++ j.growing ∷ [] in
    let h = j.root.log.device.len in
    let p = c.args.place in
    let b = c.in_ok-clear_outside.ensures in
    let honest_mid = c.put_in_both.ensures.honest honest in
    let names = q.regions.names (c.clear_outside.ensures.changes.honest honest_mid) in
    let P : List ℕ → Type 0 = HasRecords h j.len (records_at j.len places (d.seen device)) in
    let text_is : c.deref-3.result.now ≡ regions_text c.torn_writes-torn.result (places ++ p ∷ []) = c.deref-3.ensures.value ∙ c.in_ok-closed.ensures.text ∙ ap (λ (xs : List ℕ). regions_text c.torn_writes-torn.result ((xs ++ j.growing ∷ []) ++ p ∷ [])) c.deref.ensures.value in
    let first : LeavesOnly d.moment d.left_since device mid P = c.clear_outside.ensures.any_moment honest_mid in
    let second : LeavesOnly d.moment d.left_since mid fin P = weakened d.moment d.left_since mid fin _ P (c.put_in_both.ensures.any_moment honest) (λ f either.
    while_named h j.len j.root.number p places (d.seen device) (d.seen mid) q.regions.small c.requires.free.small q.regions.behind c.requires.free.behind c.requires.free.apart names b.changes.beside b.zeros either.0 f
    (subst (λ (k : ℕ). IsOldOrNew k (d.seen mid) (numbered either.0 (regions_text c.torn_writes-torn.result (places ++ p ∷ []))) f) b.changes.half
    (subst (λ (text : List ℕ). IsOldOrNew blanked.log.device.len (d.seen mid) (numbered either.0 text) f) text_is either.2))) in
    runs_on d.moment d.left_since device mid fin P first second

pub returns-clause-any_moment : goal.returns-clause-any_moment
returns-clause-any_moment g c = λ honest.
    let j = c.args.self.now in
    let q = c.requires.journal in
    let d = g.D.Device in
    let device = j.root.log.device.device in
    let blanked = c.clear_outside.new.self.root in
    let mid = blanked.log.device.device in
    let fin = c.put_in_both.new.self.log.device.device in
    let places : List ℕ = j.closed.items ++ j.growing ∷ [] in
    let h = j.root.log.device.len in
    let p = c.args.place in
    let b = c.in_ok-clear_outside.ensures in
    let honest_mid = c.put_in_both.ensures.honest honest in
    let names = q.regions.names (c.clear_outside.ensures.changes.honest honest_mid) in
    let P : List ℕ → Type 0 = HasRecords h j.len (records_at j.len places (d.seen device)) in
    let text_is : c.deref-3.result.now ≡ regions_text c.torn_writes-torn.result (places ++ p ∷ []) = c.deref-3.ensures.value ∙ c.in_ok-closed.ensures.text ∙ ap (λ (xs : List ℕ). regions_text c.torn_writes-torn.result ((xs ++ j.growing ∷ []) ++ p ∷ [])) c.deref.ensures.value in
    let first : LeavesOnly d.moment d.left_since device mid P = c.clear_outside.ensures.any_moment honest_mid in
    let second : LeavesOnly d.moment d.left_since mid fin P = weakened d.moment d.left_since mid fin _ P (c.put_in_both.ensures.any_moment honest) (λ f either.
    while_named h j.len j.root.number p places (d.seen device) (d.seen mid) q.regions.small c.requires.free.small q.regions.behind c.requires.free.behind c.requires.free.apart names b.changes.beside b.zeros either.0 f
    (subst (λ (k : ℕ). IsOldOrNew k (d.seen mid) (numbered either.0 (regions_text c.torn_writes-torn.result (places ++ p ∷ []))) f) b.changes.half
    (subst (λ (text : List ℕ). IsOldOrNew blanked.log.device.len (d.seen mid) (numbered either.0 text) f) text_is either.2))) in
    runs_on d.moment d.left_since device mid fin P first second

pub returns-clause-records : goal.returns-clause-records
returns-clause-records g c =
    let j = c.args.self.now in
    let q = c.requires.journal in
    let d = g.D.Device in
    let b = c.in_ok-clear_outside.ensures in
    let h = j.root.log.device.len in
    let p = c.args.place in
    let places : List ℕ = j.closed.items ++ j.growing ∷ [] in
    let old = d.seen j.root.log.device.device in
    let mid = d.seen c.clear_outside.new.self.root.log.device.device in
    let fin = d.seen c.put_in_both.new.self.log.device.device in
    let closed_is : c.in_ok-closed.closed.items ≡ places = c.in_ok-closed.ensures.closed ∙ ap (λ (xs : List ℕ). xs ++ j.growing ∷ []) c.deref.ensures.value in
    let behind : drop (h + h) fin ≡ drop (h + h) mid = subst (λ (k : ℕ). drop (k + k) fin ≡ drop (k + k) mid) b.changes.half c.in_ok-put_in_both.ensures.behind in
    (λ i. records_at (b.changes.len i) (closed_is i ++ p ∷ []) fin)
    ∙ records_kept h j.len p places old mid fin q.regions.behind c.requires.free.behind c.requires.free.apart b.changes.beside b.zeros behind

pub returns-clause-journal : goal.returns-clause-journal
returns-clause-journal g c =
    let j = c.args.self.now in
    let q = c.requires.journal in
    let d = g.D.Device in
    let b = c.in_ok-clear_outside.ensures in
    let put = c.in_ok-put_in_both.ensures in
    let h = j.root.log.device.len in
    let p = c.args.place in
    let n = j.len in
    let places : List ℕ = j.closed.items ++ j.growing ∷ [] in
    let all : List ℕ = places ++ p ∷ [] in
    let blanked = c.clear_outside.new.self.root in
    let new = c.put_in_both.new.self in
    let old = d.seen j.root.log.device.device in
    let mid = d.seen blanked.log.device.device in
    let fin = d.seen new.log.device.device in
    let closed_is : c.in_ok-closed.closed.items ≡ places = c.in_ok-closed.ensures.closed ∙ ap (λ (xs : List ℕ). xs ++ j.growing ∷ []) c.deref.ensures.value in
    let text_is : c.deref-3.result.now ≡ regions_text c.torn_writes-torn.result all = c.deref-3.ensures.value ∙ c.in_ok-closed.ensures.text ∙ ap (λ (xs : List ℕ). regions_text c.torn_writes-torn.result ((xs ++ j.growing ∷ []) ++ p ∷ [])) c.deref.ensures.value in
    let half_is : new.log.device.len ≡ h = put.half ∙ b.changes.half in
    let behind : drop (h + h) fin ≡ drop (h + h) mid = subst (λ (k : ℕ). drop (k + k) fin ≡ drop (k + k) mid) b.changes.half put.behind in
    let long : length fin ≡ length old = omega (arith, ap length behind, length-drop (h + h) fin, length-drop (h + h) mid, b.changes.length, q.regions.root.room, put.root.room, half_is) in
    let zeros : part p n fin ≡ replicate n 0 = part_same h n mid fin behind p c.requires.free.behind ∙ b.zeros in
    let len_is : c.clear_outside.new.self.len ≡ n = b.changes.len in
    record {
      regions = record {
        root = put.root;
        behind = subst (λ (xs : List ℕ). Each (λ a. new.log.device.len + new.log.device.len ≤ a) (xs ++ p ∷ [])) (sym closed_is)
            (each_so (λ a. h + h ≤ a) (λ a. new.log.device.len + new.log.device.len ≤ a) (λ a low. subst (λ (m : ℕ). m + m ≤ a) (sym half_is) low) all (each_more (λ a. h + h ≤ a) places p q.regions.behind c.requires.free.behind));
        within = subst (λ (k : ℕ). Each (λ a. a + k ≤ length fin) (c.in_ok-closed.closed.items ++ p ∷ [])) (sym len_is) (subst (λ (xs : List ℕ). Each (λ a. a + n ≤ length fin) (xs ++ p ∷ [])) (sym closed_is)
            (each_so (λ a. a + n ≤ length old) (λ a. a + n ≤ length fin) (λ a low. subst (λ (m : ℕ). a + n ≤ m) (sym long) low) all (each_more (λ a. a + n ≤ length old) places p q.regions.within c.requires.free.within)));
        apart = subst (λ (k : ℕ). Each (λ a. AreApart k a p) c.in_ok-closed.closed.items) (sym len_is) (subst (λ (xs : List ℕ). Each (λ a. AreApart n a p) xs) (sym closed_is) c.requires.free.apart);
        small = subst (λ (xs : List ℕ). Each (λ a. a < NUMBER_LIMIT) (xs ++ p ∷ [])) (sym closed_is) (each_more (λ a. a < NUMBER_LIMIT) places p q.regions.small c.requires.free.small);
        names = λ honest.
            put.text honest ∙ ap (λ (text : List ℕ). Some (numbered new.number text)) text_is
            ∙ (λ i. Some (numbered new.number (regions_text c.torn_writes-torn.result (sym closed_is i ++ p ∷ []))));
      };
      log = blank_log c.clear_outside.new.self.len (part p c.clear_outside.new.self.len fin) (subst (λ (k : ℕ). part p k fin ≡ replicate k 0) (sym len_is) zeros);
    }

pub returns-in_err-closed-clause-intact : goal.returns-in_err-closed-clause-intact
returns-in_err-closed-clause-intact g c = rests_intact c.args.self.now (λ f. g.met.D.Device.only_now c.args.self.now.root.log.device.device f) c.requires.journal.regions

pub returns-then-not-has_room-clause-intact : goal.returns-then-not-has_room-clause-intact
returns-then-not-has_room-clause-intact g c = rests_intact c.args.self.now (λ f. g.met.D.Device.only_now c.args.self.now.root.log.device.device f) c.requires.journal.regions

pub returns-in_err-put_in_both-clause-intact : goal.returns-in_err-put_in_both-clause-intact
returns-in_err-put_in_both-clause-intact g c = λ now i.
    let j = c.args.self.now in
    let q = c.requires.journal.regions in
    let free = c.requires.free in
    let d = g.D.Device in
    let device = j.root.log.device.device in
    let blanked = c.clear_outside.new.self.root in
    let mid = blanked.log.device.device in
    let fin = c.put_in_both.new.self.log.device.device in
    let places : List ℕ = j.closed.items ++ j.growing ∷ [] in
    let h = j.root.log.device.len in
    let p = c.args.place in
    let b = c.in_ok-clear_outside.ensures in
    let honest_mid = c.put_in_both.ensures.honest now in
    let at = intact_at j q (b.changes.honest honest_mid) i in
    let text_is : c.deref-3.result.now ≡ regions_text c.torn_writes-torn.result (places ++ p ∷ []) = c.deref-3.ensures.value ∙ c.in_ok-closed.ensures.text ∙ ap (λ (xs : List ℕ). regions_text c.torn_writes-torn.result ((xs ++ j.growing ∷ []) ++ p ∷ [])) c.deref.ensures.value in
    let named : (f : List ℕ) → IsOldOrPut blanked.log.device.len (d.seen mid) c.deref-3.result.now f → IsIntact h j.len f = λ f either.
    with_next h j.len j.root.number j.closed.items j.growing (d.seen device) at p free.behind free.small free.within free.apart (d.seen mid) b.changes.beside (sound_blank j.len _ b.zeros) (λ t. log_any t _ 0 (blank_log j.len _ b.zeros)) (log_closed (part j.growing j.len (d.seen device)) j.end c.requires.journal.log) c.torn_writes-torn.result either.0 either.1 f
    (subst (λ (k : ℕ). IsOldOrNew k (d.seen mid) (numbered either.0 (regions_text c.torn_writes-torn.result (places ++ p ∷ []))) f) b.changes.half
    (subst (λ (text : List ℕ). IsOldOrNew blanked.log.device.len (d.seen mid) (numbered either.0 text) f) text_is either.2)) in
    let P : List ℕ → Type 0 = IsIntact h j.len in
    runs_on d.moment d.left_since device mid fin P (c.clear_outside.ensures.intact honest_mid i) (weakened d.moment d.left_since mid fin _ P (c.put_in_both.ensures.any_moment now) named)

pub returns-clause-intact : goal.returns-clause-intact
returns-clause-intact g c = λ now i.
    let j = c.args.self.now in
    let q = c.requires.journal.regions in
    let free = c.requires.free in
    let d = g.D.Device in
    let device = j.root.log.device.device in
    let blanked = c.clear_outside.new.self.root in
    let mid = blanked.log.device.device in
    let fin = c.put_in_both.new.self.log.device.device in
    let places : List ℕ = j.closed.items ++ j.growing ∷ [] in
    let h = j.root.log.device.len in
    let p = c.args.place in
    let b = c.in_ok-clear_outside.ensures in
    let honest_mid = c.put_in_both.ensures.honest now in
    let at = intact_at j q (b.changes.honest honest_mid) i in
    let text_is : c.deref-3.result.now ≡ regions_text c.torn_writes-torn.result (places ++ p ∷ []) = c.deref-3.ensures.value ∙ c.in_ok-closed.ensures.text ∙ ap (λ (xs : List ℕ). regions_text c.torn_writes-torn.result ((xs ++ j.growing ∷ []) ++ p ∷ [])) c.deref.ensures.value in
    let named : (f : List ℕ) → IsOldOrPut blanked.log.device.len (d.seen mid) c.deref-3.result.now f → IsIntact h j.len f = λ f either.
    with_next h j.len j.root.number j.closed.items j.growing (d.seen device) at p free.behind free.small free.within free.apart (d.seen mid) b.changes.beside (sound_blank j.len _ b.zeros) (λ t. log_any t _ 0 (blank_log j.len _ b.zeros)) (log_closed (part j.growing j.len (d.seen device)) j.end c.requires.journal.log) c.torn_writes-torn.result either.0 either.1 f
    (subst (λ (k : ℕ). IsOldOrNew k (d.seen mid) (numbered either.0 (regions_text c.torn_writes-torn.result (places ++ p ∷ []))) f) b.changes.half
    (subst (λ (text : List ℕ). IsOldOrNew blanked.log.device.len (d.seen mid) (numbered either.0 text) f) text_is either.2)) in
    let P : List ℕ → Type 0 = IsIntact h j.len in
    runs_on d.moment d.left_since device mid fin P (c.clear_outside.ensures.intact honest_mid i) (weakened d.moment d.left_since mid fin _ P (c.put_in_both.ensures.any_moment now) named)

pub returns-clause-stays : goal.returns-clause-stays
returns-clause-stays g c = λ now i.
    let j = c.args.self.now in
    let q = c.requires.journal.regions in
    let free = c.requires.free in
    let d = g.D.Device in
    let device = j.root.log.device.device in
    let blanked = c.clear_outside.new.self.root in
    let mid = blanked.log.device.device in
    let fin = c.put_in_both.new.self.log.device.device in
    let places : List ℕ = j.closed.items ++ j.growing ∷ [] in
    let h = j.root.log.device.len in
    let p = c.args.place in
    let b = c.in_ok-clear_outside.ensures in
    let honest_mid = c.put_in_both.ensures.honest now in
    let at = intact_at j q (b.changes.honest honest_mid) i in
    let text_is : c.deref-3.result.now ≡ regions_text c.torn_writes-torn.result (places ++ p ∷ []) = c.deref-3.ensures.value ∙ c.in_ok-closed.ensures.text ∙ ap (λ (xs : List ℕ). regions_text c.torn_writes-torn.result ((xs ++ j.growing ∷ []) ++ p ∷ [])) c.deref.ensures.value in
    let named : (f : List ℕ) → IsOldOrPut blanked.log.device.len (d.seen mid) c.deref-3.result.now f → IsIntact h j.len f = λ f either.
    with_next h j.len j.root.number j.closed.items j.growing (d.seen device) at p free.behind free.small free.within free.apart (d.seen mid) b.changes.beside (sound_blank j.len _ b.zeros) (λ t. log_any t _ 0 (blank_log j.len _ b.zeros)) (log_closed (part j.growing j.len (d.seen device)) j.end c.requires.journal.log) c.torn_writes-torn.result either.0 either.1 f
    (subst (λ (k : ℕ). IsOldOrNew k (d.seen mid) (numbered either.0 (regions_text c.torn_writes-torn.result (places ++ p ∷ []))) f) b.changes.half
    (subst (λ (text : List ℕ). IsOldOrNew blanked.log.device.len (d.seen mid) (numbered either.0 text) f) text_is either.2)) in
    named (d.seen fin) (c.in_ok-put_in_both.ensures.shown now)
