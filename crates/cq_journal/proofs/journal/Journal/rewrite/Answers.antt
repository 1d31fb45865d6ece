-- The root names the base's regions in place of all others.
use Rattle.std.proofs.Common.{◌≡◌, inl, ℕ, ◌+◌, ◌<◌, ◌≤◌, List, [], ◌∷◌, ◌++◌, length, sym, ◌∙◌, ap, subst, arith, length-drop, length-append}
use Rattle.std.specs.Prelude.{Some}
use Rattle.cq_disk.proofs.Moments.{weakened, started}
use Rattle.cq_records.specs.Frames.{is_plain}
use Rattle.cq_records.specs.Layout.{IsLog}
use Rattle.cq_journal.specs.declared.number.TheConstants.{NUMBER_LIMIT}
use Rattle.cq_journal.specs.Base.{base_places, HasEitherRecords}
use Rattle.cq_journal.specs.Regions.{Each, AreApart, regions_text, records_at}
use Rattle.cq_journal.specs.Roots.{numbered, IsOldOrNew, IsOldOrPut}
use Rattle.cq_journal.proofs.Bases.{while_rewritten, transposed, apart_back, each_both}
use Rattle.cq_journal.proofs.Moves.{log_any}
use Rattle.cq_journal.proofs.Regions.{each_left, each_so, kept_of, last_of, plain_text, part_same, places_long, records_same}
use Rattle.cq_journal.specs.Intact.{IsIntact}
use Rattle.cq_journal.proofs.Intact.{rests_intact, intact_at, named_intact}
use Rattle.cq_journal.proofs.journal.Journal.rewrite.Goals as goal

pub text_of-requires-clause-closed : goal.text_of-requires-clause-closed
text_of-requires-clause-closed g c =
    subst (λ (xs : List ℕ). Each (λ n. n < NUMBER_LIMIT) xs) (sym c.deref.ensures.value) (each_left (λ n. n < NUMBER_LIMIT) c.args.base.closed.items c.args.base.growing c.requires.base.small)

pub text_of-requires-clause-growing : goal.text_of-requires-clause-growing
text_of-requires-clause-growing g c = last_of (λ n. n < NUMBER_LIMIT) c.args.base.closed.items c.args.base.growing c.requires.base.small

pub put_in_both-requires-clause-text : goal.put_in_both-requires-clause-text
put_in_both-requires-clause-text g c = ap is_plain (c.deref-3.ensures.value ∙ c.in_ok-text.ensures) ∙ plain_text c.torn_writes-torn.result (c.deref.result.now ++ c.args.base.growing ∷ [])

pub put_in_both-requires-clause-short : goal.put_in_both-requires-clause-short
put_in_both-requires-clause-short g c =
    let b = c.args.base in
    let all : List ℕ = c.deref.result.now ++ b.growing ∷ [] in
    omega (arith, ap length (c.deref-3.ensures.value ∙ c.in_ok-text.ensures), places_long all, length-append c.deref.result.now (b.growing ∷ []), ap length c.deref.ensures.value, length-append b.closed.items (b.growing ∷ []), c.requires.base.few)

pub returns-in_err-text-clause-any_moment : goal.returns-in_err-text-clause-any_moment
returns-in_err-text-clause-any_moment g c = λ honest.
    let j = c.args.self.now in
    let q = c.requires.journal in
    let d = g.D.Device in
    let device = j.root.log.device.device in
    let places : List ℕ = j.closed.items ++ j.growing ∷ [] in
    let P : List ℕ → Type 0 = HasEitherRecords j.root.log.device.len j.len (records_at j.len places (d.seen device)) (records_at j.len (base_places c.args.base) (d.seen device)) in
    started d.moment d.left_since device P (λ f left.
    subst P (sym (q.regions.root.durable f (g.met.D.Device.only_now device f left))) (inl (kept_of j.root.log.device.len j.len j.root.number places (d.seen device) q.regions.small (q.regions.names honest))))

pub returns-then-not-has_room-clause-any_moment : goal.returns-then-not-has_room-clause-any_moment
returns-then-not-has_room-clause-any_moment g c = λ honest.
    let j = c.args.self.now in
    let q = c.requires.journal in
    let d = g.D.Device in
    let device = j.root.log.device.device in
    let places : List ℕ = j.closed.items ++ j.growing ∷ [] in
    let P : List ℕ → Type 0 = HasEitherRecords j.root.log.device.len j.len (records_at j.len places (d.seen device)) (records_at j.len (base_places c.args.base) (d.seen device)) in
    started d.moment d.left_since device P (λ f left.
    subst P (sym (q.regions.root.durable f (g.met.D.Device.only_now device f left))) (inl (kept_of j.root.log.device.len j.len j.root.number places (d.seen device) q.regions.small (q.regions.names honest))))

pub returns-in_err-put_in_both-clause-any_moment : goal.returns-in_err-put_in_both-clause-any_moment
returns-in_err-put_in_both-clause-any_moment g c = λ honest.
    let j = c.args.self.now in
    let b = c.args.base in
    let q = c.requires.journal.regions in
    let d = g.D.Device in
    let h = j.root.log.device.len in
    let n = j.root.number in
    let device = j.root.log.device.device in
    let old = d.seen device in
    let ns : List ℕ = j.closed.items ++ j.growing ∷ [] in
    let bs : List ℕ = base_places b in
    let text_is : c.deref-3.result.now ≡ regions_text c.torn_writes-torn.result bs = c.deref-3.ensures.value ∙ c.in_ok-text.ensures ∙ ap (λ (xs : List ℕ). regions_text c.torn_writes-torn.result (xs ++ b.growing ∷ [])) c.deref.ensures.value in
    weakened d.moment d.left_since device c.put_in_both.new.self.log.device.device _ (HasEitherRecords h j.len (records_at j.len ns old) (records_at j.len bs old)) (c.put_in_both.ensures.any_moment honest) (λ f either.
    while_rewritten h j.len n either.0 ns bs old q.small c.requires.base.small q.behind c.requires.base.behind (q.names (c.put_in_both.ensures.honest honest)) f
    (subst (λ (text : List ℕ). IsOldOrNew h old (numbered either.0 text) f) text_is either.2))

pub returns-clause-any_moment : goal.returns-clause-any_moment
returns-clause-any_moment g c = λ honest.
    let j = c.args.self.now in
    let b = c.args.base in
    let q = c.requires.journal.regions in
    let d = g.D.Device in
    let h = j.root.log.device.len in
    let n = j.root.number in
    let device = j.root.log.device.device in
    let old = d.seen device in
    let ns : List ℕ = j.closed.items ++ j.growing ∷ [] in
    let bs : List ℕ = base_places b in
    let text_is : c.deref-3.result.now ≡ regions_text c.torn_writes-torn.result bs = c.deref-3.ensures.value ∙ c.in_ok-text.ensures ∙ ap (λ (xs : List ℕ). regions_text c.torn_writes-torn.result (xs ++ b.growing ∷ [])) c.deref.ensures.value in
    weakened d.moment d.left_since device c.put_in_both.new.self.log.device.device _ (HasEitherRecords h j.len (records_at j.len ns old) (records_at j.len bs old)) (c.put_in_both.ensures.any_moment honest) (λ f either.
    while_rewritten h j.len n either.0 ns bs old q.small c.requires.base.small q.behind c.requires.base.behind (q.names (c.put_in_both.ensures.honest honest)) f
    (subst (λ (text : List ℕ). IsOldOrNew h old (numbered either.0 text) f) text_is either.2))

pub returns-clause-rewritten : goal.returns-clause-rewritten
returns-clause-rewritten g c =
    let j = c.args.self.now in
    records_same j.root.log.device.len j.len (g.D.Device.seen j.root.log.device.device) (g.D.Device.seen c.put_in_both.new.self.log.device.device) c.in_ok-put_in_both.ensures.behind (base_places c.args.base) c.requires.base.behind

pub returns-clause-journal : goal.returns-clause-journal
returns-clause-journal g c =
    let j = c.args.self.now in
    let b = c.args.base in
    let q = c.requires.journal.regions in
    let base = c.requires.base in
    let d = g.D.Device in
    let put = c.in_ok-put_in_both.ensures in
    let h = j.root.log.device.len in
    let n = j.len in
    let bs : List ℕ = base_places b in
    let new = c.put_in_both.new.self in
    let old = d.seen j.root.log.device.device in
    let fin = d.seen new.log.device.device in
    let text_is : c.deref-3.result.now ≡ regions_text c.torn_writes-torn.result bs = c.deref-3.ensures.value ∙ c.in_ok-text.ensures ∙ ap (λ (xs : List ℕ). regions_text c.torn_writes-torn.result (xs ++ b.growing ∷ [])) c.deref.ensures.value in
    let long : length fin ≡ length old = omega (arith, ap length put.behind, length-drop (h + h) fin, length-drop (h + h) old, q.root.room, put.root.room, put.half) in
    record {
      regions = record {
        root = put.root;
        behind = each_so (λ a. h + h ≤ a) (λ a. new.log.device.len + new.log.device.len ≤ a) (λ a low. subst (λ (m : ℕ). m + m ≤ a) (sym put.half) low) bs base.behind;
        within = each_so (λ a. a + n ≤ length old) (λ a. a + n ≤ length fin) (λ a low. subst (λ (m : ℕ). a + n ≤ m) (sym long) low) bs base.within;
        apart = base.alone;
        small = base.small;
        names = λ honest.
            put.text honest ∙ ap (λ (text : List ℕ). Some (numbered new.number text)) text_is;
      };
      log = subst (λ (bytes : List ℕ). IsLog bytes b.end) (sym (part_same h n old fin put.behind b.growing (last_of (λ a. h + h ≤ a) b.closed.items b.growing base.behind))) base.log;
    }

pub returns-clause-freed : goal.returns-clause-freed
returns-clause-freed g c =
    let j = c.args.self.now in
    let b = c.args.base in
    let q = c.requires.journal.regions in
    let base = c.requires.base in
    let d = g.D.Device in
    let put = c.in_ok-put_in_both.ensures in
    let h = j.root.log.device.len in
    let n = j.len in
    let ns : List ℕ = j.closed.items ++ j.growing ∷ [] in
    let bs : List ℕ = base_places b in
    let new = c.put_in_both.new.self in
    let old = d.seen j.root.log.device.device in
    let fin = d.seen new.log.device.device in
    let long : length fin ≡ length old = omega (arith, ap length put.behind, length-drop (h + h) fin, length-drop (h + h) old, q.root.room, put.root.room, put.half) in
    let Low : ℕ → Type 0 = λ a. h + h ≤ a in
    let In : ℕ → Type 0 = λ a. a + n ≤ length old in
    let Small : ℕ → Type 0 = λ a. a < NUMBER_LIMIT in
    let Apart : ℕ → Type 0 = λ a. Each (λ m. AreApart n a m) bs in
    let all = each_both Low (λ a. In a × (Small a × Apart a)) ns q.behind (each_both In (λ a. Small a × Apart a) ns q.within (each_both Small Apart ns q.small (transposed (λ a m. AreApart n a m) ns bs base.apart))) in
    each_so (λ a. Low a × (In a × (Small a × Apart a))) _ (λ a facts. record {
      behind = subst (λ (m : ℕ). m + m ≤ a) (sym put.half) facts.0;
      within = subst (λ (m : ℕ). a + n ≤ m) (sym long) facts.1.0;
      small = facts.1.1.0;
      apart = each_so (λ m. AreApart n a m) (λ m. AreApart n m a) (λ m. apart_back n a m) bs facts.1.1.1;
      few = base.few;
    }) ns all

pub returns-in_err-text-clause-intact : goal.returns-in_err-text-clause-intact
returns-in_err-text-clause-intact g c = rests_intact c.args.self.now (λ f. g.met.D.Device.only_now c.args.self.now.root.log.device.device f) c.requires.journal.regions

pub returns-then-not-has_room-clause-intact : goal.returns-then-not-has_room-clause-intact
returns-then-not-has_room-clause-intact g c = rests_intact c.args.self.now (λ f. g.met.D.Device.only_now c.args.self.now.root.log.device.device f) c.requires.journal.regions

pub returns-in_err-put_in_both-clause-intact : goal.returns-in_err-put_in_both-clause-intact
returns-in_err-put_in_both-clause-intact g c = λ now i.
    let j = c.args.self.now in
    let b = c.args.base in
    let q = c.requires.journal.regions in
    let base = c.requires.base in
    let d = g.D.Device in
    let h = j.root.log.device.len in
    let n = j.root.number in
    let device = j.root.log.device.device in
    let old = d.seen device in
    let bs : List ℕ = base_places b in
    let at = intact_at j q (c.put_in_both.ensures.honest now) i in
    let text_is : c.deref-3.result.now ≡ regions_text c.torn_writes-torn.result bs = c.deref-3.ensures.value ∙ c.in_ok-text.ensures ∙ ap (λ (xs : List ℕ). regions_text c.torn_writes-torn.result (xs ++ b.growing ∷ [])) c.deref.ensures.value in
    let named : (f : List ℕ) → IsOldOrPut h old c.deref-3.result.now f → IsIntact h j.len f = λ f either.
    named_intact h j.len n j.closed.items j.growing old at c.torn_writes-torn.result either.0 b.closed.items b.growing either.1 base.small base.behind base.within base.alone base.sound base.closed_logs (log_any c.torn_writes-torn.result _ _ base.log) f
    (subst (λ (text : List ℕ). IsOldOrNew h old (numbered either.0 text) f) text_is either.2) in
    weakened d.moment d.left_since device c.put_in_both.new.self.log.device.device _ (IsIntact h j.len) (c.put_in_both.ensures.any_moment now) named

pub returns-clause-intact : goal.returns-clause-intact
returns-clause-intact g c = λ now i.
    let j = c.args.self.now in
    let b = c.args.base in
    let q = c.requires.journal.regions in
    let base = c.requires.base in
    let d = g.D.Device in
    let h = j.root.log.device.len in
    let n = j.root.number in
    let device = j.root.log.device.device in
    let old = d.seen device in
    let bs : List ℕ = base_places b in
    let at = intact_at j q (c.put_in_both.ensures.honest now) i in
    let text_is : c.deref-3.result.now ≡ regions_text c.torn_writes-torn.result bs = c.deref-3.ensures.value ∙ c.in_ok-text.ensures ∙ ap (λ (xs : List ℕ). regions_text c.torn_writes-torn.result (xs ++ b.growing ∷ [])) c.deref.ensures.value in
    let named : (f : List ℕ) → IsOldOrPut h old c.deref-3.result.now f → IsIntact h j.len f = λ f either.
    named_intact h j.len n j.closed.items j.growing old at c.torn_writes-torn.result either.0 b.closed.items b.growing either.1 base.small base.behind base.within base.alone base.sound base.closed_logs (log_any c.torn_writes-torn.result _ _ base.log) f
    (subst (λ (text : List ℕ). IsOldOrNew h old (numbered either.0 text) f) text_is either.2) in
    weakened d.moment d.left_since device c.put_in_both.new.self.log.device.device _ (IsIntact h j.len) (c.put_in_both.ensures.any_moment now) named

pub returns-clause-stays : goal.returns-clause-stays
returns-clause-stays g c = λ now i.
    let j = c.args.self.now in
    let b = c.args.base in
    let q = c.requires.journal.regions in
    let base = c.requires.base in
    let d = g.D.Device in
    let h = j.root.log.device.len in
    let n = j.root.number in
    let device = j.root.log.device.device in
    let old = d.seen device in
    let bs : List ℕ = base_places b in
    let at = intact_at j q (c.put_in_both.ensures.honest now) i in
    let text_is : c.deref-3.result.now ≡ regions_text c.torn_writes-torn.result bs = c.deref-3.ensures.value ∙ c.in_ok-text.ensures ∙ ap (λ (xs : List ℕ). regions_text c.torn_writes-torn.result (xs ++ b.growing ∷ [])) c.deref.ensures.value in
    let named : (f : List ℕ) → IsOldOrPut h old c.deref-3.result.now f → IsIntact h j.len f = λ f either.
    named_intact h j.len n j.closed.items j.growing old at c.torn_writes-torn.result either.0 b.closed.items b.growing either.1 base.small base.behind base.within base.alone base.sound base.closed_logs (log_any c.torn_writes-torn.result _ _ base.log) f
    (subst (λ (text : List ℕ). IsOldOrNew h old (numbered either.0 text) f) text_is either.2) in
    named (d.seen c.put_in_both.new.self.log.device.device) (c.in_ok-put_in_both.ensures.shown now)
