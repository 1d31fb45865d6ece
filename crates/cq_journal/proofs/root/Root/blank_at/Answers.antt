-- A region behind the root is blanked.
use Rattle.std.proofs.Common.{◌≡◌, ⊎_elim, ℕ, ◌+◌, ◌-◌, ◌<◌, ◌≤◌, List, length, drop, replicate, refl, sym, ◌∙◌, ap, subst, arith, length-drop, length-take}
use Rattle.std.specs.Prelude.{Result, Ok, Err, OnOk}
use Rattle.cq_disk.specs.Region.{part, Beside}
use Rattle.cq_disk.proofs.Parts.{whole_again}
use Rattle.cq_disk.proofs.Moments.{weakened}
use Rattle.cq_records.specs.Frames.{records}
use Rattle.cq_journal.specs.Roots.{first_of, number_in, half_of}
use Rattle.cq_journal.proofs.Regions.{part_before, still_long}
use Rattle.cq_journal.proofs.root.Root.blank_at.Goals as goal

on_ok : {T E P Q : Type 0} (r : Result T E) → OnOk r P → (P → Q) → OnOk r Q
on_ok (Ok x) p step = step p
on_ok (Err e) p step = tt

pub returns-clause-root : goal.returns-clause-root
returns-clause-root g c =
    let r = c.args.self.now in
    let q = c.requires.root in
    let k = c.blank-done.ensures.keeps in
    let new = c.blank-done.new.device in
    let p = c.args.place in
    let n = c.args.len in
    let h = r.log.device.len in
    let s = r.log.device.start in
    let old_bytes = g.D.Device.seen r.log.device.device in
    let new_bytes = g.D.Device.seen new.device in
    let low : s + h ≤ p = ⊎_elim (λ (is : s ≡ 0). omega (arith, is, c.requires.behind)) (λ (is : s ≡ h). omega (arith, is, c.requires.behind)) q.place in
    let other_low : h - s + h ≤ p = omega (arith, c.requires.behind) in
    let same : half_of s h new_bytes ≡ half_of s h old_bytes = ap (λ (xs : List ℕ). first_of (records xs)) (part_before s h p n old_bytes new_bytes low k.shown) in
    let other_same : half_of (h - s) h new_bytes ≡ half_of (h - s) h old_bytes = ap (λ (xs : List ℕ). first_of (records xs)) (part_before (h - s) h p n old_bytes new_bytes other_low k.shown) in
    on_ok c.blank-done.result c.blank-done.ensures.durable (λ only. record {
      place = q.place;
      room = still_long (h + h) p old_bytes new_bytes k.shown.before c.requires.behind (omega (arith, c.requires.within));
      current = λ honest. ap number_in same ∙ q.current (c.blank-done.ensures.honest honest);
      other = λ honest. subst (λ (o : _). number_in o < r.number) (sym other_same) (q.other (c.blank-done.ensures.honest honest));
      durable = λ f left.
          let was = k.now f left in
          let from_old : Beside p n old_bytes f = subst (λ (d : List ℕ). Beside p n d f) (q.durable was.0 was.1) was.2 in
          let from_new : Beside p n new_bytes f = record { before = from_old.before ∙ sym k.shown.before; behind = from_old.behind ∙ sym k.shown.behind; long = from_old.long ∙ sym k.shown.long } in
          let at : (x : List ℕ) → part new.start new.len x ≡ part p n x = λ x i. part (k.same_start i) (k.same_len i) x in
          whole_again p n new_bytes f from_new (sym (at f) ∙ only (part new.start new.len f) (f, left, refl) ∙ at new_bytes);
    })

pub returns-clause-zeros : goal.returns-clause-zeros
returns-clause-zeros g c =
    let k = c.blank-done.ensures.keeps in
    let new = c.blank-done.new.device in
    let p = c.args.place in
    let n = c.args.len in
    let old_bytes = g.D.Device.seen c.args.self.now.log.device.device in
    let long : length (part p n old_bytes) ≡ n = omega (arith, length-take n (drop p old_bytes), length-drop p old_bytes, c.requires.within) in
    on_ok c.blank-done.result c.blank-done.ensures.zeros (λ zeros.
    sym (λ i. part (k.same_start i) (k.same_len i) (g.D.Device.seen new.device)) ∙ zeros ∙ ap (λ (m : ℕ). replicate m 0) long)

pub returns-clause-length : goal.returns-clause-length
returns-clause-length g c =
    let k = c.blank-done.ensures.keeps in
    let new = c.blank-done.new.device in
    let far = c.args.place + c.args.len in
    let old_bytes = g.D.Device.seen c.args.self.now.log.device.device in
    let new_bytes = g.D.Device.seen new.device in
    omega (arith, ap length k.shown.behind, length-drop far new_bytes, length-drop far old_bytes, c.requires.within, new.within, k.same_start, k.same_len)

pub returns-clause-any_moment : goal.returns-clause-any_moment
returns-clause-any_moment g c =
    let r = c.args.self.now in
    let k = c.blank-done.ensures.keeps in
    let new = c.blank-done.new.device in
    let old_bytes = g.D.Device.seen r.log.device.device in
    weakened g.D.Device.moment g.D.Device.left_since r.log.device.device new.device _ _ k.moments (λ f was.
    subst (λ (d : List ℕ). Beside c.args.place c.args.len d f) (c.requires.root.durable was.0 was.1) was.2)

pub returns-clause-halves : goal.returns-clause-halves
returns-clause-halves g c =
    let r = c.args.self.now in
    let q = c.requires.root in
    let k = c.blank-done.ensures.keeps in
    let p = c.args.place in
    let n = c.args.len in
    let h = r.log.device.len in
    let s = r.log.device.start in
    let old_bytes = g.D.Device.seen r.log.device.device in
    let new_bytes = g.D.Device.seen c.blank-done.new.device.device in
    let low : s + h ≤ p = ⊎_elim (λ (is : s ≡ 0). omega (arith, is, c.requires.behind)) (λ (is : s ≡ h). omega (arith, is, c.requires.behind)) q.place in
    let other_low : h - s + h ≤ p = omega (arith, c.requires.behind) in
    let same : half_of s h new_bytes ≡ half_of s h old_bytes = ap (λ (xs : List ℕ). first_of (records xs)) (part_before s h p n old_bytes new_bytes low k.shown) in
    let other_same : half_of (h - s) h new_bytes ≡ half_of (h - s) h old_bytes = ap (λ (xs : List ℕ). first_of (records xs)) (part_before (h - s) h p n old_bytes new_bytes other_low k.shown) in
    record {
      place = q.place;
      room = still_long (h + h) p old_bytes new_bytes k.shown.before c.requires.behind (omega (arith, c.requires.within));
      current = λ honest. ap number_in same ∙ q.current (c.blank-done.ensures.honest honest);
      other = λ honest. subst (λ (o : _). number_in o < r.number) (sym other_same) (q.other (c.blank-done.ensures.honest honest));
    }
