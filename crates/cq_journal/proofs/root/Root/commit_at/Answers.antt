-- A commit in a region behind the root.
use Rattle.std.proofs.Common.{◌≡◌, ⊎_elim, ℕ, ◌+◌, ◌-◌, ◌<◌, ◌≤◌, List, length, refl, sym, ◌∙◌, ap, subst, arith, length-drop}
use Rattle.std.specs.Prelude.{Result, Ok, Err, OnOk}
use Rattle.cq_disk.specs.Device.{Only}
use Rattle.cq_disk.specs.Region.{part, Leaves, Beside}
use Rattle.cq_disk.proofs.Parts.{alone, part_same_length, whole_again}
use Rattle.cq_records.specs.Batch.{batch_bytes}
use Rattle.cq_records.specs.Frames.{frames, records}
use Rattle.cq_records.specs.Layout.{IsPrefixOf, IsLog}
use Rattle.cq_journal.specs.Roots.{first_of, number_in, half_of}
use Rattle.cq_journal.proofs.Regions.{part_before, still_long}
use Rattle.cq_journal.proofs.root.Root.commit_at.Goals as goal

on_ok : {T E P Q : Type 0} (r : Result T E) → OnOk r P → (P → Q) → OnOk r Q
on_ok (Ok x) p step = step p
on_ok (Err e) p step = tt

pub returns-clause-root : goal.returns-clause-root
returns-clause-root g c =
    let r = c.args.self.now in
    let q = c.requires.root in
    let k = c.commit-done.ensures.keeps in
    let new = c.commit-done.new.self in
    let p = c.args.place in
    let n = c.args.len in
    let h = r.log.device.len in
    let s = r.log.device.start in
    let old_bytes = g.D.Device.seen r.log.device.device in
    let new_bytes = g.D.Device.seen new.device.device in
    let low : s + h ≤ p = ⊎_elim (λ (is : s ≡ 0). omega (arith, is, c.requires.behind)) (λ (is : s ≡ h). omega (arith, is, c.requires.behind)) q.place in
    let other_low : h - s + h ≤ p = omega (arith, c.requires.behind) in
    let same : half_of s h new_bytes ≡ half_of s h old_bytes = ap (λ (xs : List ℕ). first_of (records xs)) (part_before s h p n old_bytes new_bytes low k.shown) in
    let other_same : half_of (h - s) h new_bytes ≡ half_of (h - s) h old_bytes = ap (λ (xs : List ℕ). first_of (records xs)) (part_before (h - s) h p n old_bytes new_bytes other_low k.shown) in
    on_ok c.commit-done.result c.commit-done.ensures.settled (λ settled. record {
      place = q.place;
      room = still_long (h + h) p old_bytes new_bytes k.shown.before c.requires.behind (omega (arith, c.requires.within));
      current = λ honest. ap number_in same ∙ q.current (sym c.commit-done.ensures.honest ∙ honest);
      other = λ honest. subst (λ (o : _). number_in o < r.number) (sym other_same) (q.other (sym c.commit-done.ensures.honest ∙ honest));
      durable = λ f left.
          let was = k.now f left in
          let from_old : Beside p n old_bytes f = subst (λ (d : List ℕ). Beside p n d f) (q.durable was.0 was.1) was.2 in
          let from_new : Beside p n new_bytes f = record { before = from_old.before ∙ sym k.shown.before; behind = from_old.behind ∙ sym k.shown.behind; long = from_old.long ∙ sym k.shown.long } in
          let at : (x : List ℕ) → part new.device.start new.device.len x ≡ part p n x = λ x i. part (k.same_start i) (k.same_len i) x in
          whole_again p n new_bytes f from_new (sym (at f) ∙ settled.durable (part new.device.start new.device.len f) (f, left, refl) ∙ at new_bytes);
    })

pub returns-clause-log : goal.returns-clause-log
returns-clause-log g c =
    let k = c.commit-done.ensures.keeps in
    let new = c.commit-done.new.self in
    let at : part new.device.start new.device.len (g.D.Device.seen new.device.device) ≡ part c.args.place c.args.len (g.D.Device.seen new.device.device) = λ i. part (k.same_start i) (k.same_len i) (g.D.Device.seen new.device.device) in
    on_ok c.commit-done.result c.commit-done.ensures.settled (λ settled. subst (λ (xs : List ℕ). IsLog xs new.end) at settled.bytes)

pub returns-clause-any_moment : goal.returns-clause-any_moment
returns-clause-any_moment g c =
    let r = c.args.self.now in
    let k = c.commit-done.ensures.keeps in
    let new = c.commit-done.new.self in
    let p = c.args.place in
    let n = c.args.len in
    let before = frames (part p n (g.D.Device.seen r.log.device.device)) in
    let batch = frames (batch_bytes c.args.batch.now) in
    let prefix : (x : List ℕ) → Leaves p n (g.D.Device.left_since new.device.device (g.D.Device.moment r.log.device.device)) x → IsPrefixOf (g.D.Device.torn r.log.device.device) before batch x = λ x left.
    c.commit-done.ensures.any_moment.each x (left.0, left.1, left.2 ∙ sym (λ i. part (k.same_start i) (k.same_len i) left.0)) in
    alone g.D.Device.moment g.D.Device.left_since g.D.Device.may_leave g.D.Device.keeps g.D.Device.seen g.met.D.Device.splits p n _ _
    r.log.device.device new.device.device (IsPrefixOf (g.D.Device.torn r.log.device.device) before batch) k c.requires.root.durable prefix

pub returns-clause-full : goal.returns-clause-full
returns-clause-full g c err =
    let r = c.args.self.now in
    let q = c.requires.root in
    let same = (c.commit-done.ensures.full err).0 in
    let device_is : c.commit-done.new.self.device.device ≡ r.log.device.device = ap (λ l. l.device.device) same in (
      record {
        place = q.place;
        room = subst (λ (d : _). r.log.device.len + r.log.device.len ≤ length (g.D.Device.seen d)) (sym device_is) q.room;
        current = λ honest. subst (λ (d : _). number_in (half_of r.log.device.start r.log.device.len (g.D.Device.seen d)) ≡ r.number) (sym device_is) (q.current (ap g.D.Device.is_honest (sym device_is) ∙ honest));
        other = λ honest. subst (λ (d : _). number_in (half_of (r.log.device.len - r.log.device.start) r.log.device.len (g.D.Device.seen d)) < r.number) (sym device_is) (q.other (ap g.D.Device.is_honest (sym device_is) ∙ honest));
        durable = subst (λ (d : _). Only (g.D.Device.seen d) (g.D.Device.may_leave d)) (sym device_is) q.durable;
      },
      device_is,
      ap (λ l. l.end) same,
      subst (λ (k : ℕ). k < c.args.end + length (batch_bytes c.args.batch.now)) (part_same_length c.args.place c.args.len (g.D.Device.seen r.log.device.device) c.requires.within) (c.commit-done.ensures.full err).1,
    )

pub returns-clause-length : goal.returns-clause-length
returns-clause-length g c =
    let k = c.commit-done.ensures.keeps in
    let new = c.commit-done.new.self in
    let far = c.args.place + c.args.len in
    let old_bytes = g.D.Device.seen c.args.self.now.log.device.device in
    let new_bytes = g.D.Device.seen new.device.device in
    omega (arith, ap length k.shown.behind, length-drop far new_bytes, length-drop far old_bytes, c.requires.within, new.device.within, k.same_start, k.same_len)
