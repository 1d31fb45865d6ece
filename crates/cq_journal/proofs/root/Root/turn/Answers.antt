use Rattle.std.proofs.Common.{◌≡◌, ◌⊎◌, ⊎_elim, ◌+◌, ◌-◌, ◌≤◌, ◌∙◌, ℕ, List, [], length, refl, sym, ap, subst, arith}
use Rattle.std.specs.Prelude.{replicate}
use Rattle.cq_disk.specs.Region.{part, Leaves, Beside}
use Rattle.cq_disk.proofs.Parts.{alone, whole_again, part_same_length}
use Rattle.cq_disk.proofs.Moments.{weakened}
use Rattle.cq_records.specs.Frames.{frames}
use Rattle.cq_journal.specs.Roots.{IsSameRoot}
use Rattle.cq_journal.proofs.Halves.{still_root}
use Rattle.cq_journal.proofs.root.Root.turn.Goals as goal

pub invariant_of-self : goal.invariant_of-self
invariant_of-self g c =
    let r = c.args.self.now in
    let region = r.log.device in
    let within : region.len - region.start + region.len ≤ length (g.D.Device.seen region.device) = ⊎_elim (λ (is : region.start ≡ 0). omega (arith, is, c.requires.room)) (λ (is : region.start ≡ region.len). omega (arith, is, c.requires.room)) c.requires.place in
    record { within = within; small = omega (arith, r.short) }

pub returns-clause-turned : goal.returns-clause-turned
returns-clause-turned g c =
    let r = c.args.self.now in
    let region = r.log.device in
    let new = c.blank.new.device in
    let old_seen = g.D.Device.seen region.device in
    let new_seen = g.D.Device.seen new.device in
    let h = region.len in
    let o = region.len - region.start in
    let k = c.blank.ensures.keeps in
    let within : o + h ≤ length old_seen = ⊎_elim (λ (is : region.start ≡ 0). omega (arith, is, c.requires.room)) (λ (is : region.start ≡ region.len). omega (arith, is, c.requires.room)) c.requires.place in
    let moved : (f : List ℕ) → part new.start new.len f ≡ part o h f = λ f i. part (k.same_start i) (k.same_len i) f in
    record {
      number = refl;
      half = k.same_len;
      start = k.same_start;
      end = refl;
      blank = c.in_ok-blank.ensures.zeros ∙ ap (λ (n : ℕ). replicate n 0) (part_same_length o h old_seen within ∙ sym k.same_len);
      beside = subst (λ (a : ℕ). Beside a new.len old_seen new_seen) (sym k.same_start) (subst (λ (b : ℕ). Beside o b old_seen new_seen) (sym k.same_len) k.shown);
      durable = λ f left.
          let was = k.now f left in
          let from_old : Beside o h old_seen f = subst (λ (d : List ℕ). Beside o h d f) (c.requires.durable was.0 was.1) was.2 in
          let from_new : Beside o h new_seen f = record { before = from_old.before ∙ sym k.shown.before; behind = from_old.behind ∙ sym k.shown.behind; long = from_old.long ∙ sym k.shown.long } in
          whole_again o h new_seen f from_new (sym (moved f) ∙ c.in_ok-blank.ensures.durable (part new.start new.len f) (f, left, refl) ∙ moved new_seen);
    }

pub returns-clause-any_moment : goal.returns-clause-any_moment
returns-clause-any_moment g c = λ honest.
    let r = c.args.self.now in
    let region = r.log.device in
    let new = c.blank.new.device in
    let old_seen = g.D.Device.seen region.device in
    let h = region.len in
    let o = region.len - region.start in
    let k = c.blank.ensures.keeps in
    let P : List ℕ → Type 0 = λ x. (frames x ≡ []) ⊎ (x ≡ part o h old_seen) in
    let moved : (f : List ℕ) → part o h f ≡ part new.start new.len f = λ f. sym (λ i. part (k.same_start i) (k.same_len i) f) in
    let holds : (x : List ℕ) → Leaves o h (g.D.Device.left_since new.device (g.D.Device.moment region.device)) x → P x = λ x left.
    (c.blank.ensures.any_moment honest).each x (left.0, left.1, left.2 ∙ moved left.0) in
    let run = alone g.D.Device.moment g.D.Device.left_since g.D.Device.may_leave g.D.Device.keeps g.D.Device.seen g.met.D.Device.splits o h new.start new.len region.device new.device P k c.requires.durable holds in
    weakened g.D.Device.moment g.D.Device.left_since region.device new.device (λ f. P (part o h f) × Beside o h old_seen f) (IsSameRoot h old_seen) run
    (λ f both. still_root h region.start c.requires.place old_seen r.number (c.requires.current (c.blank.ensures.honest honest)) (c.requires.other (c.blank.ensures.honest honest)) f both.0 both.1)

pub returns-in_err-blank-clause-any_moment : goal.returns-in_err-blank-clause-any_moment
returns-in_err-blank-clause-any_moment g c = λ honest.
    let r = c.args.self.now in
    let region = r.log.device in
    let new = c.blank.new.device in
    let old_seen = g.D.Device.seen region.device in
    let h = region.len in
    let o = region.len - region.start in
    let k = c.blank.ensures.keeps in
    let P : List ℕ → Type 0 = λ x. (frames x ≡ []) ⊎ (x ≡ part o h old_seen) in
    let moved : (f : List ℕ) → part o h f ≡ part new.start new.len f = λ f. sym (λ i. part (k.same_start i) (k.same_len i) f) in
    let holds : (x : List ℕ) → Leaves o h (g.D.Device.left_since new.device (g.D.Device.moment region.device)) x → P x = λ x left.
    (c.blank.ensures.any_moment honest).each x (left.0, left.1, left.2 ∙ moved left.0) in
    let run = alone g.D.Device.moment g.D.Device.left_since g.D.Device.may_leave g.D.Device.keeps g.D.Device.seen g.met.D.Device.splits o h new.start new.len region.device new.device P k c.requires.durable holds in
    weakened g.D.Device.moment g.D.Device.left_since region.device new.device (λ f. P (part o h f) × Beside o h old_seen f) (IsSameRoot h old_seen) run
    (λ f both. still_root h region.start c.requires.place old_seen r.number (c.requires.current (c.blank.ensures.honest honest)) (c.requires.other (c.blank.ensures.honest honest)) f both.0 both.1)
