-- The texts of a region behind a root are read.
use Rattle.std.proofs.Common.{◌≡◌, ℕ, ◌+◌, ◌-◌, ◌<◌, ◌≤◌, List, length, sym, ◌∙◌, ap, subst, arith}
use Rattle.cq_disk.specs.Device.{Only}
use Rattle.cq_disk.specs.Region.{part, Leaves, Beside}
use Rattle.cq_disk.proofs.Moments.{weakened}
use Rattle.cq_disk.proofs.Parts.{alone, whole_again}
use Rattle.cq_journal.specs.Roots.{number_in, half_of}
use Rattle.cq_journal.proofs.Halves.{only_on}
use Rattle.cq_journal.proofs.root.Root.read_log_at.Goals as goal

pub returns-clause-seen : goal.returns-clause-seen
returns-clause-seen g c =
    let r = c.args.self.now in
    let n = c.read_log-done.new.device in
    let e = c.read_log-done.ensures in
    let k = e.keeps in
    let p = c.args.place in
    let l = c.args.len in
    let at : (f : List ℕ) → part n.start n.len f ≡ part p l f = λ f i. part (k.same_start i) (k.same_len i) f in
    whole_again p l (g.D.Device.seen r.log.device.device) (g.D.Device.seen n.device) k.shown (sym (at (g.D.Device.seen n.device)) ∙ e.seen)

pub returns-clause-root : goal.returns-clause-root
returns-clause-root g c =
    let d = g.D.Device in
    let r = c.args.self.now in
    let q = c.requires.root in
    let n = c.read_log-done.new.device in
    let e = c.read_log-done.ensures in
    let k = e.keeps in
    let p = c.args.place in
    let l = c.args.len in
    let h = r.log.device.len in
    let s = r.log.device.start in
    let device = r.log.device.device in
    let at : (f : List ℕ) → part n.start n.len f ≡ part p l f = λ f i. part (k.same_start i) (k.same_len i) f in
    let same : d.seen n.device ≡ d.seen device = whole_again p l (d.seen device) (d.seen n.device) k.shown (sym (at (d.seen n.device)) ∙ e.seen) in
    let part_only : Only (part n.start n.len (d.seen n.device)) (Leaves n.start n.len (d.may_leave n.device)) = λ x left.
    let was = e.any_moment.each x (left.0, g.met.D.Device.counts_now n.device (d.moment device) left.0 e.any_moment.later left.1, left.2) in
    was.2 ∙ ap (λ (f : List ℕ). part p l f) (q.durable was.0 was.1) ∙ sym e.seen in
    record {
      place = q.place;
      room = subst (λ (f : List ℕ). h + h ≤ length f) (sym same) q.room;
      current = λ honest. subst (λ (f : List ℕ). number_in (half_of s h f) ≡ r.number) (sym same) (q.current (e.honest honest));
      other = λ honest. subst (λ (f : List ℕ). number_in (half_of (h - s) h f) < r.number) (sym same) (q.other (e.honest honest));
      durable = only_on d.moment d.left_since d.may_leave d.keeps d.seen p l n.start n.len device n.device k q.durable part_only;
    }

pub returns-clause-any_moment : goal.returns-clause-any_moment
returns-clause-any_moment g c =
    let d = g.D.Device in
    let device = c.args.self.now.log.device.device in
    let n = c.read_log-done.new.device in
    let e = c.read_log-done.ensures in
    let p = c.args.place in
    let l = c.args.len in
    let P : List ℕ → Type 0 = λ x. x ≡ part p l (d.seen device) in
    let same : (x : List ℕ) → Leaves p l (d.left_since n.device (d.moment device)) x → P x = λ x left.
    let was = e.any_moment.each x (left.0, left.1, left.2 ∙ sym (λ i. part (e.keeps.same_start i) (e.keeps.same_len i) left.0)) in
    was.2 ∙ ap (λ (f : List ℕ). part p l f) (c.requires.root.durable was.0 was.1) in
    let run = alone d.moment d.left_since d.may_leave d.keeps d.seen g.met.D.Device.splits p l _ _ device n.device P e.keeps c.requires.root.durable same in
    weakened d.moment d.left_since device n.device (λ f. P (part p l f) × Beside p l (d.seen device) f) (λ f. f ≡ d.seen device) run (λ f both. whole_again p l (d.seen device) f both.1 both.0)

pub invariant_of-self-5 : goal.invariant_of-self-5
invariant_of-self-5 g c =
    let r = c.args.self.now in
    let n = c.read_log-done.new.device in
    let e = c.read_log-done.ensures in
    let k = e.keeps in
    let p = c.args.place in
    let l = c.args.len in
    let at : (f : List ℕ) → part n.start n.len f ≡ part p l f = λ f i. part (k.same_start i) (k.same_len i) f in
    let same : g.D.Device.seen n.device ≡ g.D.Device.seen r.log.device.device =
    whole_again p l (g.D.Device.seen r.log.device.device) (g.D.Device.seen n.device) k.shown (sym (at (g.D.Device.seen n.device)) ∙ e.seen) in
    record { within = omega (arith, ap length same, r.log.device.within); small = omega (arith, r.log.device.small) }

pub invariant_of-self-6 : goal.invariant_of-self-6
invariant_of-self-6 g c =
    let r = c.args.self.now in
    let n = c.read_log-done.new.device in
    let e = c.read_log-done.ensures in
    let k = e.keeps in
    let p = c.args.place in
    let l = c.args.len in
    let at : (f : List ℕ) → part n.start n.len f ≡ part p l f = λ f i. part (k.same_start i) (k.same_len i) f in
    let same : g.D.Device.seen n.device ≡ g.D.Device.seen r.log.device.device =
    whole_again p l (g.D.Device.seen r.log.device.device) (g.D.Device.seen n.device) k.shown (sym (at (g.D.Device.seen n.device)) ∙ e.seen) in
    record { within = omega (arith, ap length same, r.log.device.within); small = r.log.device.small }
