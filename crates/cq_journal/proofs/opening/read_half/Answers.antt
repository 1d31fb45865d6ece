use Rattle.std.proofs.Common.{◌≡◌, ◌∙◌, ℕ, List, sym, ap}
use Rattle.cq_disk.specs.Device.{Only}
use Rattle.cq_disk.specs.Region.{part, Leaves, Beside}
use Rattle.cq_disk.proofs.Moments.{weakened}
use Rattle.cq_disk.proofs.Parts.{alone, whole_again}
use Rattle.cq_journal.proofs.Halves.{only_on}
use Rattle.std.proofs.Common.{rules}
use Rattle.std.specs.Prelude.{IsErrOf}
use Rattle.cq_records.specs.declared.fault.ReadFault.TheVariants.{Damaged}
use Rattle.cq_records.proofs.Frames.{damaged_unsound}
use Rattle.cq_journal.proofs.opening.read_half.Goals as goal

pub returns-in_err-found-clause-seen : goal.returns-in_err-found-clause-seen
returns-in_err-found-clause-seen g c =
    let r = c.args.region.now in
    let n = c.read_record.new.device in
    let e = c.read_record.ensures in
    let k = e.keeps in
    let at : (f : List ℕ) → part n.start n.len f ≡ part r.start r.len f = λ f i. part (k.same_start i) (k.same_len i) f in
    whole_again r.start r.len (g.D.Device.seen r.device) (g.D.Device.seen n.device) k.shown (sym (at (g.D.Device.seen n.device)) ∙ e.seen)

pub returns-in_err-found-clause-durable : goal.returns-in_err-found-clause-durable
returns-in_err-found-clause-durable g c = λ only.
    let r = c.args.region.now in
    let n = c.read_record.new.device in
    let e = c.read_record.ensures in
    let k = e.keeps in
    let at : (f : List ℕ) → part n.start n.len f ≡ part r.start r.len f = λ f i. part (k.same_start i) (k.same_len i) f in
    let d = g.D.Device in
    let part_only : Only (part n.start n.len (d.seen n.device)) (Leaves n.start n.len (d.may_leave n.device)) = λ x left.
    let was = e.any_moment.each x (left.0, g.met.D.Device.counts_now n.device (d.moment r.device) left.0 e.any_moment.later left.1, left.2) in
    was.2 ∙ ap (λ (f : List ℕ). part r.start r.len f) (only was.0 was.1) ∙ sym e.seen in
    only_on d.moment d.left_since d.may_leave d.keeps d.seen r.start r.len n.start n.len r.device n.device k only part_only

pub returns-clause-seen : goal.returns-clause-seen
returns-clause-seen g c =
    let r = c.args.region.now in
    let n = c.read_record.new.device in
    let e = c.read_record.ensures in
    let k = e.keeps in
    let at : (f : List ℕ) → part n.start n.len f ≡ part r.start r.len f = λ f i. part (k.same_start i) (k.same_len i) f in
    whole_again r.start r.len (g.D.Device.seen r.device) (g.D.Device.seen n.device) k.shown (sym (at (g.D.Device.seen n.device)) ∙ e.seen)

pub returns-clause-durable : goal.returns-clause-durable
returns-clause-durable g c = λ only.
    let r = c.args.region.now in
    let n = c.read_record.new.device in
    let e = c.read_record.ensures in
    let k = e.keeps in
    let at : (f : List ℕ) → part n.start n.len f ≡ part r.start r.len f = λ f i. part (k.same_start i) (k.same_len i) f in
    let d = g.D.Device in
    let part_only : Only (part n.start n.len (d.seen n.device)) (Leaves n.start n.len (d.may_leave n.device)) = λ x left.
    let was = e.any_moment.each x (left.0, g.met.D.Device.counts_now n.device (d.moment r.device) left.0 e.any_moment.later left.1, left.2) in
    was.2 ∙ ap (λ (f : List ℕ). part r.start r.len f) (only was.0 was.1) ∙ sym e.seen in
    only_on d.moment d.left_since d.may_leave d.keeps d.seen r.start r.len n.start n.len r.device n.device k only part_only

pub returns-in_err-found-clause-any_moment : goal.returns-in_err-found-clause-any_moment
returns-in_err-found-clause-any_moment g c = λ only.
    let d = g.D.Device in
    let r = c.args.region.now in
    let n = c.read_record.new.device in
    let e = c.read_record.ensures in
    let P : List ℕ → Type 0 = λ x. x ≡ part r.start r.len (d.seen r.device) in
    let same : (x : List ℕ) → Leaves r.start r.len (d.left_since n.device (d.moment r.device)) x → P x = λ x left.
    let was = e.any_moment.each x (left.0, left.1, left.2 ∙ sym (λ i. part (e.keeps.same_start i) (e.keeps.same_len i) left.0)) in
    was.2 ∙ ap (λ (f : List ℕ). part r.start r.len f) (only was.0 was.1) in
    let run = alone d.moment d.left_since d.may_leave d.keeps d.seen g.met.D.Device.splits r.start r.len n.start n.len r.device n.device P e.keeps only same in
    weakened d.moment d.left_since r.device n.device (λ f. P (part r.start r.len f) × Beside r.start r.len (d.seen r.device) f) (λ f. f ≡ d.seen r.device) run (λ f both. whole_again r.start r.len (d.seen r.device) f both.1 both.0)

pub returns-clause-any_moment : goal.returns-clause-any_moment
returns-clause-any_moment g c = λ only.
    let d = g.D.Device in
    let r = c.args.region.now in
    let n = c.read_record.new.device in
    let e = c.read_record.ensures in
    let P : List ℕ → Type 0 = λ x. x ≡ part r.start r.len (d.seen r.device) in
    let same : (x : List ℕ) → Leaves r.start r.len (d.left_since n.device (d.moment r.device)) x → P x = λ x left.
    let was = e.any_moment.each x (left.0, left.1, left.2 ∙ sym (λ i. part (e.keeps.same_start i) (e.keeps.same_len i) left.0)) in
    was.2 ∙ ap (λ (f : List ℕ). part r.start r.len f) (only was.0 was.1) in
    let run = alone d.moment d.left_since d.may_leave d.keeps d.seen g.met.D.Device.splits r.start r.len n.start n.len r.device n.device P e.keeps only same in
    weakened d.moment d.left_since r.device n.device (λ f. P (part r.start r.len f) × Beside r.start r.len (d.seen r.device) f) (λ f. f ≡ d.seen r.device) run (λ f both. whole_again r.start r.len (d.seen r.device) f both.1 both.0)

pub returns-in_err-found-clause-damaged : goal.returns-in_err-found-clause-damaged
returns-in_err-found-clause-damaged g c = λ err honest.
    let r = c.args.region.now in
    let is : IsErrOf c.read_record.result Damaged = search rules in
    damaged_unsound (part r.start r.len (g.D.Device.seen r.device)) (c.read_record.ensures.damaged is honest)
