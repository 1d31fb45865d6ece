use Rattle.std.proofs.Common.{◌≡◌, inl, ◌-◌, ◌++◌, ◌∙◌, ℕ, List, [], length, refl, sym, ap, subst, arith}
use Rattle.std.specs.Prelude.{IsTrue, Some, map}
use Rattle.cq_disk.specs.Device.{Only}
use Rattle.cq_disk.specs.Region.{part, Beside}
use Rattle.cq_records.specs.Batch.{batch_bytes}
use Rattle.cq_records.specs.Frames.{text_of, frames, records, all_sound}
use Rattle.cq_records.proofs.Frames.{of_zeros}
use Rattle.cq_journal.specs.Numbers.{number_of}
use Rattle.cq_journal.specs.Roots.{first_of, number_in, half_of, numbered}
use Rattle.cq_journal.proofs.Halves.{number_back, beside_at, second_half, long_enough, made, only_on}
use Rattle.cq_journal.proofs.making.create.Goals as goal

pub returns-clause-text : goal.returns-clause-text
returns-clause-text g c =
    let h = c.args.half in
    let d = g.D.Device in
    let first = c.blank.new.device in
    let second = c.blank-2.new.device in
    let log = c.new-log.result in
    let last = c.commit.new.self.device in
    let k1 = c.blank.ensures.keeps in
    let k2 = c.blank-2.ensures.keeps in
    let k3 = c.commit.ensures.keeps in
    let batch = batch_bytes c.in_ok-batch.batch in
    let new = numbered 1 c.args.text.now in
    let one : number_of new ≡ 1 = number_back 1 c.args.text.now (omega arith) in
    let log_start : log.device.start ≡ 0 = ap (λ r. r.start) c.new-log.ensures.device ∙ k2.same_start in
    let log_len : log.device.len ≡ h = ap (λ r. r.len) c.new-log.ensures.device ∙ k2.same_len ∙ k1.same_len in
    let start_is : last.start ≡ 0 = k3.same_start ∙ log_start in
    let len_is : last.len ≡ h = k3.same_len ∙ log_len in
    let s1 = g.D.Device.seen first.device in
    let s2 = g.D.Device.seen second.device in
    let s3 = g.D.Device.seen last.device in
    let log_seen : g.D.Device.seen log.device.device ≡ s2 = ap (λ r. g.D.Device.seen r.device) c.new-log.ensures.device in
    let blanked : Beside 0 h s1 s2 = beside_at _ _ _ _ s1 s2 refl k1.same_len k2.shown in
    let written : Beside 0 h s2 s3 = subst (λ (l : List ℕ). Beside 0 h l s3) log_seen (beside_at _ _ _ _ _ s3 log_start log_len k3.shown) in
    let blank_half : frames (part h h s1) ≡ [] = ap frames (sym (λ i. part (k1.same_start i) (k1.same_len i) s1) ∙ c.in_ok-blank.ensures.zeros) ∙ of_zeros (length (part h h (g.D.Device.seen c.sync.new.self))) in
    let other_none : frames (part h h s3) ≡ [] = ap frames (second_half h s1 s2 s3 blanked written) ∙ blank_half in
    let at : part last.start last.len s3 ≡ part 0 h s3 = λ i. part (start_is i) (len_is i) s3 in
    let is_new : half_of 0 h s3 ≡ Some new =
    ap (λ (l : List ℕ). first_of (records l)) (sym at) ∙ ap (λ (fs : List (List ℕ)). first_of (map text_of fs)) (c.in_ok-commit.ensures.acknowledged ∙ ap (λ (fs : List (List ℕ)). fs ++ frames batch) c.new-log.ensures.empty)
    ∙ ap first_of c.in_ok-batch.ensures.records in
    made h new s3 one is_new other_none

pub returns-clause-root : goal.returns-clause-root
returns-clause-root g c =
    let h = c.args.half in
    let d = g.D.Device in
    let first = c.blank.new.device in
    let second = c.blank-2.new.device in
    let log = c.new-log.result in
    let last = c.commit.new.self.device in
    let k1 = c.blank.ensures.keeps in
    let k2 = c.blank-2.ensures.keeps in
    let k3 = c.commit.ensures.keeps in
    let batch = batch_bytes c.in_ok-batch.batch in
    let new = numbered 1 c.args.text.now in
    let one : number_of new ≡ 1 = number_back 1 c.args.text.now (omega arith) in
    let log_start : log.device.start ≡ 0 = ap (λ r. r.start) c.new-log.ensures.device ∙ k2.same_start in
    let log_len : log.device.len ≡ h = ap (λ r. r.len) c.new-log.ensures.device ∙ k2.same_len ∙ k1.same_len in
    let start_is : last.start ≡ 0 = k3.same_start ∙ log_start in
    let len_is : last.len ≡ h = k3.same_len ∙ log_len in
    let s1 = g.D.Device.seen first.device in
    let s2 = g.D.Device.seen second.device in
    let s3 = g.D.Device.seen last.device in
    let log_seen : g.D.Device.seen log.device.device ≡ s2 = ap (λ r. g.D.Device.seen r.device) c.new-log.ensures.device in
    let blanked : Beside 0 h s1 s2 = beside_at _ _ _ _ s1 s2 refl k1.same_len k2.shown in
    let written : Beside 0 h s2 s3 = subst (λ (l : List ℕ). Beside 0 h l s3) log_seen (beside_at _ _ _ _ _ s3 log_start log_len k3.shown) in
    let blank_half : frames (part h h s1) ≡ [] = ap frames (sym (λ i. part (k1.same_start i) (k1.same_len i) s1) ∙ c.in_ok-blank.ensures.zeros) ∙ of_zeros (length (part h h (g.D.Device.seen c.sync.new.self))) in
    let other_none : frames (part h h s3) ≡ [] = ap frames (second_half h s1 s2 s3 blanked written) ∙ blank_half in
    let at : part last.start last.len s3 ≡ part 0 h s3 = λ i. part (start_is i) (len_is i) s3 in
    let is_new : half_of 0 h s3 ≡ Some new =
    ap (λ (l : List ℕ). first_of (records l)) (sym at) ∙ ap (λ (fs : List (List ℕ)). first_of (map text_of fs)) (c.in_ok-commit.ensures.acknowledged ∙ ap (λ (fs : List (List ℕ)). fs ++ frames batch) c.new-log.ensures.empty)
    ∙ ap first_of c.in_ok-batch.ensures.records in
    let back : last.len - last.start ≡ h = omega (arith, start_is, len_is) in
    let other_is : number_in (half_of (last.len - last.start) last.len s3) ≡ number_in (half_of h h s3) = λ i. number_in (half_of (back i) (len_is i) s3) in
    let zero_in : number_in (half_of h h s3) ≡ 0 = ap (λ (fs : List (List ℕ)). number_in (first_of (map text_of fs))) other_none in
    let only0 : Only (g.D.Device.seen c.sync.new.self) (g.D.Device.may_leave c.sync.new.self) = λ f left. c.in_ok-sync.ensures.durable f left ∙ sym c.sync.ensures.seen in
    let only1 = only_on d.moment d.left_since d.may_leave d.keeps d.seen _ _ _ _ c.sync.new.self first.device k1 only0 c.in_ok-blank.ensures.durable in
    let only2 = only_on d.moment d.left_since d.may_leave d.keeps d.seen _ _ _ _ first.device second.device k2 only1 c.in_ok-blank-2.ensures.durable in
    let only_log : Only (d.seen log.device.device) (d.may_leave log.device.device) = subst (λ r. Only (d.seen r.device) (d.may_leave r.device)) (sym c.new-log.ensures.device) only2 in
    record {
      place = inl start_is;
      room = omega (arith, len_is, long_enough h s1 s2 s3 blanked written (omega (arith, first.within, k1.same_start, k1.same_len)) (omega (arith, last.within, start_is, len_is)));
      current = λ honest. (λ i. number_in (half_of (start_is i) (len_is i) s3)) ∙ ap number_in is_new ∙ one;
      other = λ honest. omega (arith, other_is, zero_in);
      durable = only_on d.moment d.left_since d.may_leave d.keeps d.seen _ _ _ _ log.device.device last.device k3 only_log c.in_ok-commit.ensures.settled.durable;
    }

pub returns-clause-sound : goal.returns-clause-sound
returns-clause-sound g c =
    let h = c.args.half in
    let d = g.D.Device in
    let first = c.blank.new.device in
    let second = c.blank-2.new.device in
    let log = c.new-log.result in
    let last = c.commit.new.self.device in
    let k1 = c.blank.ensures.keeps in
    let k2 = c.blank-2.ensures.keeps in
    let k3 = c.commit.ensures.keeps in
    let batch = batch_bytes c.in_ok-batch.batch in
    let new = numbered 1 c.args.text.now in
    let one : number_of new ≡ 1 = number_back 1 c.args.text.now (omega arith) in
    let log_start : log.device.start ≡ 0 = ap (λ r. r.start) c.new-log.ensures.device ∙ k2.same_start in
    let log_len : log.device.len ≡ h = ap (λ r. r.len) c.new-log.ensures.device ∙ k2.same_len ∙ k1.same_len in
    let start_is : last.start ≡ 0 = k3.same_start ∙ log_start in
    let len_is : last.len ≡ h = k3.same_len ∙ log_len in
    let s1 = g.D.Device.seen first.device in
    let s2 = g.D.Device.seen second.device in
    let s3 = g.D.Device.seen last.device in
    let log_seen : g.D.Device.seen log.device.device ≡ s2 = ap (λ r. g.D.Device.seen r.device) c.new-log.ensures.device in
    let blanked : Beside 0 h s1 s2 = beside_at _ _ _ _ s1 s2 refl k1.same_len k2.shown in
    let written : Beside 0 h s2 s3 = subst (λ (l : List ℕ). Beside 0 h l s3) log_seen (beside_at _ _ _ _ _ s3 log_start log_len k3.shown) in
    let blank_half : frames (part h h s1) ≡ [] = ap frames (sym (λ i. part (k1.same_start i) (k1.same_len i) s1) ∙ c.in_ok-blank.ensures.zeros) ∙ of_zeros (length (part h h (g.D.Device.seen c.sync.new.self))) in
    let other_none : frames (part h h s3) ≡ [] = ap frames (second_half h s1 s2 s3 blanked written) ∙ blank_half in
    let at : part last.start last.len s3 ≡ part 0 h s3 = λ i. part (start_is i) (len_is i) s3 in
    let is_new : half_of 0 h s3 ≡ Some new =
    ap (λ (l : List ℕ). first_of (records l)) (sym at) ∙ ap (λ (fs : List (List ℕ)). first_of (map text_of fs)) (c.in_ok-commit.ensures.acknowledged ∙ ap (λ (fs : List (List ℕ)). fs ++ frames batch) c.new-log.ensures.empty)
    ∙ ap first_of c.in_ok-batch.ensures.records in
    let zero_in : number_in (half_of h h s3) ≡ 0 = ap (λ (fs : List (List ℕ)). number_in (first_of (map text_of fs))) other_none in
    record {
      differ = λ same. omega (arith, sym (ap number_in is_new), same, zero_in, one);
      first = sym (ap (λ (l : List ℕ). all_sound (frames l)) at) ∙ c.in_ok-commit.ensures.settled.bytes.sound;
      second = ap all_sound other_none;
    }

pub returns-clause-honest : goal.returns-clause-honest
returns-clause-honest g c = λ honest.
    let d = g.D.Device in
    let log_honest : IsTrue (d.is_honest c.new-log.result.device.device) = subst IsTrue c.commit.ensures.honest honest in
    let second : IsTrue (d.is_honest c.blank-2.new.device.device) = subst (λ r. IsTrue (d.is_honest r.device)) c.new-log.ensures.device log_honest in
    subst IsTrue c.sync.ensures.honest (c.blank.ensures.honest (c.blank-2.ensures.honest second))
