-- One region more was added.
use Rattle.std.proofs.Common.{◌≡◌, ℕ, ◌+◌, ◌<◌, ◌≤◌, List, ◌++◌, length, take, inr, refl, rules, sym, ◌∙◌, ap, subst, arith, append_assoc}
use Rattle.std.specs.Prelude.{IsErrOf, get_or}
use Rattle.cq_disk.specs.Region.{part}
use Rattle.cq_records.specs.Frames.{records}
use Rattle.cq_records.specs.declared.fault.LogFault.TheVariants.{Failed, Full}
use Rattle.cq_journal.specs.Base.{base_records}
use Rattle.cq_journal.specs.Regions.{records_at}
use Rattle.cq_journal.specs.declared.fault.OpenFault.TheVariants.{Full as OpenFull}
use Rattle.cq_journal.proofs.Copies.{get_here, records_next, take_whole, rests_on, rests_self, stays_journal_on, stays_self}
use Rattle.cq_journal.proofs.Regions.{append-none, each_at, each_left}
use Rattle.cq_journal.proofs.journal.Journal.copy_closed.Goals as goal

pub loop-at-init : goal.loop-at-init
loop-at-init g c =
    let j = c.args.self.now in
    let to = c.args.to.now in
    record {
      within = omega arith;
      read = record { closed = refl; growing = refl; torn = refl; len = refl; seen = refl };
      journal = stays_self j c.requires.has_regions;
      rests = rests_self j (λ f. g.met.D.Device.only_now j.root.log.device.device f) c.requires.has_regions;
      there = c.requires.there;
      base = c.requires.base;
      rests_there = rests_self to (λ f. g.met.E.Device.only_now to.root.log.device.device f) c.requires.there.regions;
      copied = λ _. sym (append-none (base_records to c.args.base.now));
    }

pub copy_region-requires-clause-within : goal.copy_region-requires-clause-within
copy_region-requires-clause-within g c =
    let l = c.loop-at.self in
    let In : ℕ → Type 0 = λ n. n + l.len ≤ length (g.D.Device.seen l.root.log.device.device) in
    let below : c.loop-at.at < length l.closed.items = omega (arith, c.len.ensures, c.loop-at-test.true) in
    subst In (sym (get_here l.closed.items c.loop-at.at c.index.result.now below c.index.ensures))
    (each_at In l.closed.items c.loop-at.at (each_left In l.closed.items l.growing c.loop-at.invariant.journal.regions.within) below)

pub returns-in_err-copy_region-clause-rests : goal.returns-in_err-copy_region-clause-rests
returns-in_err-copy_region-clause-rests g c = rests_on c.args.self.now c.loop-at.self c.copy_region.new.self c.loop-at.invariant.rests c.copy_region.ensures.rests

pub returns-in_err-copy_region-clause-rests_there : goal.returns-in_err-copy_region-clause-rests_there
returns-in_err-copy_region-clause-rests_there g c = rests_on c.args.to.now c.loop-at.to c.copy_region.new.to c.loop-at.invariant.rests_there c.copy_region.ensures.rests_there

pub returns-in_err-widen_base-clause-rests : goal.returns-in_err-widen_base-clause-rests
returns-in_err-widen_base-clause-rests g c = rests_on c.args.self.now c.loop-at.self c.copy_region.new.self c.loop-at.invariant.rests c.copy_region.ensures.rests

pub returns-in_err-widen_base-clause-rests_there : goal.returns-in_err-widen_base-clause-rests_there
returns-in_err-widen_base-clause-rests_there g c =
    let w = c.widen_base.ensures in
    rests_on c.args.to.now c.copy_region.new.to c.widen_base.new.self (rests_on c.args.to.now c.loop-at.to c.copy_region.new.to c.loop-at.invariant.rests_there c.copy_region.ensures.rests_there)
    (record { half = w.lengths.0; len = w.lengths.1; records = w.records; honest = w.honest; moments = w.any_moment; intact = w.intact; stays = w.stays; later = w.later })

pub loop-at-preserved : goal.loop-at-preserved
loop-at-preserved g c =
    let d = g.D.Device in
    let j = c.args.self.now in
    let inv = c.loop-at.invariant in
    let e = c.copy_region.ensures in
    let ok = c.in_ok-copy_region.ensures in
    let w = c.widen_base.ensures in
    let widened = c.in_ok-widen_base.ensures in
    let closed_is : c.copy_region.new.self.closed ≡ j.closed = e.read.closed ∙ inv.read.closed in
    record {
      within = omega (arith, ap (λ v. length v.items) e.read.closed, c.loop-at-test.true, c.len.ensures);
      read = record { closed = closed_is; growing = e.read.growing ∙ inv.read.growing; torn = e.read.torn ∙ inv.read.torn; len = e.read.len ∙ inv.read.len; seen = e.read.seen ∙ inv.read.seen };
      journal = stays_journal_on j c.loop-at.self c.copy_region.new.self inv.journal ok.journal;
      rests = rests_on j c.loop-at.self c.copy_region.new.self inv.rests e.rests;
      there = widened.journal;
      base = widened.base;
      rests_there = rests_on c.args.to.now c.copy_region.new.to c.widen_base.new.self (rests_on c.args.to.now c.loop-at.to c.copy_region.new.to inv.rests_there e.rests_there)
          (record { half = w.lengths.0; len = w.lengths.1; records = w.records; honest = w.honest; moments = w.any_moment; intact = w.intact; stays = w.stays; later = w.later });
      copied = λ honest.
          let l = c.loop-at.self in
          let at = c.loop-at.at in
          let ns : List ℕ = j.closed.items in
          let bytes = d.seen j.root.log.device.device in
          let before = base_records c.args.to.now c.args.base.now in
          let below : at < length l.closed.items = omega (arith, c.len.ensures, c.loop-at-test.true) in
          let place_is : c.index.result.now ≡ get_or ns at 0 = get_here l.closed.items at c.index.result.now below c.index.ensures ∙ ap (λ v. get_or v.items at 0) inv.read.closed in
          let more_is : records (part c.index.result.now l.len (d.seen l.root.log.device.device)) ≡ records (part (get_or ns at 0) j.len bytes) = λ i. records (part (place_is i) (inv.read.len i) (inv.read.seen i)) in
          let below_all : at < length ns = omega (arith, below, ap (λ v. length v.items) inv.read.closed) in
          widened.same ∙ ok.copied honest
          ∙ (λ i. (inv.copied (e.rests.honest honest) i) ++ (more_is i))
          ∙ append_assoc before (records_at j.len (take at ns) bytes) (records (part (get_or ns at 0) j.len bytes))
          ∙ ap (λ (rs : List (List ℕ)). before ++ rs) (sym (records_next j.len ns at bytes below_all));
    }

pub returns-clause-copied : goal.returns-clause-copied
returns-clause-copied g c = λ honest.
    let j = c.args.self.now in
    let inv = c.loop-at.invariant in
    let all : take c.loop-at.at j.closed.items ≡ j.closed.items = take_whole j.closed.items c.loop-at.at (omega (arith, c.len.ensures, c.loop-at-test.false, ap (λ v. length v.items) inv.read.closed)) in
    inv.copied honest ∙ ap (λ (ns : List ℕ). base_records c.args.to.now c.args.base.now ++ records_at j.len ns (g.D.Device.seen j.root.log.device.device)) all

pub returns-in_err-copy_region-clause-full : goal.returns-in_err-copy_region-clause-full
returns-in_err-copy_region-clause-full g c = λ full.
    let is : IsErrOf c.copy_region.result OpenFull = search rules in
    stays_journal_on c.args.self.now c.loop-at.self c.copy_region.new.self c.loop-at.invariant.journal (c.copy_region.ensures.full is)

pub returns-in_err-widen_base-clause-full : goal.returns-in_err-widen_base-clause-full
returns-in_err-widen_base-clause-full g c = λ _.
    stays_journal_on c.args.self.now c.loop-at.self c.copy_region.new.self c.loop-at.invariant.journal c.in_ok-copy_region.ensures.journal

pub returns-in_err-widen_base-clause-full_there : goal.returns-in_err-widen_base-clause-full_there
returns-in_err-widen_base-clause-full_there g c = λ full.
    let is : IsErrOf c.widen_base.result Full = search rules in
    (c.widen_base.ensures.full is).0

pub returns-in_err-widen_base-clause-failed : goal.returns-in_err-widen_base-clause-failed
returns-in_err-widen_base-clause-failed g c = λ failed.
    let is : IsErrOf c.widen_base.result Failed = search rules in
    inr (omega (arith, c.loop-at.invariant.rests_there.later, c.copy_region.ensures.rests_there.later, c.widen_base.ensures.failed is))
