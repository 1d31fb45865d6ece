-- One region more was read.
use Rattle.std.proofs.Common.{Err, ◌≡◌, ℕ, ◌+◌, ◌<◌, List, [], ◌++◌, length, take, refl, sym, ◌∙◌, ap, subst, arith}
use Rattle.std.specs.Prelude.{IsTrue, get_or}
use Rattle.cq_records.specs.Frames.{joined}
use Rattle.cq_records.proofs.Frames.{joined_append}
use Rattle.cq_journal.specs.Journal.{journal_device, journal_places, journal_regions}
use Rattle.cq_journal.specs.Regions.{all_records}
use Rattle.cq_journal.proofs.Copies.{rests_on, rests_self}
use Rattle.cq_journal.proofs.RegionLists.{regions_have_all, regions_next, regions_whole}
use Rattle.cq_kept_entries.specs.Kept.{kept_bytes}
use Rattle.cq_kept_entries.specs.Pieces.{read, start}
use Rattle.cq_kept_entries.specs.within.Readers.{IsReader}
use Rattle.std.proofs.lemmas.Result.{err_from_is_err_and}
use Rattle.cq_kept_entries.specs.within.Readers.{IsRefused}
use Rattle.cq_kept_entries.proofs.Readings.{read_both}
use Rattle.cq_kept_entries.proofs.Reasons.{front_refused, read_reason, region_reason, still_intact}
use Rattle.cq_kept_entries.proofs.Refused.{if_bad}
use Rattle.cq_kept_entries.proofs.kept.KeptEntries.read_all.Goals as goal

pub loop-index-init : goal.loop-index-init
loop-index-init g c =
    let j = c.args.self.now.journal in
    record {
      within = omega arith;
      journal = c.requires;
      rests = rests_self j (λ f. g.met.D.Device.only_now j.root.log.device.device f) c.requires.regions;
      regions = refl;
      text = refl;
      read = λ _. c.new-reader.ensures;
    }

pub loop-index-preserved : goal.loop-index-preserved
loop-index-preserved g c =
    let j = c.args.self.now.journal in
    let i = c.loop-index.invariant in
    let e = c.read_region.ensures in
    let mid = c.read_region.new.self in
    let at = c.loop-index.index in
    let regions = journal_regions j in
    let before = joined (all_records (take at regions)) in
    let all = joined (all_records (take (at + 1) regions)) in
    let below : at < length regions = omega (arith, c.loop-index-test.true, c.region_count.ensures, ap length i.regions) in
    let next : before ++ joined (get_or regions at []) ≡ all = sym (joined_append (all_records (take at regions)) (get_or regions at [])) ∙ ap joined (sym (regions_next regions at below)) in
    let was_read : IsTrue (g.D.Device.is_honest (journal_device mid)) → c.read_region.new.text.items ≡ joined (get_or regions at []) = λ honest.
    c.in_ok-read_region.ensures.read honest ∙ (λ k. (c.clear.ensures.items k) ++ joined (get_or (i.regions k) at [])) in
    record {
      within = omega (arith, below);
      journal = e.journal.journal i.journal;
      rests = rests_on j c.loop-index.self.journal mid i.rests e.rests;
      regions = e.regions ∙ i.regions;
      text = i.text;
      read = λ honest.
          let text_is : c.deref.result.now ≡ joined (get_or regions at []) = c.deref.ensures.value ∙ was_read honest in
          subst (λ a. IsReader a c.in_ok-reader.reader)
          (sym (read_both start before c.deref.result.now) ∙ ap (λ (l : List ℕ). read start l) (ap (λ (more : List ℕ). before ++ more) text_is ∙ next))
          (c.in_ok-reader.ensures.made (read start before) (i.read (e.rests.honest honest)));
    }

pub returns-clause-read : goal.returns-clause-read
returns-clause-read g c =
    let j = c.args.self.now.journal in
    let i = c.loop-index.invariant in
    let regions = journal_regions j in
    let bytes = g.D.Device.seen j.root.log.device.device in
    let all : joined (all_records (take c.loop-index.index regions)) ≡ kept_bytes c.args.self.now =
    ap (λ rs. joined (all_records rs)) (regions_whole regions c.loop-index.index (omega (arith, c.loop-index-test.false, c.region_count.ensures, ap length i.regions)))
    ∙ ap joined (regions_have_all j.len (journal_places j) bytes) in
    λ honest. subst (λ (l : List ℕ). IsReader (read start l) c.loop-index.reader) all (i.read honest)

pub returns-in_err-read_region-clause-rests : goal.returns-in_err-read_region-clause-rests
returns-in_err-read_region-clause-rests g c = rests_on c.args.self.now.journal c.loop-index.self.journal c.read_region.new.self c.loop-index.invariant.rests c.read_region.ensures.rests

pub returns-in_err-reader-clause-rests : goal.returns-in_err-reader-clause-rests
returns-in_err-reader-clause-rests g c = rests_on c.args.self.now.journal c.loop-index.self.journal c.read_region.new.self c.loop-index.invariant.rests c.read_region.ensures.rests

pub returns-in_err-read_region-clause-refused : goal.returns-in_err-read_region-clause-refused
returns-in_err-read_region-clause-refused g c =
    let p = err_from_is_err_and c.from_residual.result c.from_residual.ensures.1 in
    let i = c.loop-index.invariant in
    let fault = c.in_err-read_region.field-0.0 in
    let k = c.loop-index.self.journal in
    rw (p.1, p.2) (λ honest. region_reason fault (λ place is intact.
    c.read_region.ensures.refused place (c.in_err-read_region.was ∙ ap (λ f. Err f) is) honest (still_intact c.args.self.now.journal k i.rests (c.read_region.ensures.rests.honest honest) intact)))

pub returns-in_err-reader-clause-refused : goal.returns-in_err-reader-clause-refused
returns-in_err-reader-clause-refused g c =
    let p = err_from_is_err_and c.from_residual-in_err-reader.result c.from_residual-in_err-reader.ensures.1 in
    let j = c.args.self.now.journal in
    let i = c.loop-index.invariant in
    let at = c.loop-index.index in
    let regions = journal_regions j in
    let bytes = g.D.Device.seen j.root.log.device.device in
    let before = joined (all_records (take at regions)) in
    let below : at < length regions = omega (arith, c.loop-index-test.true, c.region_count.ensures, ap length i.regions) in
    let next : before ++ joined (get_or regions at []) ≡ joined (all_records (take (at + 1) regions)) = sym (joined_append (all_records (take at regions)) (get_or regions at [])) ∙ ap joined (sym (regions_next regions at below)) in
    let whole : joined (all_records regions) ≡ kept_bytes c.args.self.now = ap joined (regions_have_all j.len (journal_places j) bytes) in
    rw (p.1, p.2) (λ honest.
    let text_is : c.deref.result.now ≡ joined (get_or regions at []) =
    c.deref.ensures.value ∙ c.in_ok-read_region.ensures.read honest ∙ (λ k. (c.clear.ensures.items k) ++ joined (get_or (i.regions k) at [])) in
    let front : read (read start before) c.deref.result.now ≡ read start (joined (all_records (take (at + 1) regions))) =
    sym (read_both start before c.deref.result.now) ∙ ap (λ (l : List ℕ). read start l) (ap (λ (more : List ℕ). before ++ more) text_is ∙ next) in
    read_reason _ _ c.in_err-reader.field-0.0 (if_bad c.in_err-reader.field-0.0
    (c.in_err-reader.ensures.refused (read start before) (i.read (c.read_region.ensures.rests.honest honest)))
    (λ never some. front_refused regions (at + 1) (kept_bytes c.args.self.now) some.0 whole (subst (λ a. IsRefused a) front never) some.1.0 some.1.1)))
