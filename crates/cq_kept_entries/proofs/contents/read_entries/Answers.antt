-- One region more was read.
use Rattle.std.proofs.Common.{◌≡◌, ℕ, ◌+◌, ◌<◌, List, [], ◌++◌, length, take, refl, sym, ◌∙◌, ap, subst, arith}
use Rattle.std.specs.Prelude.{IfOk, IsTrue, get_or}
use Rattle.cq_records.specs.Frames.{joined}
use Rattle.cq_journal.specs.Journal.{journal_device, journal_places, journal_records, journal_regions}
use Rattle.cq_journal.specs.Regions.{all_records}
use Rattle.cq_journal.proofs.Copies.{rests_on, rests_self, stays_journal_on, stays_self}
use Rattle.cq_journal.proofs.RegionLists.{regions_have_all, regions_next, regions_whole}
use Rattle.cq_kept_entries.specs.Contents.{Holds}
use Rattle.cq_kept_entries.specs.within.Readers.{IsSoFar}
use Rattle.cq_kept_entries.proofs.Gathered.{if_ok_where}
use Rattle.cq_kept_entries.proofs.contents.read_entries.Goals as goal

pub loop-index-init : goal.loop-index-init
loop-index-init g c =
    let j = c.args.journal.now in
    record {
      within = omega arith;
      journal = stays_self j c.requires;
      rests = rests_self j (λ f. g.met.D.Device.only_now j.root.log.device.device f) c.requires;
      regions = refl;
      read = λ _. c.new-reader.ensures;
    }

pub loop-index-preserved : goal.loop-index-preserved
loop-index-preserved g c =
    let j = c.args.journal.now in
    let i = c.loop-index.invariant in
    let e = c.read_region.ensures in
    let mid = c.read_region.new.self in
    let at = c.loop-index.index in
    let regions = journal_regions j in
    let below : at < length regions = omega (arith, c.loop-index-test.true, c.region_count.ensures, ap length i.regions) in
    record {
      within = omega (arith, below);
      journal = stays_journal_on j c.loop-index.journal mid i.journal e.journal;
      rests = rests_on j c.loop-index.journal mid i.rests e.rests;
      regions = e.regions ∙ i.regions;
      read = λ honest.
          let count_is : c.in_ok-count.count ≡ length (get_or regions at []) = c.in_ok-count.ensures.count honest ∙ ap (λ rs. length (get_or rs at [])) i.regions in
          let text_is : c.deref.result.now ≡ joined (get_or regions at []) =
          c.deref.ensures.value ∙ c.in_ok-count.ensures.read honest ∙ (λ k. (c.clear.ensures.items k) ++ joined (get_or (i.regions k) at [])) in
          subst (λ rs. IsSoFar rs c.in_ok-reader.reader) (sym (regions_next regions at below))
          (c.in_ok-reader.ensures (all_records (take at regions)) (get_or regions at []) (i.read (e.rests.honest honest)) count_is text_is);
    }

pub returns-in_err-reader-clause-journal : goal.returns-in_err-reader-clause-journal
returns-in_err-reader-clause-journal g c = stays_journal_on c.args.journal.now c.loop-index.journal c.read_region.new.self c.loop-index.invariant.journal c.read_region.ensures.journal

pub returns-in_err-reader-clause-rests : goal.returns-in_err-reader-clause-rests
returns-in_err-reader-clause-rests g c = rests_on c.args.journal.now c.loop-index.journal c.read_region.new.self c.loop-index.invariant.rests c.read_region.ensures.rests

pub returns-in_err-count-clause-journal : goal.returns-in_err-count-clause-journal
returns-in_err-count-clause-journal g c = stays_journal_on c.args.journal.now c.loop-index.journal c.read_region.new.self c.loop-index.invariant.journal c.read_region.ensures.journal

pub returns-in_err-count-clause-rests : goal.returns-in_err-count-clause-rests
returns-in_err-count-clause-rests g c = rests_on c.args.journal.now c.loop-index.journal c.read_region.new.self c.loop-index.invariant.rests c.read_region.ensures.rests

pub returns-clause-holds : goal.returns-clause-holds
returns-clause-holds g c =
    let j = c.args.journal.now in
    let i = c.loop-index.invariant in
    let regions = journal_regions j in
    let read = all_records (take c.loop-index.index regions) in
    let all_is : read ≡ journal_records j =
    ap all_records (regions_whole regions c.loop-index.index (omega (arith, c.loop-index-test.false, c.region_count.ensures, ap length i.regions)))
    ∙ regions_have_all j.len (journal_places j) (g.D.Device.seen j.root.log.device.device) in
    let many_are : c.region_count-2.result ≡ length regions = c.region_count-2.ensures ∙ ap length i.regions in
    if_ok_where (Holds (journal_records j) (length regions)) (IsTrue (g.D.Device.is_honest (journal_device c.loop-index.journal))) c.finish.result
    (λ honest. subst (λ (rs : List (List ℕ)). IfOk c.finish.result (Holds rs (length regions))) all_is
    (subst (λ (n : ℕ). IfOk c.finish.result (Holds read n)) many_are (c.finish.ensures read (i.read honest))))
