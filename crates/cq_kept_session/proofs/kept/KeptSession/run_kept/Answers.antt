-- One region more was read, and run.
use Rattle.std.proofs.Common.{◌≡◌, ℕ, ◌+◌, ◌<◌, List, [], ◌++◌, length, take, refl, sym, ◌∙◌, ap, subst, arith}
use Rattle.std.specs.Prelude.{IsTrue, get_or, false}
use Rattle.cq_records.specs.Frames.{joined}
use Rattle.cq_records.proofs.Frames.{joined_append}
use Rattle.cq_journal.specs.Journal.{IsJournal, journal_device, journal_places, journal_regions}
use Rattle.cq_journal.specs.Regions.{all_records}
use Rattle.cq_journal.specs.Rests.{Rests}
use Rattle.cq_journal.proofs.Copies.{rests_on, rests_self}
use Rattle.cq_journal.proofs.RegionLists.{regions_have_all, regions_next, regions_whole}
use Rattle.cq_kept_session.specs.Bases.{fresh, read}
use Rattle.cq_kept_session.specs.Kept.{kept_bytes}
use Rattle.cq_kept_session.specs.Texts.{is_ended}
use Rattle.cq_kept_session.specs.within.Readers.{IsRead, is_base}
use Rattle.cq_kept_session.proofs.Beginnings.{begun}
use Rattle.cq_kept_session.proofs.Stages.{read_both}
use Rattle.cq_kept_session.proofs.kept.KeptSession.run_kept.Goals as goal

pub loop-index-init : goal.loop-index-init
loop-index-init g c =
    let j = c.args.self.now.journal in
    record {
      within = omega arith;
      journal = c.requires.journal;
      rests = rests_self j (λ f. g.met.D.Device.only_now j.root.log.device.device f) c.requires.journal.regions;
      regions = refl;
      size = refl;
      run = λ _. (refl, c.requires.run);
      ended = λ _. c.requires.ended;
    }

pub loop-index-preserved : goal.loop-index-preserved
loop-index-preserved g c =
    let j = c.args.self.now.journal in
    let i = c.loop-index.invariant in
    let e = c.read_region.ensures in
    let r = c.run_text.ensures in
    let mid = c.read_region.new.self in
    let size = c.args.self.now.size in
    let at = c.loop-index.index in
    let regions = journal_regions j in
    let before = joined (all_records (take at regions)) in
    let all = joined (all_records (take (at + 1) regions)) in
    let text = c.deref.result.now in
    let below : at < length regions = omega (arith, c.loop-index-test.true, c.region_count.ensures, ap length i.regions) in
    let next : before ++ joined (get_or regions at []) ≡ all = sym (joined_append (all_records (take at regions)) (get_or regions at [])) ∙ ap joined (sym (regions_next regions at below)) in
    let honest_mid : IsTrue (g.D.Device.is_honest (journal_device c.run_text.new.self.journal)) → IsTrue (g.D.Device.is_honest (journal_device mid)) = subst (λ it. IsTrue (g.D.Device.is_honest (journal_device it))) r.same.0 in
    let was_read : IsTrue (g.D.Device.is_honest (journal_device mid)) → c.read_region.new.text.items ≡ joined (get_or regions at []) = λ honest.
    c.in_ok-read_region.ensures.read honest ∙ (λ k. (c.clear.ensures.items k) ++ joined (get_or (i.regions k) at [])) in
    record {
      within = omega (arith, below);
      journal = subst IsJournal (sym r.same.0) (e.journal.journal i.journal);
      rests = subst (λ it. Rests j it) (sym r.same.0) (rests_on j c.loop-index.self.journal mid i.rests e.rests);
      regions = ap journal_regions r.same.0 ∙ e.regions ∙ i.regions;
      size = r.same.1 ∙ i.size;
      run = λ honest.
          let text_is : text ≡ joined (get_or regions at []) = c.deref.ensures.value ∙ was_read (honest_mid honest) in
          let was = c.loop-index.self in
          let ran : IsRead was.size (read fresh before) c.loop-index.reading was.session = subst (λ (n : ℕ). IsRead n (read fresh before) c.loop-index.reading was.session) (sym i.size) (i.run (e.rests.honest (honest_mid honest))) in
          subst (λ s. IsRead size s c.in_ok-reading.reading c.run_text.new.self.session)
          (sym (read_both fresh before text) ∙ ap (λ (l : List ℕ). read fresh l) (ap (λ (more : List ℕ). before ++ more) text_is ∙ next))
          (subst (λ (n : ℕ). IsRead n (read (read fresh before) text) c.in_ok-reading.reading c.run_text.new.self.session) i.size (c.in_ok-reading.ensures.run (read fresh before) ran));
      ended = λ honest.
          let text_is : c.deref-in-loop-index.result.now ≡ joined (get_or regions at []) = c.deref-in-loop-index.ensures.value ∙ was_read (honest_mid honest) in
          c.has_ended-self.ensures before (r.same.2 ∙ i.ended (e.rests.honest (honest_mid honest))) ∙ ap is_ended (ap (λ (more : List ℕ). before ++ more) text_is ∙ next);
    }

pub returns-clause-begun : goal.returns-clause-begun
returns-clause-begun g c =
    let j = c.args.self.now.journal in
    let i = c.loop-index.invariant in
    let new = c.loop-index.self in
    let size = c.args.self.now.size in
    let regions = journal_regions j in
    let bytes = g.D.Device.seen j.root.log.device.device in
    let so_far = joined (all_records (take c.loop-index.index regions)) in
    let all : so_far ≡ kept_bytes new =
    ap (λ rs. joined (all_records rs)) (regions_whole regions c.loop-index.index (omega (arith, c.loop-index-test.false, c.region_count.ensures, ap length i.regions)))
    ∙ ap joined (regions_have_all j.len (journal_places j) bytes ∙ sym i.rests.records) in
    let no_base : is_base c.loop-index.reading ≡ false = sym c.is_base.ensures ∙ c.if-is_base.false in
    begun new c.loop-index.reading c.is_fresh.result c.is_fresh.ensures so_far size all i.journal i.size no_base i.run i.ended

pub returns-in_err-reading-clause-rests : goal.returns-in_err-reading-clause-rests
returns-in_err-reading-clause-rests g c =
    let j = c.args.self.now.journal in
    subst (λ it. Rests j it) (sym c.run_text.ensures.same.0) (rests_on j c.loop-index.self.journal c.read_region.new.self c.loop-index.invariant.rests c.read_region.ensures.rests)

pub returns-in_err-read_region-clause-rests : goal.returns-in_err-read_region-clause-rests
returns-in_err-read_region-clause-rests g c = rests_on c.args.self.now.journal c.loop-index.self.journal c.read_region.new.self c.loop-index.invariant.rests c.read_region.ensures.rests
