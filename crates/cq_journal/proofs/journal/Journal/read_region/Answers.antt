-- A region that counts is read.
use Rattle.std.proofs.Common.{rules, inl, inr, ⊎_elim, ℕ, ◌+◌, ◌<◌, List, ◌++◌, length, drop, sym, ◌∙◌, ap, subst, arith, Result, Ok, Err}
use Rattle.std.specs.Prelude.{IsErrOf, get_or}
use Rattle.cq_disk.specs.Region.{part}
use Rattle.cq_records.specs.declared.behind.Behind.{Behind}
use Rattle.cq_records.specs.declared.fault.ReadFault.TheVariants.{Damaged}
use Rattle.cq_journal.specs.Journal.{journal_places}
use Rattle.cq_journal.proofs.RegionLists.{region_here, regions_long}
use Rattle.cq_records.specs.Frames.{frames, ends_with, records, joined, all_sound, HasMore, IsDamaged}
use Rattle.cq_journal.specs.declared.fault.RegionFault.{RegionFault}
use Rattle.cq_journal.specs.declared.fault.RegionFault.TheVariants as faults
use Rattle.cq_journal.proofs.Refused.{not_both, region_ends, region_sound}
use Rattle.cq_journal.proofs.journal.Journal.read_region.Goals as goal

pub place_of-place-requires-clause-index : goal.place_of-place-requires-clause-index
place_of-place-requires-clause-index g c =
    let j = c.args.self.now in
    omega (arith, c.requires.index, regions_long j.len (journal_places j) (g.D.Device.seen j.root.log.device.device))

pub returns-in-Ok-clause-read : goal.returns-in-Ok-clause-read
returns-in-Ok-clause-read g c = λ honest.
    let j = c.args.self.now in
    let bytes = g.D.Device.seen j.root.log.device.device in
    let below : c.args.index < length (journal_places j) = omega (arith, c.requires.index, regions_long j.len (journal_places j) bytes) in
    c.in-Ok.ensures.read honest
    ∙ ap (λ (rs : List (List ℕ)). c.args.text.now.items ++ joined rs)
    (ap (λ (n : ℕ). records (part n j.len bytes)) c.place_of-place.ensures.place ∙ sym (region_here j.len (journal_places j) c.args.index bytes below))

pub returns-in-Ok-clause-count : goal.returns-in-Ok-clause-count
returns-in-Ok-clause-count g c = λ honest.
    let j = c.args.self.now in
    let bytes = g.D.Device.seen j.root.log.device.device in
    let below : c.args.index < length (journal_places j) = omega (arith, c.requires.index, regions_long j.len (journal_places j) bytes) in
    c.in-Ok.ensures.count honest
    ∙ (ap (λ (n : ℕ). length (records (part n j.len bytes))) c.place_of-place.ensures.place ∙ ap (λ (rs : List (List ℕ)). length rs) (sym (region_here j.len (journal_places j) c.args.index bytes below)))

pub returns-in-Ok-clause-ends : goal.returns-in-Ok-clause-ends
returns-in-Ok-clause-ends g c = λ honest.
    let j = c.args.self.now in
    let bytes = g.D.Device.seen j.root.log.device.device in
    (λ i. ends_with (sym c.behind_in-behind.ensures i) (part (sym c.place_of-place.ensures.place i) j.len bytes)) ∙ c.in-Ok.ensures.ends honest

-- the place that is told
abbrev told : Result ℕ RegionFault → ℕ
told (Ok count) = 0
told (Err (faults.Damaged place)) = place
told (Err faults.NoMemory) = 0
told (Err faults.Failed) = 0

pub returns-in-Err-Damaged-clause-damaged : goal.returns-in-Err-Damaged-clause-damaged
returns-in-Err-Damaged-clause-damaged g c = λ place is honest.
    let j = c.args.self.now in
    let bytes = g.D.Device.seen j.root.log.device.device in
    let at = c.read_place.new.at in
    let here = c.place_of-place.ensures.place in
    let damaged : IsErrOf c.read_place.result Damaged = search rules in
    record {
      at = at;
      is = sym (ap told is) ∙ ap (λ (p : ℕ). p + at) here;
      damaged = ⊎_elim
          (λ it. inl (subst (λ (p : ℕ). IsDamaged (drop at (part p j.len bytes))) here it))
          (λ more. inr (subst (λ (b : Behind). HasMore b at (part (get_or (journal_places j) c.args.index 0) j.len bytes)) c.behind_in-behind.ensures (subst (λ (p : ℕ). HasMore c.behind_in-behind.result at (part p j.len bytes)) here more)))
          (c.read_place.ensures.damaged damaged honest);
    }

pub returns-in-Err-Damaged-clause-refused : goal.returns-in-Err-Damaged-clause-refused
returns-in-Err-Damaged-clause-refused g c = λ place is honest i.
    let j = c.args.self.now in
    let bytes = g.D.Device.seen j.root.log.device.device in
    let below : c.args.index < length (journal_places j) = omega (arith, c.requires.index, regions_long j.len (journal_places j) bytes) in
    let damaged : IsErrOf c.read_place.result Damaged = search rules in
    let honest_old = c.read_place.ensures.rests.honest honest in
    ⊎_elim
    (λ unsound.
    not_both (region_sound j c.requires.has_regions honest_old i c.args.index below)
    (sym (ap (λ (p : ℕ). all_sound (frames (part p j.len bytes))) c.place_of-place.ensures.place) ∙ unsound))
    (λ more.
    not_both (region_ends j c.requires.has_regions honest_old i c.args.index below)
    (sym (λ k. ends_with (c.behind_in-behind.ensures k) (part (c.place_of-place.ensures.place k) j.len bytes)) ∙ more))
    (c.read_place.ensures.unsound damaged honest)
