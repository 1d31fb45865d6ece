-- What a write left that failed is put on the medium.
use Rattle.std.proofs.Common.{List, ℕ, refl, sym, ◌∙◌, subst}
use Rattle.cq_journal.proofs.OtherRegions.{changes_on, journal_still}
use Rattle.cq_disk.proofs.Moments.{runs_on, weakened}
use Rattle.cq_journal.specs.Intact.{IsIntact}
use Rattle.cq_journal.specs.Journal.{journal_half, journal_records, region_len}
use Rattle.cq_journal.specs.Regions.{HasRecords}
use Rattle.cq_journal.proofs.journal.Journal.clear_outside.Goals as goal

pub returns-in_ok-settle-in-Err-Failed-clause-full : goal.returns-in_ok-settle-in-Err-Failed-clause-full
returns-in_ok-settle-in-Err-Failed-clause-full g c = λ _.
    let mid = c.blank_outside.new.self in
    let s = c.settle.ensures in
    journal_still c.args.place c.args.self.now (record { root = c.settle.new.self; len = mid.len; closed = mid.closed; growing = mid.growing; torn = mid.torn; end = mid.end }) c.requires.outside
    (changes_on c.args.place c.args.self.now mid (record { root = c.settle.new.self; len = mid.len; closed = mid.closed; growing = mid.growing; torn = mid.torn; end = mid.end }) c.blank_outside.ensures.changes refl refl refl refl refl s.half s.number s.seen
    (λ honest. sym s.honest ∙ honest))
    c.in_ok-settle-in-Err-Failed.ensures.root c.requires.journal

pub returns-in_ok-settle-in-Err-Failed-clause-intact : goal.returns-in_ok-settle-in-Err-Failed-clause-intact
returns-in_ok-settle-in-Err-Failed-clause-intact g c = λ now i.
    let d = g.D.Device in
    let j = c.args.self.now in
    let device = j.root.log.device.device in
    let mid = c.blank_outside.new.self.root.log.device.device in
    let P : List ℕ → Type 0 = IsIntact j.root.log.device.len j.len in
    let run = c.blank_outside.ensures.intact (sym c.settle.ensures.honest ∙ now) i in
    runs_on d.moment d.left_since device mid c.settle.new.self.log.device.device P run
    (weakened d.moment d.left_since mid c.settle.new.self.log.device.device _ P c.settle.ensures.any_moment (λ f may. run.each f (g.met.D.Device.counts_now mid (d.moment device) f run.later may)))

pub returns-in_ok-settle-in-Err-Failed-clause-stays : goal.returns-in_ok-settle-in-Err-Failed-clause-stays
returns-in_ok-settle-in-Err-Failed-clause-stays g c = λ now i.
    let j = c.args.self.now in
    subst (IsIntact j.root.log.device.len j.len) (sym c.settle.ensures.seen) (c.blank_outside.ensures.stays (sym c.settle.ensures.honest ∙ now) i)

pub returns-in_err-settle-in-Err-Failed-clause-intact : goal.returns-in_err-settle-in-Err-Failed-clause-intact
returns-in_err-settle-in-Err-Failed-clause-intact g c = λ now i.
    let d = g.D.Device in
    let j = c.args.self.now in
    let device = j.root.log.device.device in
    let mid = c.blank_outside.new.self.root.log.device.device in
    let P : List ℕ → Type 0 = IsIntact j.root.log.device.len j.len in
    let run = c.blank_outside.ensures.intact (sym c.settle.ensures.honest ∙ now) i in
    runs_on d.moment d.left_since device mid c.settle.new.self.log.device.device P run
    (weakened d.moment d.left_since mid c.settle.new.self.log.device.device _ P c.settle.ensures.any_moment (λ f may. run.each f (g.met.D.Device.counts_now mid (d.moment device) f run.later may)))

pub returns-in_err-settle-in-Err-Failed-clause-stays : goal.returns-in_err-settle-in-Err-Failed-clause-stays
returns-in_err-settle-in-Err-Failed-clause-stays g c = λ now i.
    let j = c.args.self.now in
    subst (IsIntact j.root.log.device.len j.len) (sym c.settle.ensures.seen) (c.blank_outside.ensures.stays (sym c.settle.ensures.honest ∙ now) i)

pub returns-in_ok-settle-in-Err-Failed-clause-any_moment : goal.returns-in_ok-settle-in-Err-Failed-clause-any_moment
returns-in_ok-settle-in-Err-Failed-clause-any_moment g c = λ now.
    let d = g.D.Device in
    let j = c.args.self.now in
    let device = j.root.log.device.device in
    let mid = c.blank_outside.new.self.root.log.device.device in
    let P : List ℕ → Type 0 = HasRecords (journal_half j) (region_len j) (journal_records j) in
    let run = c.blank_outside.ensures.any_moment (sym c.settle.ensures.honest ∙ now) in
    runs_on d.moment d.left_since device mid c.settle.new.self.log.device.device P run
    (weakened d.moment d.left_since mid c.settle.new.self.log.device.device _ P c.settle.ensures.any_moment (λ f may. run.each f (g.met.D.Device.counts_now mid (d.moment device) f run.later may)))

pub returns-in_err-settle-in-Err-Failed-clause-any_moment : goal.returns-in_err-settle-in-Err-Failed-clause-any_moment
returns-in_err-settle-in-Err-Failed-clause-any_moment g c = λ now.
    let d = g.D.Device in
    let j = c.args.self.now in
    let device = j.root.log.device.device in
    let mid = c.blank_outside.new.self.root.log.device.device in
    let P : List ℕ → Type 0 = HasRecords (journal_half j) (region_len j) (journal_records j) in
    let run = c.blank_outside.ensures.any_moment (sym c.settle.ensures.honest ∙ now) in
    runs_on d.moment d.left_since device mid c.settle.new.self.log.device.device P run
    (weakened d.moment d.left_since mid c.settle.new.self.log.device.device _ P c.settle.ensures.any_moment (λ f may. run.each f (g.met.D.Device.counts_now mid (d.moment device) f run.later may)))
