-- The region that grows is added behind the others.
use Rattle.std.proofs.Common.{◌≡◌, ℕ, ◌+◌, ◌≤◌, List, ◌++◌, length, sym, ◌∙◌, ap, append_assoc}
use Rattle.std.specs.Prelude.{Result, Ok, Err, OnOk}
use Rattle.cq_disk.specs.Region.{part}
use Rattle.cq_records.specs.Frames.{records}
use Rattle.cq_journal.specs.Base.{base_records}
use Rattle.cq_journal.specs.Regions.{records_at}
use Rattle.cq_journal.proofs.Copies.{rests_on, stays_journal_on}
use Rattle.cq_journal.proofs.Regions.{last_of, records_more}
use Rattle.cq_journal.proofs.journal.Journal.copy_to_base.Goals as goal

on_ok : {T E P Q : Type 0} (r : Result T E) → OnOk r P → (P → Q) → OnOk r Q
on_ok (Ok x) p step = step p
on_ok (Err e) p step = tt

pub copy_region-requires-clause-within : goal.copy_region-requires-clause-within
copy_region-requires-clause-within g c =
    let l = c.copy_closed.new.self in
    last_of (λ n. n + l.len ≤ length (g.D.Device.seen l.root.log.device.device)) l.closed.items l.growing c.in_ok-copy_closed.ensures.journal.regions.within

pub returns-clause-rests : goal.returns-clause-rests
returns-clause-rests g c = rests_on c.args.self.now c.copy_closed.new.self c.copy_region.new.self c.copy_closed.ensures.rests c.copy_region.ensures.rests

pub returns-clause-rests_there : goal.returns-clause-rests_there
returns-clause-rests_there g c = rests_on c.args.to.now c.copy_closed.new.to c.copy_region.new.to c.copy_closed.ensures.rests_there c.copy_region.ensures.rests_there

pub returns-clause-copied : goal.returns-clause-copied
returns-clause-copied g c =
    let j = c.args.self.now in
    let d = g.D.Device in
    let l = c.copy_closed.new.self in
    let first = c.in_ok-copy_closed.ensures in
    let before = base_records c.args.to.now c.args.base.now in
    let bytes = d.seen j.root.log.device.device in
    let closed = records_at j.len j.closed.items bytes in
    let last = records (part j.growing j.len bytes) in
    let last_is : records (part l.growing l.len (d.seen l.root.log.device.device)) ≡ last = λ i. records (part (first.read.growing i) (first.read.len i) (first.read.seen i)) in
    on_ok c.copy_region.result c.copy_region.ensures.copied (λ copied honest.
    copied honest
    ∙ (λ i. (first.copied (c.copy_region.ensures.rests.honest honest) i) ++ (last_is i))
    ∙ append_assoc before closed last
    ∙ ap (λ (rs : List (List ℕ)). before ++ rs) (sym (records_more j.len j.closed.items j.growing bytes)))

pub returns-clause-journal : goal.returns-clause-journal
returns-clause-journal g c =
    on_ok c.copy_region.result c.copy_region.ensures.journal (λ later. stays_journal_on c.args.self.now c.copy_closed.new.self c.copy_region.new.self c.in_ok-copy_closed.ensures.journal later)

pub returns-clause-full : goal.returns-clause-full
returns-clause-full g c = λ full. stays_journal_on c.args.self.now c.copy_closed.new.self c.copy_region.new.self c.in_ok-copy_closed.ensures.journal (c.copy_region.ensures.full full)
