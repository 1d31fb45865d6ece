-- A base goes on in a blank region.
use Rattle.std.proofs.Common.{◌≡◌, ℕ, ◌+◌, ◌<◌, ◌≤◌, true, List, [], ◌∷◌, ◌++◌, length, refl, sym, ◌∙◌, ap, subst, arith, length-append}
use Rattle.cq_disk.specs.Region.{part}
use Rattle.cq_records.specs.Frames.{is_closed}
use Rattle.cq_disk.proofs.Moments.{started}
use Rattle.cq_journal.specs.Base.{base_places}
use Rattle.cq_journal.specs.declared.number.TheConstants.{NUMBER_LIMIT}
use Rattle.cq_journal.specs.Regions.{Each, AreApart, HasRecords, records_at}
use Rattle.cq_journal.specs.Journal.{journal_places}
use Rattle.std.proofs.Common.{rules}
use Rattle.std.specs.Prelude.{IsErrOf}
use Rattle.cq_records.specs.declared.fault.LogFault.TheVariants.{Full as LogFull}
use Rattle.cq_journal.proofs.Bases.{base_still, base_records_still, free_outside, base_made, records_widened}
use Rattle.cq_journal.proofs.Moves.{blank_log, log_closed}
use Rattle.cq_journal.proofs.Regions.{each_more, kept_of}
use Rattle.cq_journal.proofs.Intact.{rests_intact}
use Rattle.cq_journal.proofs.journal.Journal.widen_base.Goals as goal

pub clear_outside-requires-clause-outside : goal.clear_outside-requires-clause-outside
clear_outside-requires-clause-outside g c = free_outside c.args.self.now c.in-Some.place c.in-Some.ensures.free

pub returns-in_default-clause-any_moment : goal.returns-in_default-clause-any_moment
returns-in_default-clause-any_moment g c = λ honest.
    let j = c.args.self.now in
    let q = c.requires.journal in
    let d = g.D.Device in
    let device = j.root.log.device.device in
    let places : List ℕ = j.closed.items ++ j.growing ∷ [] in
    let P : List ℕ → Type 0 = HasRecords j.root.log.device.len j.len (records_at j.len places (d.seen device)) in
    started d.moment d.left_since device P (λ f left.
    subst P (sym (q.regions.root.durable f (g.met.D.Device.only_now device f left))) (kept_of j.root.log.device.len j.len j.root.number places (d.seen device) q.regions.small (q.regions.names honest)))

pub returns-in_err-closed-clause-any_moment : goal.returns-in_err-closed-clause-any_moment
returns-in_err-closed-clause-any_moment g c = λ honest.
    let j = c.args.self.now in
    let q = c.requires.journal in
    let d = g.D.Device in
    let device = j.root.log.device.device in
    let places : List ℕ = j.closed.items ++ j.growing ∷ [] in
    let P : List ℕ → Type 0 = HasRecords j.root.log.device.len j.len (records_at j.len places (d.seen device)) in
    started d.moment d.left_since device P (λ f left.
    subst P (sym (q.regions.root.durable f (g.met.D.Device.only_now device f left))) (kept_of j.root.log.device.len j.len j.root.number places (d.seen device) q.regions.small (q.regions.names honest)))

pub returns-clause-base : goal.returns-clause-base
returns-clause-base g c =
    let j = c.args.self.now in
    let b = c.args.base.now in
    let q = c.requires.base in
    let p = c.in-Some.place in
    let found = c.in-Some.ensures in
    let free = found.free in
    let done = c.in_ok-clear_outside.ensures in
    let ns : List ℕ = base_places b in
    let h = j.root.log.device.len in
    let closed_is : c.in_ok-closed.closed.items ≡ ns = c.in_ok-closed.ensures ∙ ap (λ (xs : List ℕ). xs ++ b.growing ∷ []) c.deref.ensures.value in
    base_made p j c.clear_outside.new.self done.changes (record { closed = c.in_ok-closed.closed; growing = p; end = 0 }) ns closed_is refl
    (each_more (λ n. h + h ≤ n) ns p q.behind free.behind)
    (each_more (λ n. n + j.len ≤ length (g.D.Device.seen j.root.log.device.device)) ns p q.within free.within)
    (each_more (λ n. n < NUMBER_LIMIT) ns p q.small free.small)
    (each_more (λ n. Each (λ m. AreApart j.len m n) (journal_places j)) ns p q.apart free.apart)
    (each_more (λ n. AreApart j.len n p) b.closed.items b.growing found.apart found.apart_growing)
    (omega (arith, length-append ns (p ∷ []), length-append b.closed.items (b.growing ∷ []), found.few))
    q.sound
    (each_more (λ n. is_closed (part n j.len (g.D.Device.seen j.root.log.device.device)) ≡ true) b.closed.items b.growing q.closed_logs
    (log_closed (part b.growing j.len (g.D.Device.seen j.root.log.device.device)) b.end q.log))
    (blank_log j.len _ done.zeros)

pub returns-clause-same : goal.returns-clause-same
returns-clause-same g c =
    let j = c.args.self.now in
    let b = c.args.base.now in
    let p = c.in-Some.place in
    let found = c.in-Some.ensures in
    let done = c.in_ok-clear_outside.ensures in
    let ns : List ℕ = base_places b in
    let closed_is : c.in_ok-closed.closed.items ≡ ns = c.in_ok-closed.ensures ∙ ap (λ (xs : List ℕ). xs ++ b.growing ∷ []) c.deref.ensures.value in
    records_widened p j c.clear_outside.new.self done.changes (record { closed = c.in_ok-closed.closed; growing = p; end = 0 }) ns closed_is refl
    c.requires.base.behind found.free.behind (each_more (λ n. AreApart j.len n p) b.closed.items b.growing found.apart found.apart_growing) done.zeros

pub returns-in_err-clear_outside-clause-full : goal.returns-in_err-clear_outside-clause-full
returns-in_err-clear_outside-clause-full g c = λ full.
    let j = c.args.self.now in
    let b = c.args.base.now in
    let p = c.in-Some.place in
    let new = c.clear_outside.new.self in
    let found = c.in-Some.ensures in
    let changes = c.clear_outside.ensures.changes in
    let is : IsErrOf c.clear_outside.result LogFull = search rules in
    let apart : Each (λ n. AreApart j.len n p) (base_places b) = each_more (λ n. AreApart j.len n p) b.closed.items b.growing found.apart found.apart_growing in
    let places : journal_places new ≡ journal_places j = λ i. (changes.closed i).items ++ changes.growing i ∷ [] in (
      c.clear_outside.ensures.full is,
      base_still p j new places changes.len changes.half changes.length changes.beside b c.requires.base apart,
      base_records_still p j new places changes.len changes.half changes.length changes.beside b c.requires.base apart,
    )

pub returns-in_default-clause-intact : goal.returns-in_default-clause-intact
returns-in_default-clause-intact g c = rests_intact c.args.self.now (λ f. g.met.D.Device.only_now c.args.self.now.root.log.device.device f) c.requires.journal.regions

pub returns-in_err-closed-clause-intact : goal.returns-in_err-closed-clause-intact
returns-in_err-closed-clause-intact g c = rests_intact c.args.self.now (λ f. g.met.D.Device.only_now c.args.self.now.root.log.device.device f) c.requires.journal.regions
