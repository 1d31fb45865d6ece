-- All records are added to a base of the other journal, which then takes the place of what it has.
use Rattle.std.proofs.Common.{◌≡◌, arith, inl, inr, ℕ, List, ◌++◌, sym, ◌∙◌, ap, subst}
use Rattle.std.specs.Prelude.{IsErrOf}
use Rattle.cq_records.specs.declared.fault.LogFault.TheVariants.{Failed as LogFailed, Full as LogFull}
use Rattle.cq_disk.proofs.Moments.{weakened, runs_on}
use Rattle.cq_journal.specs.Base.{HasEitherRecords, base_records}
use Rattle.cq_journal.specs.Journal.{IsJournal, journal_half, journal_records, region_len}
use Rattle.cq_journal.specs.Rests.{Rests}
use Rattle.cq_journal.proofs.Copies.{either_back, rests_on, rests_self}
use Rattle.cq_journal.proofs.Faults.{failed_from, full_from}
use Rattle.cq_journal.proofs.Intact.{leaves_on, stays_on}
use Rattle.cq_journal.proofs.journal.Journal.copy_into.Goals as goal

pub returns-in_err-base-clause-rests : goal.returns-in_err-base-clause-rests
returns-in_err-base-clause-rests g c = rests_self c.args.self.now (λ f. g.met.D.Device.only_now c.args.self.now.root.log.device.device f) c.requires.has_regions

pub returns-in_err-base-clause-any_moment : goal.returns-in_err-base-clause-any_moment
returns-in_err-base-clause-any_moment g c = λ honest honest_there.
    let e = g.E.Device in
    let to = c.args.to.now in
    weakened e.moment e.left_since to.root.log.device.device c.begin_base.new.self.root.log.device.device _ _ (c.begin_base.ensures.any_moment honest_there) (λ f is. inl is)

pub returns-in_err-copy_to_base-clause-any_moment : goal.returns-in_err-copy_to_base-clause-any_moment
returns-in_err-copy_to_base-clause-any_moment g c = λ honest honest_there.
    let e = g.E.Device in
    let to = c.args.to.now in
    let b = c.begin_base.ensures in
    let all = c.copy_to_base.ensures in
    let begun : Rests to c.begin_base.new.self = record { half = b.lengths.0; len = b.lengths.1; records = b.records; honest = b.honest; moments = b.any_moment; intact = b.intact; stays = b.stays; later = b.later } in
    let run = rests_on to c.begin_base.new.self c.copy_to_base.new.to begun all.rests_there in
    weakened e.moment e.left_since to.root.log.device.device c.copy_to_base.new.to.root.log.device.device _ _ (run.moments honest_there) (λ f is. inl is)

pub returns-in_err-rewrite-clause-any_moment : goal.returns-in_err-rewrite-clause-any_moment
returns-in_err-rewrite-clause-any_moment g c = λ honest honest_there.
    let e = g.E.Device in
    let j = c.args.self.now in
    let to = c.args.to.now in
    let mid = c.copy_to_base.new.to in
    let b = c.begin_base.ensures in
    let all = c.copy_to_base.ensures in
    let w = c.rewrite.ensures in
    let begun : Rests to c.begin_base.new.self = record { half = b.lengths.0; len = b.lengths.1; records = b.records; honest = b.honest; moments = b.any_moment; intact = b.intact; stays = b.stays; later = b.later } in
    let run = rests_on to c.begin_base.new.self mid begun all.rests_there in
    let base_is : base_records mid c.copy_to_base.new.base ≡ journal_records j = c.in_ok-copy_to_base.ensures.copied honest ∙ ap (λ (rs : List (List ℕ)). rs ++ journal_records j) c.in_ok-base.ensures.empty in
    let P : List ℕ → Type 0 = HasEitherRecords (journal_half to) (region_len to) (journal_records to) (journal_records j) in
    runs_on e.moment e.left_since to.root.log.device.device mid.root.log.device.device c.rewrite.new.self.root.log.device.device P
    (weakened e.moment e.left_since to.root.log.device.device mid.root.log.device.device _ P (run.moments (w.honest honest_there)) (λ f is. inl is))
    (weakened e.moment e.left_since mid.root.log.device.device c.rewrite.new.self.root.log.device.device _ P (w.any_moment honest_there) (either_back to mid run (base_records mid c.copy_to_base.new.base) (journal_records j) base_is))

pub returns-clause-any_moment : goal.returns-clause-any_moment
returns-clause-any_moment g c = λ honest honest_there.
    let e = g.E.Device in
    let j = c.args.self.now in
    let to = c.args.to.now in
    let mid = c.copy_to_base.new.to in
    let b = c.begin_base.ensures in
    let all = c.copy_to_base.ensures in
    let w = c.rewrite.ensures in
    let begun : Rests to c.begin_base.new.self = record { half = b.lengths.0; len = b.lengths.1; records = b.records; honest = b.honest; moments = b.any_moment; intact = b.intact; stays = b.stays; later = b.later } in
    let run = rests_on to c.begin_base.new.self mid begun all.rests_there in
    let base_is : base_records mid c.copy_to_base.new.base ≡ journal_records j = c.in_ok-copy_to_base.ensures.copied honest ∙ ap (λ (rs : List (List ℕ)). rs ++ journal_records j) c.in_ok-base.ensures.empty in
    let P : List ℕ → Type 0 = HasEitherRecords (journal_half to) (region_len to) (journal_records to) (journal_records j) in
    runs_on e.moment e.left_since to.root.log.device.device mid.root.log.device.device c.rewrite.new.self.root.log.device.device P
    (weakened e.moment e.left_since to.root.log.device.device mid.root.log.device.device _ P (run.moments (w.honest honest_there)) (λ f is. inl is))
    (weakened e.moment e.left_since mid.root.log.device.device c.rewrite.new.self.root.log.device.device _ P (w.any_moment honest_there) (either_back to mid run (base_records mid c.copy_to_base.new.base) (journal_records j) base_is))

pub returns-clause-copied : goal.returns-clause-copied
returns-clause-copied g c = λ honest.
    c.in_ok-rewrite.ensures.rewritten ∙ c.in_ok-copy_to_base.ensures.copied honest ∙ ap (λ (rs : List (List ℕ)). rs ++ journal_records c.args.self.now) c.in_ok-base.ensures.empty

pub returns-in_err-rewrite-clause-full_there : goal.returns-in_err-rewrite-clause-full_there
returns-in_err-rewrite-clause-full_there g c = λ full.
    let to = c.args.to.now in
    let mid = c.copy_to_base.new.to in
    let is : IsErrOf c.rewrite.result LogFull = full_from c.from_residual-in_err-rewrite.result c.rewrite.result c.in_err-rewrite.field-0.0 c.in_err-rewrite.was c.from_residual-in_err-rewrite.ensures.1 full in
    let same : c.rewrite.new.self ≡ mid = c.rewrite.ensures.full is in
    let records_are : journal_records mid ≡ journal_records to = c.copy_to_base.ensures.rests_there.records ∙ c.begin_base.ensures.records in
    (subst IsJournal (sym same) c.in_ok-copy_to_base.ensures.there, ap journal_records same ∙ records_are)

pub returns-in_err-copy_to_base-clause-intact : goal.returns-in_err-copy_to_base-clause-intact
returns-in_err-copy_to_base-clause-intact g c =
    let to = c.args.to.now in
    let mid = c.copy_to_base.new.to in
    let b = c.begin_base.ensures in
    let all = c.copy_to_base.ensures in
    let begun : Rests to c.begin_base.new.self = record { half = b.lengths.0; len = b.lengths.1; records = b.records; honest = b.honest; moments = b.any_moment; intact = b.intact; stays = b.stays; later = b.later } in
    let run = rests_on to c.begin_base.new.self mid begun all.rests_there in
    run.intact

pub returns-in_err-rewrite-clause-intact : goal.returns-in_err-rewrite-clause-intact
returns-in_err-rewrite-clause-intact g c =
    let to = c.args.to.now in
    let mid = c.copy_to_base.new.to in
    let b = c.begin_base.ensures in
    let all = c.copy_to_base.ensures in
    let begun : Rests to c.begin_base.new.self = record { half = b.lengths.0; len = b.lengths.1; records = b.records; honest = b.honest; moments = b.any_moment; intact = b.intact; stays = b.stays; later = b.later } in
    let run = rests_on to c.begin_base.new.self mid begun all.rests_there in
    leaves_on to mid c.rewrite.new.self run.half run.len c.rewrite.ensures.honest run.intact run.stays c.rewrite.ensures.intact

pub returns-clause-intact : goal.returns-clause-intact
returns-clause-intact g c =
    let to = c.args.to.now in
    let mid = c.copy_to_base.new.to in
    let b = c.begin_base.ensures in
    let all = c.copy_to_base.ensures in
    let begun : Rests to c.begin_base.new.self = record { half = b.lengths.0; len = b.lengths.1; records = b.records; honest = b.honest; moments = b.any_moment; intact = b.intact; stays = b.stays; later = b.later } in
    let run = rests_on to c.begin_base.new.self mid begun all.rests_there in
    leaves_on to mid c.rewrite.new.self run.half run.len c.rewrite.ensures.honest run.intact run.stays c.rewrite.ensures.intact

pub returns-clause-stays : goal.returns-clause-stays
returns-clause-stays g c =
    let to = c.args.to.now in
    let mid = c.copy_to_base.new.to in
    let b = c.begin_base.ensures in
    let all = c.copy_to_base.ensures in
    let begun : Rests to c.begin_base.new.self = record { half = b.lengths.0; len = b.lengths.1; records = b.records; honest = b.honest; moments = b.any_moment; intact = b.intact; stays = b.stays; later = b.later } in
    let run = rests_on to c.begin_base.new.self mid begun all.rests_there in
    stays_on to mid c.rewrite.new.self run.half run.len c.rewrite.ensures.honest run.stays c.in_ok-rewrite.ensures.stays

pub returns-in_err-rewrite-clause-failed : goal.returns-in_err-rewrite-clause-failed
returns-in_err-rewrite-clause-failed g c = λ failed.
    let is : IsErrOf c.rewrite.result LogFailed = failed_from c.from_residual-in_err-rewrite.result c.rewrite.result c.in_err-rewrite.field-0.0 c.in_err-rewrite.was c.from_residual-in_err-rewrite.ensures.1 failed in
    inr (omega (arith, c.begin_base.ensures.later, c.copy_to_base.ensures.rests_there.later, c.rewrite.ensures.failed is))
