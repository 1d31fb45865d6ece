-- A base takes the place of all, or nothing changes.
use Rattle.std.proofs.Common.{⊎_elim, ℕ, refl, sym, subst}
use Rattle.std.proofs.Common.{rules}
use Rattle.std.specs.Prelude.{IsErrOf}
use Rattle.cq_journal.specs.Journal.{journal_records}
use Rattle.cq_journal.proofs.Copies.{rests_self}
use Rattle.cq_records.specs.Frames.{joined}
use Rattle.cq_records.specs.declared.fault.LogFault.TheVariants.{Full}
use Rattle.cq_script.specs.Resumed.{IsBaseOf}
use Rattle.cq_kept_session.specs.Bases.{AreOf}
use Rattle.cq_kept_base.proofs.Rewriting.{rests_tries}
use Rattle.cq_kept_session.proofs.Readings.{is_one}
use Rattle.cq_kept_session.proofs.Rewritten.{kept_beside, kept_rewritten, means_base}
use Rattle.cq_kept_session.proofs.kept.KeptSession.rewrite.Goals as goal

pub returns-then-not-self-clause-tries : goal.returns-then-not-self-clause-tries
returns-then-not-self-clause-tries g c =
    let j = c.args.self.now.journal in
    (journal_records j, rests_tries j j (rests_self j (λ f. g.met.D.Device.only_now j.root.log.device.device f) c.requires.journal.regions), λ honest bytes stands. stands)

pub returns-then-get-ne1-clause-tries : goal.returns-then-get-ne1-clause-tries
returns-then-get-ne1-clause-tries g c =
    let j = c.args.self.now.journal in
    (journal_records j, rests_tries j j (rests_self j (λ f. g.met.D.Device.only_now j.root.log.device.device f) c.requires.journal.regions), λ honest bytes stands. stands)

pub returns-in_default-clause-tries : goal.returns-in_default-clause-tries
returns-in_default-clause-tries g c =
    let j = c.args.self.now.journal in
    (journal_records j, rests_tries j j (rests_self j (λ f. g.met.D.Device.only_now j.root.log.device.device f) c.requires.journal.regions), λ honest bytes stands. stands)

pub returns-clause-kept : goal.returns-clause-kept
returns-clause-kept g c =
    let r = c.in_ok-replace_records.ensures in
    kept_rewritten c.args.self.now _ _ _ r.journal refl refl (is_one c.args.self.now.size c.get.result c.get.ensures.value c.if-get-ne1.false) c.if-not-self.false r.ended r.stands
    (λ size before is. c.in-Some.ensures.again size before (subst (λ (n : ℕ). IsBaseOf size c.in-Some.store.now n before) c.line_count.ensures is))

pub returns-clause-stands : goal.returns-clause-stands
returns-clause-stands g c = λ honest bytes stands.
    let k = c.args.self.now in
    let ran = c.requires.run (c.replace_records.ensures.honest honest) bytes stands in
    means_base k.size _ _ (joined (journal_records c.replace_records.new.journal)) bytes c.in_ok-replace_records.ensures.stands (subst (λ (n : ℕ). IsBaseOf k.size c.in-Some.store.now n bytes) (sym c.line_count.ensures) (c.in-Some.ensures.base k.size bytes ran))

pub returns-clause-tries : goal.returns-clause-tries
returns-clause-tries g c =
    let k = c.args.self.now in
    let t = c.replace_records.ensures.tries in (
      t.0,
      t.1,
      λ honest bytes stands.
          let ran = c.requires.run (c.replace_records.ensures.honest honest) bytes stands in
          ⊎_elim (λ same. subst (λ rs. AreOf k.size (joined rs) bytes) (sym same) stands)
          (λ is. means_base k.size _ _ (joined t.0) bytes is (subst (λ (n : ℕ). IsBaseOf k.size c.in-Some.store.now n bytes) (sym c.line_count.ensures) (c.in-Some.ensures.base k.size bytes ran))) t.2,
    )

pub returns-in_err-replace_records-clause-tries : goal.returns-in_err-replace_records-clause-tries
returns-in_err-replace_records-clause-tries g c =
    let k = c.args.self.now in
    let t = c.replace_records.ensures.tries in (
      t.0,
      t.1,
      λ honest bytes stands.
          let ran = c.requires.run (c.replace_records.ensures.honest honest) bytes stands in
          ⊎_elim (λ same. subst (λ rs. AreOf k.size (joined rs) bytes) (sym same) stands)
          (λ is. means_base k.size _ _ (joined t.0) bytes is (subst (λ (n : ℕ). IsBaseOf k.size c.in-Some.store.now n bytes) (sym c.line_count.ensures) (c.in-Some.ensures.base k.size bytes ran))) t.2,
    )

pub returns-in_err-replace_records-clause-full : goal.returns-in_err-replace_records-clause-full
returns-in_err-replace_records-clause-full g c = λ full.
    let is : IsErrOf c.replace_records.result Full = search rules in
    let f = c.replace_records.ensures.full is in
    (kept_beside c.args.self.now _ f.1 c.replace_records.ensures.honest f.0 refl refl refl c.requires, f.1)
