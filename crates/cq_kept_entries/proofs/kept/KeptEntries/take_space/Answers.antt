-- A base was begun, or there is no space for one.
use Rattle.std.proofs.Common.{refl, rules}
use Rattle.std.specs.Prelude.{IsErrOf}
use Rattle.std.proofs.lemmas.Result.{IfOk-at_ok}
use Rattle.cq_journal.proofs.Copies.{rests_self}
use Rattle.cq_journal.specs.Journal.{IsJournal}
use Rattle.cq_records.specs.declared.fault.LogFault.TheVariants.{Full}
use Rattle.cq_kept_entries.proofs.Rewritten.{kept_rests}
use Rattle.cq_kept_entries.proofs.kept.KeptEntries.take_space.Goals as goal
use Rattle.cq_kept_entries.proofs.kept.KeptEntries.take_space.Goals.{in-Ok, in-Err-Full, in-Err}

pub returns-then-not-wants_space-clause-rests : goal.returns-then-not-wants_space-clause-rests
returns-then-not-wants_space-clause-rests g c =
    let k = c.args.self.now in
    rests_self k.journal (λ f. g.met.D.Device.only_now k.journal.root.log.device.device f) c.requires.journal.regions

pub returns-clause-kept : goal.returns-clause-kept
returns-clause-kept g c =
    let b = c.begin_base.ensures in
    elim c.match-begin_base.branch [
      | in-Ok w ↦ rw (w.result-is, w.self-is) (kept_rests c.args.self.now _ (IfOk-at_ok (λ _. IsJournal c.begin_base.new.journal) w.in-Ok.is b.journal) b.rests refl c.requires)
      | in-Err-Full w ↦ let full : IsErrOf c.begin_base.result Full = search rules in rw (w.result-is, w.self-is) (kept_rests c.args.self.now _ (b.full full) b.rests refl c.requires)
      | in-Err w ↦ rw w.result-is tt
    ]

pub returns-clause-rests : goal.returns-clause-rests
returns-clause-rests g c =
    let rests = c.begin_base.ensures.rests in
    elim c.match-begin_base.branch [
      | in-Ok w ↦ rw w.self-is rests
      | in-Err-Full w ↦ rw w.self-is rests
      | in-Err w ↦ rw w.self-is rests
    ]
