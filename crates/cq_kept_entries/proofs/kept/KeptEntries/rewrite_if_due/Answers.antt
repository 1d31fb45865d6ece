-- Nothing is done.
use Rattle.cq_journal.proofs.Copies.{rests_self}
use Rattle.cq_kept_entries.proofs.Rewritten.{moments_rest}
use Rattle.cq_kept_entries.proofs.kept.KeptEntries.rewrite_if_due.Goals as goal

pub returns-then-not-is_due-clause-any_moment : goal.returns-then-not-is_due-clause-any_moment
returns-then-not-is_due-clause-any_moment g c =
    let k = c.args.self.now in
    λ honest all stands store. moments_rest k k.journal (rests_self k.journal (λ f. g.met.D.Device.only_now k.journal.root.log.device.device f) c.requires.journal.regions) honest all stands
