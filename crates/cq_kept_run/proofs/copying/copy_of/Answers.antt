-- The records are in a base that had none.
use Rattle.std.proofs.Common.{ℕ, List, ◌++◌, Some, sym, ◌∙◌, ap}
use Rattle.cq_journal.specs.Journal.{journal_records}
use Rattle.cq_kept_run.proofs.Looked.{has_records}
use Rattle.cq_kept_run.proofs.copying.copy_of.Goals as goal

pub returns-clause-copied : goal.returns-clause-copied
returns-clause-copied g c =
    let j = c.in_ok-from.from in
    let e = c.in_ok-from.ensures in (
      c.copy_to_base.new.self.root.log.device.device,
      λ honest.
          has_records j e.regions (c.copy_to_base.ensures.rests.honest honest) (g.D.Device.seen c.args.region.device) (ap g.D.Device.seen e.device.0) e.device.1 e.device.2
          ∙ ap (λ (rs : List (List ℕ)). Some rs) (sym (c.in_ok-copy_to_base.ensures.copied honest ∙ ap (λ (rs : List (List ℕ)). rs ++ journal_records j) c.in_ok-base.ensures.empty)),
    )
