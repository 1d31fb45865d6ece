-- The bytes are those of the device.
use Rattle.std.proofs.Common.{ℕ, List, subst}
use Rattle.cq_kept_run.specs.within.Entries.{IsEntriesOf}
use Rattle.cq_kept_run.proofs.Looked.{if_ok}
use Rattle.cq_kept_run.proofs.entries.look.Goals as goal

pub returns-in-Ok : goal.returns-in-Ok
returns-in-Ok g c =
    if_ok c.entries_of-contents.result c.entries_of-contents.ensures
    (λ contents got. (got.0, λ honest. subst (λ (bytes : List ℕ). IsEntriesOf bytes contents) c.in-Ok.ensures.seen (got.1 honest)))
