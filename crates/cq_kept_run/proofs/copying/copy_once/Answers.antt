-- The bytes are those of the device.
use Rattle.std.proofs.Common.{◌≡◌, ℕ, List, Some, subst}
use Rattle.cq_journal.specs.Base.{base_records}
use Rattle.cq_journal.specs.Regions.{kept}
use Rattle.cq_kept_run.specs.declared.sizes.TheConstants.{HALF, REGION}
use Rattle.cq_kept_run.proofs.Looked.{if_ok}
use Rattle.cq_kept_run.proofs.copying.copy_once.Goals as goal

pub returns-in-Ok-clause-copied : goal.returns-in-Ok-clause-copied
returns-in-Ok-clause-copied g c =
    if_ok c.copy_of-copy.result c.copy_of-copy.ensures.copied
    (λ copy got. (got.0, λ honest. subst (λ (bytes : List ℕ). kept HALF REGION bytes ≡ Some (base_records copy.journal copy.base)) c.in-Ok.ensures.seen (got.1 honest)))
