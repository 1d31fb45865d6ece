-- The bytes are those of the device.
use Rattle.std.proofs.Common.{ℕ, List, subst}
use Rattle.cq_kept_run.specs.within.Contents.{IsContentsOf}
use Rattle.cq_kept_run.proofs.Looked.{if_ok}
use Rattle.cq_kept_run.proofs.looking.look.Goals as goal

pub returns-in-Ok : goal.returns-in-Ok
returns-in-Ok g c =
    if_ok c.contents_of-contents.result c.contents_of-contents.ensures
    (λ contents got. (got.0, λ honest. subst (λ (bytes : List ℕ). IsContentsOf bytes c.args.keeps_lines contents) c.in-Ok.ensures.seen (got.1 honest)))
