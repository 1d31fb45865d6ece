-- Where a journal is still to be made on the device, it has no records.
use Rattle.std.proofs.Common.{◌≡◌, ℕ, List, Some, sym, ap, ◌∙◌, subst, arith}
use Rattle.cq_journal.specs.Regions.{kept}
use Rattle.cq_kept_session.specs.Texts.{opened}
use Rattle.cq_kept_run.specs.declared.sizes.TheConstants.{HALF, REGION}
use Rattle.cq_kept_run.specs.within.Unmade.{IsUnmade}
use Rattle.cq_kept_run.proofs.Zeros.{kept_none}
use Rattle.cq_kept_run.proofs.run.start.Goals as goal

same : (a b : List (List ℕ)) → Some a ≡ Some b → a ≡ b
same a b is = cc

pub returns-then-not-is_new-clause-records : goal.returns-then-not-is_new-clause-records
returns-then-not-is_new-clause-records g c = λ honest rs has.
    let found = c.in_ok-open.ensures.records honest in
    let there : kept HALF REGION (g.D.Device.seen c.args.device) ≡ Some found.0 = subst (λ (bytes : List ℕ). kept HALF REGION bytes ≡ Some found.0) c.is_unmade.ensures.seen found.1 in
    found.2 ∙ ap (opened c.args.size) (same found.0 rs (sym there ∙ has))

pub fill-requires : goal.fill-requires
fill-requires g c = λ honest. subst (λ (bytes : List ℕ). IsUnmade HALF bytes) (sym c.is_unmade.ensures.seen) (c.in_ok-is_new.ensures.yes honest c.if-not-is_new.false)

pub returns-clause-records : goal.returns-clause-records
returns-clause-records g c = λ honest rs has.
    let before = c.fill.ensures.honest (c.in_ok-create.ensures.honest honest) in
    absurd (kept_none HALF REGION (g.D.Device.seen c.args.device) rs (omega arith) (c.in_ok-is_new.ensures.yes before c.if-not-is_new.false) has)
