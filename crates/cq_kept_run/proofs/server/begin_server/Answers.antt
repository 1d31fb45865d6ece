-- Where a journal is still to be made on the device, its bytes stand for no entries.
use Rattle.std.proofs.Common.{◌≡◌, ◌+◌, ◌≤◌, arith, length, List, ℕ, sym, ◌∙◌, subst}
use Rattle.cq_kept_entries.specs.Kept.{BytesStandFor, StandForSome}
use Rattle.cq_kept_run.specs.declared.sizes.TheConstants.{HALF, REGION}
use Rattle.cq_kept_run.specs.within.Unmade.{IsUnmade}
use Rattle.std.proofs.lemmas.Result.{err_from_is_err_and}
use Rattle.cq_journal.specs.Intact.{IsIntact}
use Rattle.cq_kept_entries.specs.Faults.{HasReason}
use Rattle.cq_kept_run.proofs.Reasons.{start_reason}
use Rattle.cq_kept_run.proofs.Zeros.{intact_long, intact_some, stand_for_none}
use Rattle.cq_kept_run.proofs.server.begin_server.Goals as goal

pub returns-then-not-is_new-clause-begins : goal.returns-then-not-is_new-clause-begins
returns-then-not-is_new-clause-begins g c = λ honest all stand.
    c.in_ok-open.ensures.begins honest all (subst (λ (bytes : List ℕ). BytesStandFor HALF REGION bytes all) (sym c.is_unmade.ensures.seen) stand)

pub fill-requires : goal.fill-requires
fill-requires g c = λ honest. subst (λ (bytes : List ℕ). IsUnmade HALF bytes) (sym c.is_unmade.ensures.seen) (c.in_ok-is_new.ensures.yes honest c.if-not-is_new.false)

pub returns-clause-begins : goal.returns-clause-begins
returns-clause-begins g c = λ honest all stand.
    let before = c.fill.ensures.honest (c.in_ok-create.ensures.honest honest) in
    absurd (stand_for_none HALF REGION (g.D.Device.seen c.args.device) all (omega arith) (c.in_ok-is_new.ensures.yes before c.if-not-is_new.false) stand)

pub returns-in_err-open-clause-refused : goal.returns-in_err-open-clause-refused
returns-in_err-open-clause-refused g c =
    let p = err_from_is_err_and c.from_residual-in_err-open.result c.from_residual-in_err-open.ensures.1 in
    let fault = c.in_err-open.field-0.0 in
    let why = c.in_err-open.ensures.refused in
    rw p.1 (
      why.0,
      λ honest. start_reason _ _ fault p.0 p.2 (subst (λ (bytes : List ℕ). HasReason fault (IsIntact HALF REGION bytes) (StandForSome HALF REGION bytes)) c.is_unmade.ensures.seen (why.1 honest)),
    )

pub returns-then-no_create-clause-refused : goal.returns-then-no_create-clause-refused
returns-then-no_create-clause-refused g c = (
  c.is_unmade.new.region.device,
  λ honest intact. intact_some HALF REGION (g.D.Device.seen c.args.device) (omega arith) (c.in_ok-is_new.ensures.yes honest c.if-not-is_new.false) intact,
)

pub returns-then-len-clause-refused : goal.returns-then-len-clause-refused
returns-then-len-clause-refused g c = (
  c.args.device,
  λ honest intact. let long : HALF + HALF ≤ length (g.D.Device.seen c.args.device) = intact_long HALF REGION (g.D.Device.seen c.args.device) intact in omega (arith, long, c.len.ensures, c.if-len.true),
)
