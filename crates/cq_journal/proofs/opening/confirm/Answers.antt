-- The half is read again, and has the same bytes.
use Rattle.std.proofs.Common.{◌≡◌, ◌⊎◌, ⊎_elim, List, ℕ, Some, sym, ◌∙◌, ap, subst, arith, rules}
use Rattle.std.specs.Prelude.{IfSome, IsErrOf, Option}
use Rattle.cq_disk.proofs.Moments.{started}
use Rattle.cq_records.specs.declared.fault.ReadFault.TheVariants.{Damaged}
use Rattle.cq_journal.specs.Found.{IsFound, IsRootAt}
use Rattle.cq_journal.specs.declared.opening.Found.{Found}
use Rattle.cq_journal.proofs.Confirmed.{half_is, half_sound}
use Rattle.cq_journal.proofs.opening.confirm.Goals as goal

pub returns-in_default-clause-any_moment : goal.returns-in_default-clause-any_moment
returns-in_default-clause-any_moment g c = λ only.
    let d = g.D.Device in
    let device = c.args.region.now.device in
    started d.moment d.left_since device (λ f. f ≡ d.seen device) (λ f left. only f (g.met.D.Device.only_now device f left))

pub returns-in_err-again-clause-damaged : goal.returns-in_err-again-clause-damaged
returns-in_err-again-clause-damaged g c = λ err honest found halves.
    let r = c.args.region.now in
    let seen = g.D.Device.seen r.device in
    let is : IsErrOf c.read_half.result Damaged = search rules in
    let root : IsRootAt r.len seen c.in-Some.it = subst (λ (o : Option Found). IsFound r.len seen o) c.in-Some.is found in
    half_sound r.len seen c.in-Some.it root halves (c.read_half.ensures.damaged is honest)

pub returns-clause-damaged : goal.returns-clause-damaged
returns-clause-damaged g c = λ err honest found halves.
    let r = c.args.region.now in
    let seen = g.D.Device.seen r.device in
    let root : IsRootAt r.len seen c.in-Some.it = subst (λ (o : Option Found). IsFound r.len seen o) c.in-Some.is found in
    c.is_same.ensures.other c.if-is_same.false (sym (c.in_ok-again.ensures.half honest) ∙ half_is r.len seen c.in-Some.it root ∙ ap (λ (bytes : List ℕ). Some bytes) (sym c.deref.ensures.value))

pub invariant_of-region-clause-within : goal.invariant_of-region-clause-within
invariant_of-region-clause-within g c =
    let r = c.args.region.now in
    let half : (c.in-Some.it.start ≡ 0) ⊎ (c.in-Some.it.start ≡ r.len) = subst (λ (o : Option Found). IfSome o (λ it. (it.start ≡ 0) ⊎ (it.start ≡ r.len))) c.in-Some.is c.requires.half in
    ⊎_elim (λ (first : c.in-Some.it.start ≡ 0). omega (arith, first, c.requires.room)) (λ (second : c.in-Some.it.start ≡ r.len). omega (arith, second, c.requires.room)) half
