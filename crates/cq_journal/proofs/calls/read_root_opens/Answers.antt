use Rattle.std.proofs.Common.{◌≡◌, ◌⊎◌, inl, inr, ⊎_elim, List, ℕ, sym, ap, subst}
use Rattle.cq_disk.proofs.Moments.{weakened}
use Rattle.cq_journal.specs.Intact.{IsIntact}
use Rattle.cq_journal.specs.Regions.{kept}
use Rattle.cq_journal.proofs.calls.read_root_opens.Goals as goal

pub returns-clause-opens : goal.returns-clause-opens
returns-clause-opens g c = λ len honest.
    let d = g.D.Device in
    let r = c.args.region.now in
    let Q : List ℕ → Type 0 = λ f. d.may_leave r.device f ⊎ (kept r.len len f ≡ kept r.len len (d.seen r.device)) in
    weakened d.moment d.left_since r.device c.read_root.new.region.device _ Q (c.read_root.ensures.any_moment honest) (λ f either. ⊎_elim (λ before. inl before) (λ same. inr (ap (kept r.len len) same)) either)

pub returns-clause-opens_intact : goal.returns-clause-opens_intact
returns-clause-opens_intact g c = λ len honest i.
    let d = g.D.Device in
    let r = c.args.region.now in
    let Q : List ℕ → Type 0 = λ f. d.may_leave r.device f ⊎ IsIntact r.len len f in
    weakened d.moment d.left_since r.device c.read_root.new.region.device _ Q (c.read_root.ensures.any_moment honest) (λ f either. ⊎_elim (λ before. inl before) (λ same. inr (subst (IsIntact r.len len) (sym same) i)) either)
