-- What was found is read of the device.
use Rattle.std.proofs.Common.{◌≡◌, ◌⊎◌, ℕ, ◌+◌, ◌≤◌, List, length, sym, ap, subst, arith}
use Rattle.std.specs.Prelude.{IfSome}
use Rattle.cq_journal.specs.Found.{IsFound, IsRootAt}
use Rattle.cq_kept_run.specs.declared.sizes.TheConstants.{HALF}
use Rattle.cq_kept_run.proofs.looking.find.Goals as goal

pub returns : goal.returns
returns g c =
    let d = g.D.Device in
    let e = c.find_root.ensures in
    let ok = c.in_ok-found.ensures in
    let new = c.find_root.new.region in
    let found = c.in-Some.found in
    let half : new.len ≡ HALF = ok.place.1 in
    record {
      half = half;
      start = subst (λ (n : ℕ). (found.start ≡ 0) ⊎ (found.start ≡ n)) (sym half) (subst (λ (o : _). IfSome o (λ it. (it.start ≡ 0) ⊎ (it.start ≡ HALF))) c.in-Some.is ok.start);
      room = omega (arith, half, ap length e.seen, c.if-len.false, c.len.ensures);
      durable = ok.durable;
      root = λ honest. subst (λ (n : ℕ). IsRootAt n (d.seen new.device) found) (sym half)
          (subst (λ (l : List ℕ). IsRootAt HALF l found) (sym e.seen) (subst (λ (o : _). IsFound HALF (d.seen c.args.device) o) c.in-Some.is (ok.found honest)));
      seen = e.seen;
      honest = e.honest;
    }
