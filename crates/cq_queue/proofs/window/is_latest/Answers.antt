-- The last is the latest.
use Rattle.std.proofs.Common.{◌≡◌, ◌-◌, ◌≤◌, ℕ, ap, subst, arith, length, get_or, leb-true}
use Rattle.cq_base.specs.queue.Incarnations.{Accepted}
use Rattle.cq_queue.proofs.Parts.{rising-last}
use Rattle.cq_queue.proofs.window.is_latest.Goals as goal

pub returns-else-len-eq0-clause-latest : goal.returns-else-len-eq0-clause-latest
returns-else-len-eq0-clause-latest c = λ e.
    let items = c.args.accepted.now.items in
    let moment = c.args.moment in
    let before : c.get.result ≤ c.get-else-len-eq0.result = leb-true _ _ e in
    let last = c.index.result.now in
    let own : c.behind-accepted.inside.moment ≡ last.moment = ap (λ (a : Accepted). a.moment) c.behind-accepted.view_is in
    let early : last.moment ≤ moment = omega (arith, before, c.get.ensures.value, c.get-else-len-eq0.ensures.value, own) in
    let len : c.len-len.result - 1 ≡ length items - 1 = omega (arith, c.len-len.ensures) in
    rising-last 0 items last moment (omega (arith, c.len-len.ensures, c.if-len-eq0.false))
    (subst (λ (k : ℕ). (get_or items k last).moment ≤ moment) len (subst (λ (a : Accepted). a.moment ≤ moment) c.index.ensures early)) c.requires
