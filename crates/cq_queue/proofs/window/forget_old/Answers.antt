-- Where the first is recent, so are the others.
use Rattle.std.proofs.Common.{◌≡◌, ◌<◌, ◌∙◌, ap, sym, true, get_or, length, arith}
use Rattle.cq_base.specs.queue.Incarnations.{is_recent}
use Rattle.cq_queue.proofs.Windows.{recent-all}
use Rattle.cq_queue.proofs.window.forget_old.Goals as goal

pub returns-then-is_recent-clause-items : goal.returns-then-is_recent-clause-items
returns-then-is_recent-clause-items c =
    let some : 0 < length c.loop.accepted.items = omega arith in
    let recent : is_recent c.args.moment (get_or c.loop.accepted.items 0 c.index.result.now) ≡ true = ap (λ a. is_recent c.args.moment a) (sym c.index.ensures) ∙ sym c.is_recent.ensures ∙ c.if-is_recent.true in
    sym (recent-all c.args.moment c.loop.accepted.items c.index.result.now some recent c.loop.invariant.0.rising) ∙ c.loop.invariant.1
