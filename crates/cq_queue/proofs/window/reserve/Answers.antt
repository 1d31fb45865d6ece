-- The same is known of each id.
use Rattle.std.proofs.Common.{subst, sym}
use Rattle.cq_queue.specs.within.Windows.{IsWindow}
use Rattle.cq_queue.proofs.Windows.{window-known}
use Rattle.cq_queue.proofs.window.reserve.Goals as goal

pub returns-clause-window : goal.returns-clause-window
returns-clause-window c =
    subst (λ xs. IsWindow xs c.reserve-2.new.self.entries) (sym c.reserve.ensures.items)
    (window-known c.args.accepted.now.items c.args.known.now.entries c.reserve-2.new.self.entries c.requires (λ id. c.reserve-2.ensures.entries.2 id))
