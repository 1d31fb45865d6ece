-- The id of the first goes with it.
use Rattle.std.proofs.Common.{◌∙◌, ap, cond, None}
use Rattle.std.specs.Str.{bytes_eq}
use Rattle.cq_queue.specs.within.Windows.{known_at}
use Rattle.cq_queue.proofs.Windows.{window-rest}
use Rattle.cq_queue.proofs.window.forget_first.Goals as goal

pub returns-in-Some-clause-window : goal.returns-in-Some-clause-window
returns-in-Some-clause-window c = window-rest c.in-Some.first c.pop_front.new.self.items c.args.accepted.now.items c.args.known.now.entries c.forget.new.known.entries c.in-Some.ensures.items c.requires
    (λ id. c.forget.ensures.known id ∙ ap (λ a. cond (bytes_eq a.dedup id) None (known_at c.args.known.now.entries id)) c.first.view_is)
