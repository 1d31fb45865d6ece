-- What is known of the id answers.
use Rattle.std.proofs.Common.{◌∙◌, ap, sym}
use Rattle.cq_base.specs.queue.Incarnations.{repeated}
use Rattle.cq_queue.specs.within.Windows.{answered}
use Rattle.cq_queue.proofs.Windows.{repeated-known}
use Rattle.cq_queue.proofs.window.Window.repeated.Goals as goal

pub returns-in-Some : goal.returns-in-Some
returns-in-Some c =
    c.answered.ensures ∙ ap (answered c.args.moment) c.in-Some.ensures.value ∙ sym (repeated-known c.args.dedup.now c.args.moment _ _ c.self.invariant) ∙ ap (λ w. repeated c.args.dedup.now c.args.moment w.items) c.self.view_is

pub returns-in-None : goal.returns-in-None
returns-in-None c =
    ap (answered c.args.moment) c.in-None.ensures.value ∙ sym (repeated-known c.args.dedup.now c.args.moment _ _ c.self.invariant) ∙ ap (λ w. repeated c.args.dedup.now c.args.moment w.items) c.self.view_is
