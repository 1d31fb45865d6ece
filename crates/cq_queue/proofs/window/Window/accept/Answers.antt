-- The id isn't there once those are forgotten whose five minutes are over.
use Rattle.std.proofs.Common.{◌∙◌, ap, sym, subst}
use Rattle.std.specs.List.{filter, find, All}
use Rattle.std.proofs.lemmas.List.Elements.{All-filter}
use Rattle.cq_base.specs.queue.Incarnations.{is_recent, repeated}
use Rattle.cq_queue.specs.within.Windows.{has_id, IsBy}
use Rattle.cq_queue.proofs.Windows.{new-id}
use Rattle.cq_queue.proofs.window.Window.accept.Goals as goal

pub push-requires-clause-new : goal.push-requires-clause-new
push-requires-clause-new c =
    let one = c.args.one in
    let before = c.self.inside.accepted.items in
    ap (find (has_id one.dedup)) (c.forget_old.ensures.items ∙ ap (λ a. filter (is_recent a.moment) before) c.one.view_is)
    ∙ new-id one.dedup one.moment before (ap (λ w. repeated one.dedup one.moment w.items) c.self.view_is ∙ c.requires.new)

pub push-requires-clause-latest : goal.push-requires-clause-latest
push-requires-clause-latest c =
    let moment = c.args.one.moment in
    let before = c.self.inside.accepted.items in
    subst (All (IsBy moment)) (sym (c.forget_old.ensures.items ∙ ap (λ a. filter (is_recent a.moment) before) c.one.view_is))
    (All-filter (is_recent moment) (IsBy moment) before (subst (λ w. All (IsBy moment) w.items) (sym c.self.view_is) c.requires.latest))
