-- The window has one more.
use Rattle.std.proofs.Common.{◌∙◌, ap, sym, subst, cond, Some}
use Rattle.std.specs.Str.{bytes_eq}
use Rattle.cq_queue.specs.within.Windows.{known_at, IsWindow}
use Rattle.cq_queue.proofs.Windows.{window-more}
use Rattle.cq_queue.proofs.window.push.Goals as goal

pub returns-clause-window : goal.returns-clause-window
returns-clause-window c =
    let before = c.args.known.now.entries in
    subst (λ xs. IsWindow xs c.know.new.known.entries) (sym c.push_back_reserved.ensures.items)
    (window-more c.args.accepted.now.items c.args.one before c.know.new.known.entries c.requires.new c.requires.latest c.requires.window
    (λ id. c.know.ensures id ∙ ap (λ own. cond (bytes_eq own id) (Some c.known.result) (known_at before id)) c.requires.same ∙ ap (λ known. cond (bytes_eq c.args.one.dedup id) (Some known) (known_at before id)) c.known.ensures))
