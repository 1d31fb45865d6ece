-- The chain keeps the others.
use Rattle.std.proofs.Common.{◌≡◌, ◌∙◌, ◌||◌, ◌&&◌, ap, sym, refl, not, if◌then◌else◌, None}
use Rattle.std.proofs.lemmas.Fn.{filter_same}
use Rattle.cq_chain.specs.Masters.{is_last}
use Rattle.cq_chain.proofs.MasterStands.{without-stands}
use Rattle.cq_chain.proofs.master.Master.remove.Goals as goal

pub returns-clause-stands : goal.returns-clause-stands
returns-clause-stands c = λ m outbox h.
    let last = c.is_last-last.ensures ∙ ap (λ xs. is_last xs c.args.id) c.deref.ensures.value in
    without-stands c.args.self.now _ m outbox c.args.id h (filter_same _ _ _ (λ x b f' k. search Rattle.std.proofs.Common.rules) _ _ c.retain.ensures.filtered)
    (c.is_told_after-self.ensures ∙ ap (λ b. b || c.args.self.now.told) last) (c.is_ready_after-self.ensures ∙ ap (λ b. not b && c.args.self.now.ready) last)
    (c.joiner_after-self.ensures ∙ ap (λ b. if b then None else c.args.self.now.joiner) last) refl refl
