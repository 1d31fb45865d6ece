-- What is said goes by the chain as it was.
use Rattle.std.proofs.Common.{◌≡◌, ◌∙◌, ◌++◌, ◌∷◌, [], ◌==◌, ap, subst, refl, false, if◌then◌else◌}
use Rattle.std.specs.List.{list_any}
use Rattle.cq_chain.specs.Masters.{is_in, joined, said_of_join}
use Rattle.cq_chain.specs.Stands.{MasterStandsFor, posted}
use Rattle.cq_chain.specs.within.Waiting.{IsSaid}
use Rattle.cq_chain.proofs.MasterStands.{master-parts, same-stands, joined-stands, joined-said}
use Rattle.cq_chain.proofs.Neighbours.{any-turned}
use Rattle.cq_chain.proofs.ServerStands.{on_err}
use Rattle.cq_chain.proofs.master.Master.begin_join.Goals as goal

pub returns-in_err-insert-clause-err : goal.returns-in_err-insert-clause-err
returns-in_err-insert-clause-err c = on_err c.from_residual-in_err-insert.result (λ m outbox h.
    same-stands c.reserve.new.self _ m outbox (c.reserve.ensures.keeps m outbox h) refl c.in_err-insert.ensures.err refl refl refl refl)

pub returns-clause-ok : goal.returns-clause-ok
returns-clause-ok c = λ unused m outbox h.
    let id = c.args.id in
    let keys = c.reserve.new.self.used.keys in
    let fresh : list_any (λ x. id == x) keys ≡ false = any-turned id keys ∙ ap (λ u. is_in u.keys id) c.reserve.ensures.used ∙ unused in
    let used = c.in_ok-insert.ensures.keys ∙ ap (λ b. if b then keys else keys ++ id ∷ []) fresh in
    let now = (joined id m).master in
    let said = subst (λ xs. IsSaid c.said_of_join-said.result (said_of_join id xs)) (c.deref.ensures.value ∙ (master-parts c.args.self.now m outbox h).chain) c.said_of_join-said.ensures in
    subst (λ all. MasterStandsFor c.say.new.self now (posted outbox all)) (joined-said id m)
    (c.say.ensures now outbox (said_of_join id m.chain) (joined-stands c.reserve.new.self _ m outbox id (c.reserve.ensures.keeps m outbox h) refl used refl refl refl refl) said)
