-- A member more, and its predecessor is told.
use Rattle.std.proofs.Common.{◌∙◌, ◌++◌, ◌∷◌, [], ap, refl}
use Rattle.cq_base.specs.declared.party.Party.TheVariants as parties
use Rattle.cq_chain.specs.Masters.{admitted}
use Rattle.cq_chain.specs.Messages as sent
use Rattle.cq_chain.proofs.MasterStands.{same-stands, admitted-stands}
use Rattle.cq_chain.proofs.ServerStands.{on_err}
use Rattle.cq_chain.proofs.master.Master.admit.Goals as goal

pub returns-in_err-reserve-2-clause-err : goal.returns-in_err-reserve-2-clause-err
returns-in_err-reserve-2-clause-err c = on_err c.from_residual-in_err-reserve-2.result (λ m outbox h.
    same-stands c.reserve.new.self _ m outbox (c.reserve.ensures.keeps m outbox h) c.reserve-2.ensures.items refl refl refl refl refl)

pub returns-clause-ok : goal.returns-clause-ok
returns-clause-ok c = λ m outbox h.
    let pred = c.args.pred in
    let id = c.args.id in
    let chain = c.push_reserved.ensures.items ∙ ap (λ xs. xs ++ id ∷ []) c.reserve-2.ensures.items in
    c.say.ensures (admitted pred id c.args.count m).master outbox ((parties.Server pred, sent.Adopt id c.args.count) ∷ [])
    (admitted-stands c.reserve.new.self _ m outbox pred id c.args.count (c.reserve.ensures.keeps m outbox h) chain refl refl refl refl refl) (refl, (refl, tt))
