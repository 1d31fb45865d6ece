-- A piece out of turn, one for whose end there is no memory, and one that its end takes.
use Rattle.std.proofs.Common.{◌∙◌, ap, sym, subst, Err}
use Rattle.cq_process.specs.declared.incoming.TakeFault.TheVariants.{Unread}
use Rattle.cq_wire.specs.declared.fault.ReadFault.TheVariants.{NoMemory}
use Rattle.cq_process.specs.Links.{TakesPiece, received, received_from}
use Rattle.cq_process.proofs.Takes.{not-next-taken, unread-taken}
use Rattle.cq_process.proofs.links.Links.take.Goals as goal

pub returns-then-not-is_next-clause-takes : goal.returns-then-not-is_next-clause-takes
returns-then-not-is_next-clause-takes c = λ here. not-next-taken (received_from c.args.self.now.incoming c.args.from) c.args.core.now c.args.from c.args.number c.args.piece.now (sym c.is_next.ensures ∙ c.if-not-is_next.true)

pub returns-in-Ok-clause-takes : goal.returns-in-Ok-clause-takes
returns-in-Ok-clause-takes c = λ here.
    subst (λ r. TakesPiece r (received_from c.take.new.self c.args.from) c.args.core.now c.take.new.core c.args.from c.args.number c.args.piece.now c.take.result) (c.in-Ok.ensures.received c.args.from) c.take.ensures.takes

pub returns-in-Ok-clause-others : goal.returns-in-Ok-clause-others
returns-in-Ok-clause-others c = λ party differs. c.take.ensures.others party differs ∙ c.in-Ok.ensures.others party differs

pub returns-in-Err-clause-takes : goal.returns-in-Err-clause-takes
returns-in-Err-clause-takes c = λ here.
    let was = received_from c.args.self.now.incoming c.args.from in
    subst (λ r. TakesPiece was r c.args.core.now c.args.core.now c.args.from c.args.number c.args.piece.now (Err (Unread NoMemory))) (sym (c.in-Err.ensures.received c.args.from))
    (unread-taken was c.args.core.now c.args.from c.args.number c.args.piece.now (sym c.is_next.ensures ∙ c.if-not-is_next.false) (ap (λ o. (received o).pieces) c.in-Err.ensures.absent) (ap (λ o. (received o).next) c.in-Err.ensures.absent))
