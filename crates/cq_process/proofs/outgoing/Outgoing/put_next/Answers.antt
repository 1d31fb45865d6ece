-- The last piece of the message that is held is that of the first message for the party.
use Rattle.std.proofs.Common.{◌∙◌, sym, subst}
use Rattle.cq_process.specs.Outgoing.{End}
use Rattle.cq_process.specs.Putting.{OnMessage, PutsNext}
use Rattle.cq_process.proofs.Writing.{last-on}
use Rattle.cq_process.proofs.outgoing.Outgoing.put_next.Goals as goal

pub returns-clause-last : goal.returns-clause-last
returns-clause-last c =
    let before : End = record { put = c.self.inside.put; pieces = c.self.inside.pieces; held = c.self.inside.held; writer = c.self.inside.writer } in
    subst (λ e. OnMessage c.write.result (PutsNext c.args.core.now c.first_of.new.core c.args.to e c.write.new.self c.args.bytes.now.items c.write.new.bytes.items)) c.self.view_is
    (last-on c.args.core.now c.first_of.new.core c.args.to before c.write.new.self c.first_of.result c.args.bytes.now.items c.write.new.bytes.items c.write.result
    (λ back is. c.first_of.ensures.passes back (is ∙ sym c.take.ensures.value)) (λ x was. c.first_of.ensures.same x (c.take.ensures.value ∙ was)) c.write.ensures.last)
