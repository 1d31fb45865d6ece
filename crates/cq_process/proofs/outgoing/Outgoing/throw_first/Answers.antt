-- The message that is held is the first one for the party.
use Rattle.std.proofs.Common.{◌≡◌, ◌+◌, ◌∙◌, sym, subst, List, [], Option}
use Rattle.cq_base.specs.declared.party.Party as rust_party
use Rattle.cq_chain.specs.declared.message.Message as rust_message
use Rattle.cq_chain.specs.Messages as sent
use Rattle.cq_chain.specs.Servers as states
use Rattle.cq_process.specs.Outgoing.{End}
use Rattle.cq_process.specs.Putting.{StandsWith, Throws}
use Rattle.cq_process.proofs.Throwing.{counts-held, throws-held}
use Rattle.cq_process.proofs.outgoing.Outgoing.throw_first.Goals as goal

pub returns-clause-throws : goal.returns-clause-throws
returns-clause-throws c =
    let before : End = record { put = c.self.inside.put; pieces = c.self.inside.pieces; held = c.self.inside.held; writer = c.self.inside.writer } in
    subst (λ e. Throws c.args.core.now c.first_of.new.core c.args.to e c.throw_held.new.self) c.self.view_is
    (throws-held c.args.core.now c.first_of.new.core c.args.to before c.throw_held.new.self c.first_of.result (λ back is. c.first_of.ensures.passes back (is ∙ sym c.take.ensures.value)) c.throw_held.ensures.some c.throw_held.ensures.none c.throw_held.ensures.held)

pub returns-clause-counts : goal.returns-clause-counts
returns-clause-counts c =
    subst
    (λ (e : End). (back : rust_party.Party → Option rust_message.Message) (s : states.Server) (outbox : rust_party.Party → List sent.Message) → StandsWith c.args.core.now back e.held c.args.to s outbox → (outbox c.args.to ≡ [] → ⊥) → c.throw_held.new.self.put ≡ e.put + 1)
    c.self.view_is
    (counts-held c.args.core.now c.self.inside.held c.first_of.result c.args.to c.self.inside.put c.throw_held.new.self.put (λ is. sym c.take.ensures.value ∙ c.first_of.ensures.none is) c.first_of.ensures.empty c.throw_held.ensures.some)
