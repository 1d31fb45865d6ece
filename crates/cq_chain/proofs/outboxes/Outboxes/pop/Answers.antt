-- The fifo of the party loses its first message, if it has one.
use Rattle.std.proofs.Common.{ap, sym, subst, None, Some, refl}
use Rattle.std.specs.Option.{is_some}
use Rattle.cq_chain.specs.Fifos.{messages_of}
use Rattle.cq_chain.specs.within.Boxes.{messages_for}
use Rattle.cq_chain.specs.Stands.{AllMean, drained}
use Rattle.cq_chain.specs.within.Waiting.{Waits}
use Rattle.cq_base.specs.declared.party.Party as party
use Rattle.cq_chain.proofs.Mailing.{none-mean, found, written, unwritten, popped-first, fifo-drained}
use Rattle.cq_chain.proofs.outboxes.Outboxes.pop.Goals.{in-Some, in-None}
use Rattle.cq_chain.proofs.outboxes.Outboxes.pop.Goals as goal

pub returns-clause-first : goal.returns-clause-first
returns-clause-first c = λ outbox h. elim c.match-get_mut.branch [
  | in-Some w ↦
      let was = found c.self.inside.fifos.entries c.args.self.now c.args.to (Some w.in-Some.fifo.now) c.self.view_is w.in-Some.ensures.value in
      rw w.result-is (popped-first w.pop.result w.in-Some.fifo.now.messages w.pop.new.self.messages (outbox c.args.to) w.pop.ensures.first w.pop.ensures.none
      (subst (λ o. AllMean (messages_of o) (outbox c.args.to)) was (h c.args.to)))
  | in-None w ↦
      let was = found c.self.inside.fifos.entries c.args.self.now c.args.to None c.self.view_is w.in-None.ensures.value in
      rw w.result-is (none-mean (outbox c.args.to) (subst (λ o. AllMean (messages_of o) (outbox c.args.to)) was (h c.args.to)))
]

pub returns-clause-rest : goal.returns-clause-rest
returns-clause-rest c = λ outbox h. elim c.match-get_mut.branch [
  | in-Some w ↦
      let was = found c.self.inside.fifos.entries c.args.self.now c.args.to (Some w.in-Some.fifo.now) c.self.view_is w.in-Some.ensures.value in
      let v = c.get_mut.follows.holds w.pop.new.self in
      let u = v.3 (sym (ap is_some w.in-Some.ensures.value)) in
      rw w.self-inside-is (fifo-drained c.args.self.now _ c.args.to (Some w.in-Some.fifo.now) (Some w.pop.new.self) was (written c.self.inside.fifos.entries c.args.self.now _ c.args.to (Some w.pop.new.self) c.self.view_is u.0)
      w.pop.ensures.rest outbox h)
  | in-None w ↦
      let inside = c.self.inside.fifos.entries in
      let was = found inside inside c.args.to None refl w.in-None.ensures.value in
      rw w.self-inside-is (subst (λ m. (p : party.Party) → AllMean (messages_for m.entries p) (drained outbox c.args.to p)) (sym c.get_mut.follows.holds-at-none)
      (fifo-drained inside inside c.args.to None None was (unwritten inside c.args.to None was) refl outbox (subst (λ es. Waits es outbox) (sym c.self.view_is) h)))
]
