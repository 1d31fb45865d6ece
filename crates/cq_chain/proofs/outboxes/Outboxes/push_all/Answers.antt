-- The fifo of the party is written in its place; where there is none, nothing comes.
use Rattle.std.proofs.Common.{ap, sym, subst, Some, None, refl, length, ◌≤◌, arith}
use Rattle.std.specs.Option.{is_some}
use Rattle.cq_base.specs.declared.party.Party as party
use Rattle.cq_chain.specs.Fifos.{room_of}
use Rattle.cq_chain.specs.within.Boxes.{room_for, messages_for}
use Rattle.cq_chain.specs.Stands.{AllMean, posted}
use Rattle.cq_chain.specs.within.Waiting.{Waits}
use Rattle.cq_chain.proofs.Mailing.{found, written, fifos-post, none-post, fifos-others}
use Rattle.cq_chain.proofs.outboxes.Outboxes.push_all.Goals.{in-Some, in-None}
use Rattle.cq_chain.proofs.outboxes.Outboxes.push_all.Goals as goal

pub append-requires : goal.append-requires
append-requires c =
    let was = found c.self.inside.fifos.entries c.args.self.now c.args.to (Some c.in-Some.fifo.now) c.self.view_is c.in-Some.ensures.value in
    subst (λ o. length c.args.messages.messages ≤ room_of o) was c.requires

pub returns-clause-posts : goal.returns-clause-posts
returns-clause-posts c = λ all for outbox h. elim c.match-get_mut.branch [
  | in-Some w ↦
      let was = found c.self.inside.fifos.entries c.args.self.now c.args.to (Some w.in-Some.fifo.now) c.self.view_is w.in-Some.ensures.value in
      let v = c.get_mut.follows.holds w.append.new.self in
      let u = v.3 (sym (ap is_some w.in-Some.ensures.value)) in
      rw w.self-inside-is (fifos-post c.args.self.now _ c.args.to (Some w.in-Some.fifo.now) w.append.new.self c.args.messages.messages was
      (written c.self.inside.fifos.entries c.args.self.now _ c.args.to (Some w.append.new.self) c.self.view_is u.0) w.append.ensures.messages all for outbox h)
  | in-None w ↦
      let inside = c.self.inside.fifos.entries in
      let was = found inside inside c.args.to None refl w.in-None.ensures.value in
      rw w.self-inside-is (subst (λ m. (p : party.Party) → AllMean (messages_for m.entries p) (posted outbox all p)) (sym c.get_mut.follows.holds-at-none)
      (none-post inside c.args.to c.args.messages.messages was (subst (λ es. length c.args.messages.messages ≤ room_for es c.args.to) (sym c.self.view_is) c.requires) all for outbox (subst (λ es. Waits es outbox) (sym c.self.view_is) h)))
]

pub returns-clause-others : goal.returns-clause-others
returns-clause-others c = λ party other. elim c.match-get_mut.branch [
  | in-Some w ↦
      let was = found c.self.inside.fifos.entries c.args.self.now c.args.to (Some w.in-Some.fifo.now) c.self.view_is w.in-Some.ensures.value in
      let v = c.get_mut.follows.holds w.append.new.self in
      let u = v.3 (sym (ap is_some w.in-Some.ensures.value)) in
      rw w.self-inside-is (fifos-others c.args.self.now _ c.args.to (Some w.in-Some.fifo.now) w.append.new.self was
      (written c.self.inside.fifos.entries c.args.self.now _ c.args.to (Some w.append.new.self) c.self.view_is u.0) party other)
  | in-None w ↦
      rw w.self-inside-is (subst (λ m. room_for c.args.self.now party ≤ room_for m.entries party) (sym c.get_mut.follows.holds-at-none)
      (subst (λ es. room_for es party ≤ room_for c.self.inside.fifos.entries party) c.self.view_is (omega arith)))
]
