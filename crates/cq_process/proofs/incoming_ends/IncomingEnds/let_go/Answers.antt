-- What was read is let go where the party has an end.
use Rattle.std.proofs.Common.{◌∙◌, ap, sym, refl, subst, None, Some}
use Rattle.std.specs.Option.{is_some}
use Rattle.cq_process.specs.Links.{LetsGo, end_of, received, received_from}
use Rattle.cq_process.proofs.Ends.{both, elsewhere, found, here, written}
use Rattle.cq_process.proofs.incoming_ends.IncomingEnds.let_go.Goals.{in-Some, in-None}
use Rattle.cq_process.proofs.incoming_ends.IncomingEnds.let_go.Goals as goal

pub returns-clause-let_go : goal.returns-clause-let_go
returns-clause-let_go c = elim c.match-get_mut.branch [
  | in-Some w ↦
      let inside = c.self.inside.ends.entries in
      let new = (c.get_mut.follows.lender w.let_go.new.self).entries in
      let was = found inside c.args.self.now c.args.from (Some w.in-Some.end.now) c.self.view_is w.in-Some.ensures.value in
      let u = (c.get_mut.follows.holds w.let_go.new.self).3 (sym (ap is_some w.in-Some.ensures.value)) in
      let is = here c.args.self.now new c.args.from (Some w.let_go.new.self) (written inside c.args.self.now new c.args.from (Some w.let_go.new.self) c.self.view_is u.0) in
      rw w.self-inside-is (both LetsGo _ _ _ _ (ap received was) (ap received is) (λ i. record { taken = w.let_go.ensures.number i; pieces = w.let_go.ensures.pieces i; next = w.let_go.ensures.next i }))
  | in-None w ↦
      let inside = c.self.inside.ends.entries in
      let was = found inside inside c.args.from None refl w.in-None.ensures.value in
      rw w.self-inside-is (subst (λ m. LetsGo (received_from c.args.self.now c.args.from) (received_from m.entries c.args.from)) (sym c.get_mut.follows.holds-at-none)
      (subst (λ es. LetsGo (received_from es c.args.from) (received_from inside c.args.from)) c.self.view_is (both LetsGo _ _ _ _ (ap received was) (ap received was) refl)))
]

pub returns-clause-others : goal.returns-clause-others
returns-clause-others c = λ party differs. elim c.match-get_mut.branch [
  | in-Some w ↦
      let inside = c.self.inside.ends.entries in
      let new = (c.get_mut.follows.lender w.let_go.new.self).entries in
      let u = (c.get_mut.follows.holds w.let_go.new.self).3 (sym (ap is_some w.in-Some.ensures.value)) in
      rw w.self-inside-is (elsewhere c.args.self.now new c.args.from (Some w.let_go.new.self) (written inside c.args.self.now new c.args.from (Some w.let_go.new.self) c.self.view_is u.0) party differs)
  | in-None w ↦
      rw w.self-inside-is (ap (λ m. end_of m.entries party) c.get_mut.follows.holds-at-none ∙ ap (λ es. end_of es party) c.self.view_is)
]
