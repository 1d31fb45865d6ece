-- The end of the party is written in its place, if there is one.
use Rattle.std.proofs.Common.{ap, sym, None, Some, ◌∙◌}
use Rattle.std.specs.Option.{is_some}
use Rattle.cq_process.specs.Links.{ThrowsFrom}
use Rattle.cq_process.proofs.Ends.{both, elsewhere, found, here, no-end, written}
use Rattle.cq_process.proofs.outgoing_ends.OutgoingEnds.throw_all.Goals as goal

pub unreachable-requires : goal.unreachable-requires
unreachable-requires c = no-end c.args.self.now c.args.to (found c.self.inside.ends.entries c.args.self.now c.args.to None c.self.view_is c.in-None.ensures.value) (sym c.is_open.ensures ∙ c.if-not-is_open.false)

pub returns-clause-throws : goal.returns-clause-throws
returns-clause-throws c =
    let inside = c.self.inside.ends.entries in
    let new = (c.get_mut.follows.lender c.throw_all.new.self).entries in
    let was = found inside c.args.self.now c.args.to (Some c.in-Some.end.now) c.self.view_is c.in-Some.ensures.value in
    let u = (c.get_mut.follows.holds c.throw_all.new.self).3 (sym (ap is_some c.in-Some.ensures.value)) in
    let is = here c.args.self.now new c.args.to (Some c.throw_all.new.self) (written inside c.args.self.now new c.args.to (Some c.throw_all.new.self) c.self.view_is u.0) in
    both (λ a b. ThrowsFrom a b c.args.core.now c.throw_all.new.core c.args.to c.throw_all.result) _ _ _ _ was is (record {
      throws = c.throw_all.ensures.throws;
      held = c.throw_all.ensures.held;
      empty = c.throw_all.ensures.empty;
      fault = c.throw_all.ensures.fault;
      spent = c.throw_all.ensures.spent;
    })

pub returns-clause-others : goal.returns-clause-others
returns-clause-others c =
    let inside = c.self.inside.ends.entries in
    let new = (c.get_mut.follows.lender c.throw_all.new.self).entries in
    let u = (c.get_mut.follows.holds c.throw_all.new.self).3 (sym (ap is_some c.in-Some.ensures.value)) in
    elsewhere c.args.self.now new c.args.to (Some c.throw_all.new.self) (written inside c.args.self.now new c.args.to (Some c.throw_all.new.self) c.self.view_is u.0)
