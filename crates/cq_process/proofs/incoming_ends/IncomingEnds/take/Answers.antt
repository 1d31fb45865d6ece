-- The end of the party is written in its place.
use Rattle.std.proofs.Common.{ap, sym, None, Some}
use Rattle.std.specs.Option.{is_some}
use Rattle.cq_process.specs.Links.{TakesPiece, received}
use Rattle.cq_process.proofs.Ends.{both, elsewhere, found, here, no-end, written}
use Rattle.cq_process.proofs.incoming_ends.IncomingEnds.take.Goals as goal

pub unreachable-requires : goal.unreachable-requires
unreachable-requires c = no-end c.args.self.now c.args.from (found c.self.inside.ends.entries c.args.self.now c.args.from None c.self.view_is c.in-None.ensures.value) c.requires

pub returns-clause-takes : goal.returns-clause-takes
returns-clause-takes c =
    let inside = c.self.inside.ends.entries in
    let now = c.args.self.now in
    let new = (c.get_mut.follows.lender c.take.new.self).entries in
    let was = found inside now c.args.from (Some c.in-Some.end.now) c.self.view_is c.in-Some.ensures.value in
    let u = (c.get_mut.follows.holds c.take.new.self).3 (sym (ap is_some c.in-Some.ensures.value)) in
    let is = here now new c.args.from (Some c.take.new.self) (written inside now new c.args.from (Some c.take.new.self) c.self.view_is u.0) in
    both (λ a b. TakesPiece a b c.args.core.now c.take.new.core c.args.from c.args.number c.args.piece.now c.take.result) _ _ _ _ (ap received was) (ap received is) (record {
      out_of_turn = c.take.ensures.out_of_turn;
      in_turn = c.take.ensures.in_turn;
      read = c.take.ensures.read;
      counted = c.take.ensures.number;
      pieces = c.take.ensures.pieces;
      left = c.take.ensures.left;
      took = c.take.ensures.took;
      idle = c.take.ensures.idle;
      refused = c.take.ensures.refused;
    })

pub returns-clause-others : goal.returns-clause-others
returns-clause-others c =
    let inside = c.self.inside.ends.entries in
    let new = (c.get_mut.follows.lender c.take.new.self).entries in
    let u = (c.get_mut.follows.holds c.take.new.self).3 (sym (ap is_some c.in-Some.ensures.value)) in
    elsewhere c.args.self.now new c.args.from (Some c.take.new.self) (written inside c.args.self.now new c.args.from (Some c.take.new.self) c.self.view_is u.0)
