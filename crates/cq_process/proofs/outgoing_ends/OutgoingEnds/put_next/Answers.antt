-- The end of the party is written in its place.
use Rattle.std.proofs.Common.{ap, sym, None, Some}
use Rattle.std.specs.Option.{is_some}
use Rattle.cq_process.proofs.Ends.{elsewhere, found, here, no-end, written}
use Rattle.cq_process.proofs.outgoing_ends.OutgoingEnds.put_next.Goals as goal

pub unreachable-requires : goal.unreachable-requires
unreachable-requires c = no-end c.args.self.now c.args.to (found c.self.inside.ends.entries c.args.self.now c.args.to None c.self.view_is c.in-None.ensures.value) c.requires

pub returns-clause-puts : goal.returns-clause-puts
returns-clause-puts c =
    let inside = c.self.inside.ends.entries in
    let new = (c.get_mut.follows.lender c.put_next.new.self).entries in
    let u = (c.get_mut.follows.holds c.put_next.new.self).3 (sym (ap is_some c.in-Some.ensures.value)) in
    record {
      was = c.in-Some.end.now;
      is_old = found inside c.args.self.now c.args.to (Some c.in-Some.end.now) c.self.view_is c.in-Some.ensures.value;
      becomes = c.put_next.new.self;
      is_new = here c.args.self.now new c.args.to (Some c.put_next.new.self) (written inside c.args.self.now new c.args.to (Some c.put_next.new.self) c.self.view_is u.0);
      puts = record {
        spent = c.put_next.ensures.spent;
        unspent = c.put_next.ensures.unspent;
        numbers = c.put_next.ensures.numbers;
        some = c.put_next.ensures.some;
        last = c.put_next.ensures.last;
        idle = c.put_next.ensures.idle;
        bytes = c.put_next.ensures.bytes;
        held = c.put_next.ensures.held;
        empty = c.put_next.ensures.empty;
      };
    }

pub returns-clause-others : goal.returns-clause-others
returns-clause-others c =
    let inside = c.self.inside.ends.entries in
    let new = (c.get_mut.follows.lender c.put_next.new.self).entries in
    let u = (c.get_mut.follows.holds c.put_next.new.self).3 (sym (ap is_some c.in-Some.ensures.value)) in
    elsewhere c.args.self.now new c.args.to (Some c.put_next.new.self) (written inside c.args.self.now new c.args.to (Some c.put_next.new.self) c.self.view_is u.0)
