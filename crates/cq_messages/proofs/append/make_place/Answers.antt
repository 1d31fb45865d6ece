-- What is kept beside the slots has room for one more.
use Rattle.std.proofs.Common.{◌≡◌, refl, length, arith}
use Rattle.cq_messages.specs.within.Indexed.{IsIndexed}
use Rattle.cq_messages.proofs.Pushing.{reserved-indexed, indexed-grown}
use Rattle.cq_messages.proofs.append.make_place.Goals as goal

pub returns-in_err-reserve-clause-indexed : goal.returns-in_err-reserve-clause-indexed
returns-in_err-reserve-clause-indexed c =
    reserved-indexed c.args.slots.now.items c.trim.new.slots.items c.reserve.new.self.items c.args.lead_times.now c.args.flight_ends.now c.args.groups.now c.reserve.ensures.items c.trim.ensures.prefix c.trim.ensures.same c.requires

pub returns-in_err-make_room-clause-indexed : goal.returns-in_err-make_room-clause-indexed
returns-in_err-make_room-clause-indexed c =
    let left = c.reserve.new.self.items in
    let base : IsIndexed left c.args.lead_times.now c.args.flight_ends.now c.args.groups.now =
    reserved-indexed c.args.slots.now.items c.trim.new.slots.items c.reserve.new.self.items c.args.lead_times.now c.args.flight_ends.now c.args.groups.now c.reserve.ensures.items c.trim.ensures.prefix c.trim.ensures.same c.requires in
    let place : c.len-place.result ≡ length left = omega arith in
    indexed-grown left c.args.lead_times.now c.make_room.new.beside c.args.flight_ends.now c.args.flight_ends.now c.args.groups.now base
    (omega (arith, c.make_room.ensures.long)) (λ k l. c.make_room.ensures.same k (omega arith)) base.are_flights.long (λ k l. refl)

pub returns-clause-indexed : goal.returns-clause-indexed
returns-clause-indexed c =
    let left = c.reserve.new.self.items in
    let base : IsIndexed left c.args.lead_times.now c.args.flight_ends.now c.args.groups.now =
    reserved-indexed c.args.slots.now.items c.trim.new.slots.items c.reserve.new.self.items c.args.lead_times.now c.args.flight_ends.now c.args.groups.now c.reserve.ensures.items c.trim.ensures.prefix c.trim.ensures.same c.requires in
    let place : c.len-place.result ≡ length left = omega arith in
    indexed-grown left c.args.lead_times.now c.make_room.new.beside c.args.flight_ends.now c.make_room-2.new.beside c.args.groups.now base
    (omega (arith, c.make_room.ensures.long)) (λ k l. c.make_room.ensures.same k (omega arith)) (omega (arith, c.make_room-2.ensures.long)) (λ k l. c.make_room-2.ensures.same k (omega arith))
