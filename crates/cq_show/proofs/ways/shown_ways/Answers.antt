-- One more party.
use Rattle.std.proofs.Common.{◌∙◌, [], ap, take}
use Rattle.std.specs.List.{flat_map}
use Rattle.std.proofs.lemmas.List.{take_all}
use Rattle.cq_show.specs.Worlds.{ways_from}
use Rattle.cq_show.proofs.Loops.{mapped-more}
use Rattle.cq_show.proofs.ways.shown_ways.Goals as goal

pub loop-from-init : goal.loop-from-init
loop-from-init c = λ w h. c.new-ways.ensures.items

pub loop-from-preserved : goal.loop-from-preserved
loop-from-preserved c = λ w h.
    mapped-more (ways_from w c.args.parties.now) [] c.loop-from.ways.items c.add_ways_from.new.ways.items c.args.parties.now c.loop-from.from-index c.from-item.result c.loop-from-test.true c.from-item.is
    (c.loop-from.invariant w h) (c.in_ok-add_ways_from.ensures w h)

pub returns : goal.returns
returns c = λ w h. c.loop-from.invariant w h ∙ ap (flat_map (ways_from w c.args.parties.now)) (take_all c.loop-from.from-index c.args.parties.now c.loop-from-test.false)
