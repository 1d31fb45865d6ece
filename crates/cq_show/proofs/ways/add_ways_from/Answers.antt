-- One more party.
use Rattle.std.proofs.Common.{◌∙◌, ◌++◌, ap, sym, take, append-nil}
use Rattle.std.proofs.lemmas.List.{take_all}
use Rattle.cq_show.specs.Worlds.{if_used, way_of, ways_from}
use Rattle.cq_show.proofs.Loops.{mapped-more}
use Rattle.cq_show.proofs.ways.add_ways_from.Goals as goal

pub loop-to-init : goal.loop-to-init
loop-to-init c = λ w h. sym (append-nil c.args.ways.now.items)

pub loop-to-preserved : goal.loop-to-preserved
loop-to-preserved c = λ w h.
    mapped-more (λ to. if_used (way_of w c.args.from.now to)) c.args.ways.now.items c.loop-to.ways.items c.add_way.new.ways.items c.args.tos.now c.loop-to.to-index c.to-item.result c.loop-to-test.true c.to-item.is
    (c.loop-to.invariant w h) (c.in_ok-add_way.ensures w h)

pub returns : goal.returns
returns c = λ w h. c.loop-to.invariant w h ∙ ap (λ tos. c.args.ways.now.items ++ ways_from w tos c.args.from.now) (take_all c.loop-to.to-index c.args.tos.now c.loop-to-test.false)
