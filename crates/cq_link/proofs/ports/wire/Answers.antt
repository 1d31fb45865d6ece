use Rattle.std.proofs.Common.{sym}
use Rattle.cq_link.specs.within.Tables.{AreWired}
use Rattle.cq_link.proofs.PortTables.{crossed_ports, unused_ports, square_ports}
use Rattle.cq_link.proofs.Settling.{moved}
use Rattle.cq_link.proofs.ports.wire.Goals as goal

pub returns-clause-crossed : goal.returns-clause-crossed
returns-clause-crossed g c =
    let wired = moved (AreWired c.args.parties c.args.parties) _ _ _ _ (sym c.in_ok-join.ensures.outs) (sym c.in_ok-join.ensures.ins) c.in_ok-rows.ensures.wired in
    crossed_ports c.in_ok-join.field-0.items wired.joined

pub returns-clause-unused : goal.returns-clause-unused
returns-clause-unused g c = unused_ports c.args.parties c.in_ok-join.field-0.items (moved (AreWired c.args.parties c.args.parties) _ _ _ _ (sym c.in_ok-join.ensures.outs) (sym c.in_ok-join.ensures.ins) c.in_ok-rows.ensures.wired)

pub returns-clause-square : goal.returns-clause-square
returns-clause-square g c = square_ports c.args.parties c.in_ok-join.field-0.items (moved (AreWired c.args.parties c.args.parties) _ _ _ _ (sym c.in_ok-join.ensures.outs) (sym c.in_ok-join.ensures.ins) c.in_ok-rows.ensures.wired)
