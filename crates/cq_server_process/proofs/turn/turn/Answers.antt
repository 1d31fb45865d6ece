-- By whether the party is gone.
use Rattle.std.proofs.Common.{◌++◌, sym, append-nil, [], refl, true, false}
use Rattle.cq_server_process.specs.Turns.{at}
use Rattle.cq_server_process.proofs.Sending.{thrown-told, turn-told}
use Rattle.cq_server_process.proofs.turn.turn.Goals as goal

pub returns-then-is_gone-clause-tells : goal.returns-then-is_gone-clause-tells
returns-then-is_gone-clause-tells c = thrown-told c.args.links.now.gone.keys c.args.to.now (at c.args.links.now c.args.core.now) (at c.throw.new.links c.throw.new.core) c.throw.result c.args.out.now.items (sym c.is_gone.ensures) c.if-is_gone.true c.throw.ensures.throws

pub returns-clause-tells : goal.returns-clause-tells
returns-clause-tells c = turn-told c.args.links.now.gone.keys c.args.to.now (at c.args.links.now c.args.core.now) (at c.put_all.new.links c.put_all.new.core) c.args.out.now.items c.put_all.new.out.items c.put_all.result (sym c.is_gone.ensures) c.if-is_gone.false c.put_all.ensures.tells
