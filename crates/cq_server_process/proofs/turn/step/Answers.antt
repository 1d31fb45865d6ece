-- A look, or the next message.
use Rattle.std.proofs.Common.{◌++◌, sym, append-nil, inl, [], refl}
use Rattle.cq_server_process.specs.Turns.{at}
use Rattle.cq_server_process.proofs.Sending.{sent-step}
use Rattle.cq_server_process.proofs.turn.step.Goals as goal

pub returns-in-Some-clause-tells : goal.returns-in-Some-clause-tells
returns-in-Some-clause-tells c = ([], (sym (append-nil c.args.out.now.items), inl (refl, (refl, (refl, c.in-Some.ensures)))))

pub returns-in-None-clause-tells : goal.returns-in-None-clause-tells
returns-in-None-clause-tells c = sent-step c.args.to.now (at c.args.links.now c.args.core.now) (at c.send.new.links c.send.new.core) c.args.out.now.items c.send.new.out.items c.send.result c.in-None.ensures c.send.ensures.tells
