-- The link is opened first.
use Rattle.std.proofs.Common.{◌++◌, sym, append-nil, inl, inr, [], refl}
use Rattle.cq_server_process.specs.Turns.{at}
use Rattle.cq_server_process.proofs.Sending.{opened-tells}
use Rattle.cq_server_process.proofs.send.send_in_room.Goals as goal

pub returns-in-Ok-clause-tells : goal.returns-in-Ok-clause-tells
returns-in-Ok-clause-tells c =
    opened-tells c.args.to.now (at c.args.links.now c.args.core.now) (at c.send_at.new.links c.send_at.new.core) c.open.new.self.outgoing c.args.out.now.items c.send_at.new.out.items c.send_at.result (record { opened = c.in-Ok.ensures.ok; others = c.open.ensures.others }) c.send_at.ensures.others c.send_at.ensures.tells

pub returns-in-Err-clause-tells : goal.returns-in-Err-clause-tells
returns-in-Err-clause-tells c = ([], (sym (append-nil c.args.out.now.items), inr (refl, (refl, inl (record { was = c.in-Err.ensures.absent; is = c.in-Err.ensures.err; others = c.open.ensures.others; core = refl })))))
