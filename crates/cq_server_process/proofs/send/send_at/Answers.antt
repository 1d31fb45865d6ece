-- What was written is told.
use Rattle.std.proofs.Common.{ap, Err}
use Rattle.cq_server_process.specs.Turns.{at}
use Rattle.cq_server_process.proofs.Sending.{written-told, unwritten-told}
use Rattle.cq_server_process.proofs.send.send_at.Goals as goal

pub returns-in-Ok-clause-tells : goal.returns-in-Ok-clause-tells
returns-in-Ok-clause-tells c =
    written-told c.args.to (at c.args.links.now c.args.core.now) (at c.put_piece.new.links c.put_piece.new.core) c.args.out.now.items c.put_piece.new.out.items c.in-Ok.written c.stop_of.result c.stop_of.ensures c.in-Ok.ensures.puts

pub returns-in-Err-NoMemory-clause-tells : goal.returns-in-Err-NoMemory-clause-tells
returns-in-Err-NoMemory-clause-tells c =
    let same = c.in-Err-NoMemory.ensures.no_memory (ap Err c.in-Err-NoMemory.field-0-is) in
    unwritten-told c.args.to (at c.args.links.now c.args.core.now) (at c.put_piece.new.links c.put_piece.new.core) c.args.out.now.items c.put_piece.new.out.items same.0 same.1.0 same.1.1
