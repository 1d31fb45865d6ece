use Rattle.std.proofs.Common.{refl}
use Rattle.cq_chain_wire.specs.Pieces.{parts_left}
use Rattle.cq_chain_wire.proofs.Writing.{end-next}
use Rattle.cq_chain_wire.proofs.writer.MessageWriter.next_of_snapshot.Goals as goal

pub returns-then-is_done-clause-ok : goal.returns-then-is_done-clause-ok
returns-then-is_done-clause-ok c =
    end-next c.args.store.now c.args.self.now.store (parts_left c.args.store.now c.args.self.now.store) _ c.args.bytes.now.items c.put_end.new.bytes.items (c.is_done.ensures.yes c.if-is_done.true) refl c.in_ok-put_end.ensures.ok
