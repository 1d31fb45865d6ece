-- Each number is written over its zeros.
use Rattle.std.proofs.Common.{◌+◌}
use Rattle.cq_frames.specs.Layout.{piece_number}
use Rattle.cq_process_frames.proofs.Overwriting.{filled, length-number, length32}
use Rattle.cq_wire.specs.Layout.{number32}
use Rattle.cq_process_frames.proofs.front.fill.Goals as goal

pub returns : goal.returns
returns c = λ a z m n i k r is la lz lm ln li lk.
    filled c.args.bytes.now c.write_u32_at.new.bytes c.write_number_at.new.bytes c.write_u32_at-2.new.bytes a z m n i k r (number32 (c.args.mark + 20 + c.args.count)) (piece_number c.args.number) (number32 c.args.count) c.args.place c.args.mark is
    c.write_u32_at.ensures c.write_number_at.ensures c.write_u32_at-2.ensures la lz lm ln li lk (length32 (c.args.mark + 20 + c.args.count)) (length-number c.args.number)
