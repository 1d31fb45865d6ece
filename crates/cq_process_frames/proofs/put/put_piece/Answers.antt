-- The front is there, and the piece comes behind it.
use Rattle.std.proofs.Common.{◌≡◌, ◌+◌, ◌∙◌, ap, sym, length, length-append}
use Rattle.cq_process_frames.specs.Frames.{front}
use Rattle.cq_process_frames.proofs.Framing.{front-front, same-front}
use Rattle.cq_process_frames.proofs.put.put_piece.Goals as goal

pub put_behind-requires-clause-begins : goal.put_behind-requires-clause-begins
put_behind-requires-clause-begins c =
    let at : c.len-start.result ≡ length c.args.out.now.items = c.len-start.ensures ∙ c.args.out.now.ok.0 in
    ap (λ n. n + length (front c.args.to)) at ∙ sym (ap (λ xs. length xs) c.in-Ok.ensures.ok ∙ length-append c.args.out.now.items (front c.args.to))

pub returns-in-Ok-clause-puts : goal.returns-in-Ok-clause-puts
returns-in-Ok-clause-puts c = c.put_behind.ensures.puts c.args.out.now.items c.in-Ok.ensures.ok

pub returns-in-Ok-clause-err : goal.returns-in-Ok-clause-err
returns-in-Ok-clause-err c = front-front c.put_behind.result c.args.out.now.items c.put_front.new.out.items c.put_behind.new.out.items (front c.args.to) c.in-Ok.ensures.ok c.put_behind.ensures.err

pub returns-in-Err-clause-err : goal.returns-in-Err-clause-err
returns-in-Err-clause-err c = same-front c.args.out.now.items c.put_front.new.out.items c.in-Err.ensures.err
