-- What was written behind the front is told as a frame.
use Rattle.std.proofs.Common.{◌≡◌, ◌≤◌, ◌+◌, ◌∙◌, ap, sym, subst, length, length-append, arith}
use Rattle.cq_process.specs.Links.{PutsAt}
use Rattle.cq_process_frames.specs.Frames.{front}
use Rattle.cq_process_frames.proofs.Framing.{framed, grows, rebased, still-front}
use Rattle.cq_process_frames.proofs.Overwriting.{front-short}
use Rattle.cq_process_frames.proofs.put.put_behind.Goals as goal

pub tell-requires-clause-order : goal.tell-requires-clause-order
tell-requires-clause-order c = let bounds = front-short c.args.to in let long = c.requires.begins in omega (arith, bounds.1, long)

pub tell-requires-clause-short : goal.tell-requires-clause-short
tell-requires-clause-short c = let bounds = front-short c.args.to in let long = c.requires.begins in omega (arith, bounds.0, long)

pub tell-requires-clause-within : goal.tell-requires-clause-within
tell-requires-clause-within c = subst (λ n. n ≤ length c.put_next-written.new.bytes.items) (sym (c.len-body.ensures ∙ c.args.out.now.ok.0)) (grows c.args.links.now.outgoing c.put_next-written.new.self.outgoing c.args.core.now c.put_next-written.new.core c.args.to c.args.out.now.items c.put_next-written.new.bytes.items c.put_next-written.result c.put_next-written.ensures.puts)

pub returns-clause-puts : goal.returns-clause-puts
returns-clause-puts c = λ old is.
    let long : length c.args.out.now.items ≡ length old + length (front c.args.to) = ap (λ xs. length xs) is ∙ length-append old (front c.args.to) in
    let ends : c.args.start + length (front c.args.to) ≡ length c.args.out.now.items = c.requires.begins in
    let at : length old ≡ c.args.start = omega (arith, long, ends) in
    framed c.args.links.now.outgoing c.put_next-written.new.self.outgoing c.args.core.now c.put_next-written.new.core c.args.to old c.put_next-written.new.bytes.items c.tell.new.out.items c.put_next-written.result c.tell.result
    (subst (λ xs. PutsAt c.args.links.now.outgoing c.put_next-written.new.self.outgoing c.args.core.now c.put_next-written.new.core c.args.to xs c.put_next-written.new.bytes.items c.put_next-written.result) is c.put_next-written.ensures.puts)
    c.tell.ensures.same (λ piece written. c.tell.ensures.told old piece c.args.to written at (ends ∙ sym (c.len-body.ensures ∙ c.args.out.now.ok.0)))

pub returns-clause-err : goal.returns-clause-err
returns-clause-err c =
    let behind = rebased c.args.links.now.outgoing c.put_next-written.new.self.outgoing c.args.core.now c.put_next-written.new.core c.args.to c.args.out.now.items c.put_next-written.new.bytes.items c.put_next-written.result c.put_next-written.ensures.puts in
    still-front c.tell.result c.args.out.now.items c.put_next-written.new.bytes.items c.tell.new.out.items behind.0 behind.1.0 c.tell.ensures.err
