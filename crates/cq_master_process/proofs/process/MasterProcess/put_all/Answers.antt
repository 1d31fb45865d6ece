-- One message more is put at each turn of the loop.
use Rattle.std.proofs.Common.{◌+◌, ◌∙◌, ap, sym, refl, arith}
use Rattle.cq_master_process.proofs.Left.{turn-empty, turn-here, turn-spent}
use Rattle.cq_master_process.proofs.Puts.{both-for, front-for, none-for}
use Rattle.cq_master_process.proofs.process.MasterProcess.put_all.Goals as goal

pub loop-init : goal.loop-init
loop-init c = record { puts = none-for c.args.self.now c.args.to c.args.out.now.items; number = c.last_put-counter.ensures; opened = c.requires }

pub loop-preserved : goal.loop-preserved
loop-preserved c =
    let at = c.loop in
    record {
      puts = both-for c.args.self.now at.self c.put_next.new.self c.args.to c.args.out.now.items at.out.items c.put_next.new.out.items at.invariant.puts c.in-Put.ensures.put;
      number = ap (λ n. n + 1) at.invariant.number ∙ sym c.in-Put.ensures.counts;
      opened = c.in-Put.ensures.open;
    }

pub returns-in-Nothing-clause-turn : goal.returns-in-Nothing-clause-turn
returns-in-Nothing-clause-turn c =
    let at = c.loop in
    turn-empty c.args.self.now at.self c.put_next.new.self c.args.to c.args.out.now.items at.out.items c.put_next.new.out.items at.invariant.puts c.in-Nothing.ensures.idle c.in-Nothing.ensures.bytes c.in-Nothing.ensures.empty

pub returns-in-Nothing-clause-front : goal.returns-in-Nothing-clause-front
returns-in-Nothing-clause-front c = let at = c.loop in front-for c.args.self.now at.self c.args.to c.args.out.now.items at.out.items c.put_next.new.out.items at.invariant.puts c.in-Nothing.ensures.bytes

pub returns-in-NoMemory-clause-turn : goal.returns-in-NoMemory-clause-turn
returns-in-NoMemory-clause-turn c =
    let at = c.loop in
    turn-here c.args.self.now at.self c.put_next.new.self c.args.to c.args.out.now.items at.out.items c.put_next.new.out.items at.invariant.puts c.in-NoMemory.ensures.idle c.in-NoMemory.ensures.bytes c.in-NoMemory.ensures.memory

pub returns-in-NoMemory-clause-front : goal.returns-in-NoMemory-clause-front
returns-in-NoMemory-clause-front c = let at = c.loop in front-for c.args.self.now at.self c.args.to c.args.out.now.items at.out.items c.put_next.new.out.items at.invariant.puts c.in-NoMemory.ensures.bytes

pub returns-in-Untellable-clause-front : goal.returns-in-Untellable-clause-front
returns-in-Untellable-clause-front c = let at = c.loop in front-for c.args.self.now at.self c.args.to c.args.out.now.items at.out.items c.put_next.new.out.items at.invariant.puts c.in-Untellable.ensures.bytes

pub returns-clause-turn : goal.returns-clause-turn
returns-clause-turn c =
    let at = c.loop in
    let number = at.invariant.number in
    turn-spent c.args.self.now at.self c.args.to c.args.out.now.items at.out.items at.invariant.puts (omega arith)

pub returns-clause-front : goal.returns-clause-front
returns-clause-front c = let at = c.loop in front-for c.args.self.now at.self c.args.to c.args.out.now.items at.out.items at.out.items at.invariant.puts refl
