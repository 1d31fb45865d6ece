-- One server more.
use Rattle.cq_master_process.proofs.Answered.{same-front}
use Rattle.cq_master_process.proofs.Left.{all-up-to, front-up-to, more-up-to, none-up-to}
use Rattle.cq_master_process.proofs.Turns.{fewer-above}
use Rattle.cq_master_process.proofs.process.MasterProcess.put_in_order.Goals as goal

pub loop-id-init : goal.loop-id-init
loop-id-init c = none-up-to c.args.self.now c.args.out.now.items

pub loop-id-preserved : goal.loop-id-preserved
loop-id-preserved c =
    let at = c.loop-id in
    more-up-to c.args.self.now at.self c.turn.new.self at.after c.in-Some.id c.args.out.now.items at.out.items c.turn.new.out.items at.invariant c.in-Ok.ensures.turn c.in-Some.ensures.next c.in-Some.ensures.above

pub loop-id-smaller : goal.loop-id-smaller
loop-id-smaller c = fewer-above c.loop-id.after c.in-Some.id c.in-Some.ensures.above c.in-Some.ensures.fits

pub returns-in-Err-clause-front : goal.returns-in-Err-clause-front
returns-in-Err-clause-front c = let at = c.loop-id in front-up-to c.args.self.now at.self at.after c.args.out.now.items at.out.items c.turn.new.out.items at.invariant c.in-Err.ensures.front

pub returns-clause-puts : goal.returns-clause-puts
returns-clause-puts c =
    let at = c.loop-id in
    all-up-to c.args.self.now at.self at.after c.next_behind.result c.args.out.now.items at.out.items at.invariant c.in_default.not-Some c.next_behind.ensures.next

pub returns-clause-front : goal.returns-clause-front
returns-clause-front c = let at = c.loop-id in front-up-to c.args.self.now at.self at.after c.args.out.now.items at.out.items at.out.items at.invariant (same-front at.out.items)
