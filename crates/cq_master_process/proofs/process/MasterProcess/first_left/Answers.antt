-- By whether the link of the next server has a number left.
use Rattle.std.proofs.Common.{◌≤◌, ◌<◌, subst}
use Rattle.cq_master_process.specs.Links.{put_of}
use Rattle.cq_master_process.proofs.Turns.{fewer-above, first-is-left, more-done, none-done, none-is-left}
use Rattle.cq_process.specs.declared.outgoing.TheConstants.{LINK_LIMIT}
use Rattle.cq_master_process.proofs.process.MasterProcess.first_left.Goals as goal

pub loop-id-init : goal.loop-id-init
loop-id-init c = none-done c.args.self.now.core (put_of c.args.self.now.links)

pub loop-id-preserved : goal.loop-id-preserved
loop-id-preserved c =
    let at = c.loop-id in
    more-done c.args.self.now.core (put_of c.args.self.now.links) at.after c.in-Some.id at.invariant c.in-Some.ensures.next (subst (λ n. LINK_LIMIT ≤ n) c.last_put.ensures c.if-last_put-lt-LINK_LIMIT.false)

pub loop-id-smaller : goal.loop-id-smaller
loop-id-smaller c = fewer-above c.loop-id.after c.in-Some.id c.in-Some.ensures.above c.in-Some.ensures.fits

pub returns-then-last_put-lt-LINK_LIMIT : goal.returns-then-last_put-lt-LINK_LIMIT
returns-then-last_put-lt-LINK_LIMIT c =
    let at = c.loop-id in
    first-is-left c.args.self.now.core (put_of c.args.self.now.links) at.after c.in-Some.id at.invariant c.in-Some.ensures.next (subst (λ n. n < LINK_LIMIT) c.last_put.ensures c.if-last_put-lt-LINK_LIMIT.true)

pub returns : goal.returns
returns c = let at = c.loop-id in none-is-left c.args.self.now.core (put_of c.args.self.now.links) at.after c.next_behind.result at.invariant c.in_default.not-Some c.next_behind.ensures.next
