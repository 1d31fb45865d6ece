use Rattle.cq_store_wire.proofs.Mentions.{prefix-and}
use Rattle.cq_store_wire.proofs.put_reply.put_mention.Goals as goal

pub returns-in_err-put-in-None-clause-more : goal.returns-in_err-put-in-None-clause-more
returns-in_err-put-in-None-clause-more c = prefix-and c.args.bodies.now c.put.new.self c.args.body.now c.in_ok-put.ensures.new

pub returns-in_err-put-in-Some-clause-more : goal.returns-in_err-put-in-Some-clause-more
returns-in_err-put-in-Some-clause-more c = prefix-and c.args.bodies.now c.put.new.self c.args.body.now c.in_ok-put.ensures.new

pub returns-in_ok-put-in-None-clause-more : goal.returns-in_ok-put-in-None-clause-more
returns-in_ok-put-in-None-clause-more c = prefix-and c.args.bodies.now c.put.new.self c.args.body.now c.in_ok-put.ensures.new

pub returns-in_ok-put-in-Some-clause-more : goal.returns-in_ok-put-in-Some-clause-more
returns-in_ok-put-in-Some-clause-more c = prefix-and c.args.bodies.now c.put.new.self c.args.body.now c.in_ok-put.ensures.new
