use Rattle.cq_store_wire.proofs.Mentions.{none-more}
use Rattle.cq_store_wire.proofs.resolved.reply_of.Goals as goal

pub returns-in-Other-clause-known : goal.returns-in-Other-clause-known
returns-in-Other-clause-known c = none-more c.other_of.result c.args.bodies.now c.other_of.ensures.without
