use Rattle.std.proofs.Common.{◌<◌, ◌^◌, List, ℕ, length, subst, arith, rules}
use Rattle.cq_wire.specs.Limits.{IsReply}
use Rattle.cq_store_wire.proofs.Mentions.{reply-fits}
use Rattle.cq_store_wire.proofs.fitting.client_fits.Goals as goal

pub returns : goal.returns
returns c = λ known is.
    let number : c.args.kept.now.number < 2 ^ 64 = search rules in
    let fits : IsReply c.args.kept.now.reply = search rules in
    let count : length c.args.bodies.now < 2 ^ 64 = omega (arith, c.len-count.ensures.len, c.len-count.ensures.small) in
    (c.ranges.client.fits, (number, reply-fits known c.args.kept.now.reply (subst (λ (bodies : List (List ℕ)). length bodies < 2 ^ 64) is count) fits))
